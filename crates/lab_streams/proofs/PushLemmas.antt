-- What a push leaves, and what a step of an end or a call of a Mux leaves of ends and link
-- together.
use Rattle.std.proofs.Common.{◌≡◌, ◌≢◌, ℕ, Bool, true, false, cond, Ok, Option, Some, None, List, [], ◌∷◌, ◌++◌, length, refl, sym, ap, subst, ◌∙◌, append-nil, arith}
use Rattle.std.specs.Prelude.{nat_eq}
use Rattle.std.specs.List.{cons_option}
use Rattle.std.proofs.lemmas.Bool.{eq-eqb, eqb-true, ne_eqb}
use Rattle.chan_values.specs.declared.side.Side.{Side}
use Rattle.chan_values.specs.Sides.{other}
use Rattle.chan_values.specs.declared.item.Item.{Item}
use Rattle.chan_values.specs.declared.side.Side.TheVariants.{Plugin, Agent}
use Rattle.channel_core.specs.declared.answer.Look.{Look}
use Rattle.channel_core.specs.declared.answer.Put.{Put}
use Rattle.channel_core.specs.History.{emissions}
use Rattle.channel_core.specs.declared.call.EndAnswer.{EndAnswer}
use Rattle.channel_core.specs.declared.call.EndCall.{EndCall}
use Rattle.channel_core.specs.Call.{Entry}
use Rattle.channel_core.specs.Legal.{IsLegal, answer_to_put, look_at}
use Rattle.channel_core.specs.Stands.{EndState, Follows, Stands}
use Rattle.channel_core.specs.World.{Event, history_of}
use Rattle.channel_core.proofs.LegalLemmas.{answer_to-known}
use Rattle.lab_script.specs.declared.command.Action.{Action}
use Rattle.lab_script.specs.declared.outcome.Outcome.{Outcome}
use Rattle.lab_script.specs.declared.verb.Verb.TheVariants as Verb
use Rattle.lab_run.specs.declared.endpoint.Endpoint.{Endpoint}
use Rattle.lab_run.specs.declared.pair.Pair.{Pair}
use Rattle.lab_run.specs.Ends.{IsCalled, IsEndpoint, IsPair, Makes, endpoint_of}
use Rattle.lab_run.specs.Outcomes.{encodings_in, outcome_of_put}
use Rattle.lab_run.specs.Steps.{Step, events_of, id_of, step_of}
use Rattle.lab_run.proofs.PairLemmas.{IsPair-kept, PairMakes-acted}
use Rattle.lab_run.proofs.StepLemmas.{Makes-called}
use Rattle.smux_streams.specs.Call.{Outs}
use Rattle.lab_streams.specs.declared.link.Link.{Link}
use Rattle.lab_streams.specs.declared.streams.Streams.{Streams}
use Rattle.lab_streams.specs.Ends.{IsLink, IsStreams, KeepsBytes, carrier_of}
use Rattle.lab_script.specs.Report.{report_line}
use Rattle.lab_streams.specs.Outcomes.{items_in, outcome_of_no_room}
use Rattle.lab_streams.specs.Run.{stream_report}
use Rattle.lab_streams.specs.Steps.{Past, StreamStep, after, bytes_of, outgoing, plain_step, push_step, put_step, refused_step, stream_item, with_call}
use Rattle.lab_streams.proofs.EndLemmas.{IsLink-end, bytes_of-none, put_releases}
use Rattle.lab_streams.proofs.PastLemmas.{past_by}
use Rattle.lab_streams.proofs.ReportLemmas.{report-once}

-- an end answers a look with what its history tells
pub looked : (w : ℕ) (h : List Entry) (end : EndState) (look : Look)
    → IsLegal w h
    → Stands w end h
    → Follows end end EndCall.Look (EndAnswer.Look look)
    → look ≡ look_at w h
looked w h end look legal stands follows =
    let entry : Entry = record { call = EndCall.Look; answer = EndAnswer.Look look } in
    let known : EndAnswer.Look look ≡ EndAnswer.Look (look_at w h) =
    answer_to-known w h entry (follows w h legal stands).0 (λ no. no) in
    cc

-- a step without a call of an end
pub events-none : (past : Past) (s : StreamStep) → s.event ≡ None
    → (after past (s ∷ [])).events ≡ past.events
events-none past s none =
    ap (λ (o : Option Event). past.events ++ cons_option o []) none ∙ append-nil past.events

-- the ends after a call of a Mux
pub IsStreams-mux : (w : ℕ) (past : Past) (s : StreamStep) (old : Streams) (new : Link)
    → s.event ≡ None
    → IsStreams w past old
    → IsLink (after past (s ∷ [])) new
    → IsStreams w (after past (s ∷ [])) (record old { link = new })
IsStreams-mux w past s old new none is link =
    record {
      pair =
          subst (λ (v : List Event). IsPair w v old.pair) (sym (events-none past s none)) is.pair;
      link = link;
    }

-- both after a step of an end
pub IsStreams-end : (w : ℕ) (past : Past) (now line : ℕ) (side : Side) (action : Action)
    (old new : Streams)
    → IsStreams w past old
    → let s = step_of w past.events now line side action in
    IsPair w (past.events ++ events_of (s ∷ [])) new.pair
    → KeepsBytes side (bytes_of (items_in s.outcome)) old.link new.link
    → IsStreams w (after past (plain_step s ∷ [])) new
IsStreams-end w past now line side action old new is pair keeps =
    record {
      pair = pair;
      link = IsLink-end w past now line side action old.link new.link is.link keeps;
    }

-- nothing came
pub KeepsBytes-none : (side : Side) (link : Link) (came : List ℕ) → came ≡ []
    → KeepsBytes side came link link
KeepsBytes-none side link came none =
    let carrier = carrier_of side link in
    record {
      here =
          ap (λ (l : List ℕ). record carrier { left = l })
          (sym (append-nil carrier.left) ∙ ap (λ (l : List ℕ). carrier.left ++ l) (sym none));
      there = refl;
    }

-- an end that is called emits nothing by a put
put_emits : (answer : Put) → encodings_in (outcome_of_put answer) ≡ []
put_emits (Put.Seq n) = refl
put_emits (Put.Closed item) = refl
put_emits (Put.Past item) = refl
put_emits (Put.Spent item) = refl
put_emits (Put.Full item) = refl

-- the end of a side, of the two
endpoint_at : (w : ℕ) (world : List Event) (pair : Pair) (side : Side) → IsPair w world pair
    → IsEndpoint w side (history_of side world) (endpoint_of side pair)
endpoint_at w world pair Plugin is = is.plugin
endpoint_at w world pair Agent is = is.agent

-- what a put leaves of the two ends
record IsPutIn (w : ℕ) (world : List Event) (s : Step) (new : Pair) (outcome : Outcome)
    : Type 0 where
  told : outcome ≡ s.outcome
  made : IsPair w (world ++ events_of (s ∷ [])) new

put_in : (w : ℕ) (world : List Event) (now line : ℕ) (side : Side) (item : Item) (old new : Pair)
    (outcome : Outcome)
    → IsPair w world old
    → (let k = length (emissions (history_of side world)) in
    let call = EndCall.Put item (id_of line) now in
    IsCalled side k call (endpoint_of side old).end (endpoint_of side new).end outcome)
    → (endpoint_of side new).sent.items ≡ (endpoint_of side old).sent.items
    → (endpoint_of side new).side ≡ (endpoint_of side old).side
    → endpoint_of (other side) new ≡ endpoint_of (other side) old
    → IsPutIn w world (step_of w world now line side (Action.Put item)) new outcome
put_in w world now line side item old new outcome is called sent same away =
    let s = step_of w world now line side (Action.Put item) in
    let call = EndCall.Put item (id_of line) now in
    let far = other side in
    let made : Makes w world s (endpoint_of side new) outcome =
    Makes-called w world line Verb.Put side call (endpoint_of side old) (endpoint_of side new)
    (Ok outcome) is.legal (endpoint_at w world old side is) called sent same in
    let there : IsEndpoint w far (history_of far world) (endpoint_of far new) =
    subst (λ (e : Endpoint). IsEndpoint w far (history_of far world) e) (sym away)
    (endpoint_at w world old far is) in
    let both = PairMakes-acted w world now line side (Action.Put item) new outcome
    (record { legal = is.legal; honest = is.honest }) made there in
    let none : encodings_in outcome ≡ [] =
    ap encodings_in made.told ∙ put_emits (answer_to_put w (history_of side world) item) in
    let kept : (endpoint_of side new).sent.items
    ≡ (endpoint_of side new).sent.items ++ encodings_in outcome =
    sym (append-nil (endpoint_of side new).sent.items)
    ∙ ap (λ (l : List (List ℕ)). (endpoint_of side new).sent.items ++ l) (sym none) in
    record {
      told = made.told;
      made = IsPair-kept w world s new new outcome both refl refl kept refl;
    }

-- what a put leaves of ends and link
pub record IsPutAt (w : ℕ) (past : Past) (s : Step) (new : Streams) (outcome : Outcome)
    : Type 0 where
  pub told : outcome ≡ s.outcome
  pub made : IsStreams w (after past (plain_step s ∷ [])) new

pub put_at : (w : ℕ) (past : Past) (now line : ℕ) (side : Side) (item : Item)
    (old new : Streams) (outcome : Outcome)
    → IsStreams w past old
    → (let k = length (emissions (history_of side past.events)) in
    let call = EndCall.Put item (id_of line) now in
    IsCalled side k call (endpoint_of side old.pair).end (endpoint_of side new.pair).end outcome)
    → (endpoint_of side new.pair).sent.items ≡ (endpoint_of side old.pair).sent.items
    → (endpoint_of side new.pair).side ≡ (endpoint_of side old.pair).side
    → endpoint_of (other side) new.pair ≡ endpoint_of (other side) old.pair
    → new.link ≡ old.link
    → IsPutAt w past (step_of w past.events now line side (Action.Put item)) new outcome
put_at w past now line side item old new outcome is called sent same away link =
    let s = step_of w past.events now line side (Action.Put item) in
    let made =
    put_in w past.events now line side item old.pair new.pair outcome is.pair called sent same away in
    let none : bytes_of (items_in s.outcome) ≡ [] =
    ap bytes_of (put_releases (answer_to_put w (history_of side past.events) item))
    ∙ bytes_of-none in
    let keeps : KeepsBytes side (bytes_of (items_in s.outcome)) old.link new.link =
    subst (λ (l : Link). KeepsBytes side (bytes_of (items_in s.outcome)) old.link l) (sym link)
    (KeepsBytes-none side old.link (bytes_of (items_in s.outcome)) none) in
    record {
      told = made.told;
      made =
          IsStreams-end w past now line side (Action.Put item) old new is made.made keeps;
    }

-- where there is no room nothing happens
pub push-refused : (w : ℕ) (past : Past) (now line : ℕ) (side : Side) (most : ℕ) (look : Look)
    → look ≡ look_at w (history_of side past.events)
    → look.room ≡ 0
    → push_step w past now line side most ≡ refused_step line side (outcome_of_no_room look)
push-refused w past now line side most look is none =
    let put = put_step w past now line side most (outgoing side past most) in
    ap
    (λ (l : Look). cond (nat_eq l.room 0) (refused_step line side (outcome_of_no_room l)) put)
    (sym is)
    ∙ ap (λ (b : Bool). cond b (refused_step line side (outcome_of_no_room look)) put)
    (eq-eqb look.room 0 none)

pub after-refused : (past : Past) (line : ℕ) (side : Side) (outcome : Outcome)
    → after past (refused_step line side outcome ∷ []) ≡ past
after-refused past line side outcome =
    past_by _ _ _ _ (append-nil past.events) (append-nil past.calls)

-- where there is room what the Mux gives out is put in
pub push-given : (w : ℕ) (past : Past) (now line : ℕ) (side : Side) (most : ℕ) (look : Look)
    (bytes : List ℕ)
    → look ≡ look_at w (history_of side past.events)
    → look.room ≢ 0
    → bytes ≡ outgoing side past most
    → push_step w past now line side most ≡ put_step w past now line side most bytes
push-given w past now line side most look bytes is some given =
    let put : List ℕ → StreamStep = λ b. put_step w past now line side most b in
    ap
    (λ (l : Look). cond (nat_eq l.room 0) (refused_step line side (outcome_of_no_room l))
    (put (outgoing side past most)))
    (sym is)
    ∙ ap
    (λ (b : Bool). cond b (refused_step line side (outcome_of_no_room look))
    (put (outgoing side past most)))
    (ne_eqb look.room 0 some)
    ∙ ap put (sym given)

-- a Mux that gives nothing puts nothing in
pub push-empty : (w : ℕ) (past : Past) (now line : ℕ) (side : Side) (most : ℕ) (look : Look)
    (bytes : List ℕ)
    → look ≡ look_at w (history_of side past.events)
    → look.room ≢ 0
    → bytes ≡ outgoing side past most
    → nat_eq (length bytes) 0 ≡ true
    → push_step w past now line side most ≡ put_step w past now line side most []
push-empty w past now line side most look [] is some given none =
    push-given w past now line side most look [] is some given
push-empty w past now line side most look (b ∷ bytes) is some given none =
    absurd (omega (arith, eqb-true (length (b ∷ bytes)) 0 none))

-- what a push of some bytes leaves and tells
pub record Pushes (w : ℕ) (past : Past) (now line : ℕ) (side : Side) (most : ℕ)
    (bytes : List ℕ) : Type 0 where
  pub leaves :
      let s = step_of w past.events now line side (Action.Put (stream_item bytes)) in
      after past (push_step w past now line side most ∷ [])
      ≡ after (with_call past side (Outs most (Some bytes))) (plain_step s ∷ [])
  pub told :
      let s = step_of w past.events now line side (Action.Put (stream_item bytes)) in
      stream_report (push_step w past now line side most ∷ [])
      ≡ report_line line Verb.StreamPush (Some side) s.outcome

-- of some bytes
put_some : (w : ℕ) (past : Past) (now line : ℕ) (side : Side) (most : ℕ) (bytes : List ℕ)
    → nat_eq (length bytes) 0 ≡ false
    → push_step w past now line side most ≡ put_step w past now line side most bytes
    → Pushes w past now line side most bytes
put_some w past now line side most [] some is = absurd (cc some)
put_some w past now line side most (b ∷ bytes) some is =
    let s = put_step w past now line side most (b ∷ bytes) in
    let given = with_call past side (Outs most (Some (b ∷ bytes))) in
    record {
      leaves =
          ap (λ (x : StreamStep). after past (x ∷ [])) is
          ∙ past_by _ _ _ _ refl (sym (append-nil given.calls));
      told =
          ap (λ (x : StreamStep). stream_report (x ∷ [])) is
          ∙ report-once s line Verb.StreamPush (Some side) _ refl refl;
    }

pub pushes : (w : ℕ) (past : Past) (now line : ℕ) (side : Side) (most : ℕ) (look : Look)
    (bytes : List ℕ)
    → look ≡ look_at w (history_of side past.events)
    → look.room ≢ 0
    → bytes ≡ outgoing side past most
    → nat_eq (length bytes) 0 ≡ false
    → Pushes w past now line side most bytes
pushes w past now line side most look bytes is some given full =
    put_some w past now line side most bytes full
    (push-given w past now line side most look bytes is some given)

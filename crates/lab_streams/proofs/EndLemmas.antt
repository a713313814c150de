-- What a step of an end leaves: the bytes of the streams that it released came at its side of the
-- link.
use Rattle.std.proofs.Common.{◌≡◌, ℕ, ◌+◌, ◌<◌, get_or, take, Bool, true, false, cond, Option, Some, None, List, [], ◌∷◌, ◌++◌, length, refl, sym, ap, subst, ◌∙◌, append_assoc, append-nil}
use Rattle.std.specs.Prelude.{nat_lt}
use Rattle.std.specs.List.{cons_option}
use Rattle.std.specs.Str.{bytes_eq}
use Rattle.std.proofs.lemmas.Grind.{flat_map-append}
use Rattle.std.proofs.lemmas.List.{take_more}
use Rattle.agent_message.specs.Sha256.{sha256}
use Rattle.chan_values.specs.declared.item.Item.{Item}
use Rattle.chan_values.specs.declared.side.Side.{Side}
use Rattle.chan_values.specs.Sides.{other}
use Rattle.channel_core.specs.declared.answer.Heard.{Heard}
use Rattle.channel_core.specs.declared.answer.Pull.{Pull}
use Rattle.channel_core.specs.declared.answer.Put.{Put}
use Rattle.channel_core.specs.declared.answer.Tick.{Tick}
use Rattle.channel_core.specs.declared.call.EndAnswer.{EndAnswer}
use Rattle.channel_core.specs.declared.call.EndCall.{EndCall}
use Rattle.channel_core.specs.declared.message.Incoming.TheVariants as Incoming
use Rattle.channel_core.specs.declared.message.Outgoing.{Outgoing}
use Rattle.channel_core.specs.Call.{Entry}
use Rattle.channel_core.specs.Exchange.{incoming_of}
use Rattle.channel_core.specs.History.{emissions, items_released, released_items}
use Rattle.channel_core.specs.Legal.{answer_to}
use Rattle.channel_core.specs.Wire.{message_of}
use Rattle.channel_core.specs.World.{Event, history_of}
use Rattle.channel_core.proofs.HistoryLemmas.{released_items-push}
use Rattle.channel_core.proofs.WorldLemmas.{event_of, history_of-here}
use Rattle.lab_script.specs.declared.command.Action.{Action}
use Rattle.lab_script.specs.declared.outcome.Outcome.{Outcome}
use Rattle.lab_script.specs.declared.verb.Verb.{Verb}
use Rattle.lab_run.specs.Damage.{damaged, outcome_of_hurt}
use Rattle.lab_run.specs.Outcomes.{outcome_of, outcome_of_heard, outcome_of_put, outcome_of_tick}
use Rattle.lab_run.specs.Steps.{Step, called, emission_at, events_of, heard_at, hurt_at, id_of, step_of}
use Rattle.lab_run.proofs.RightLemmas.{step_of-away}
use Rattle.lab_streams.specs.declared.carrier.Carrier.{Carrier}
use Rattle.lab_streams.specs.declared.link.Link.{Link}
use Rattle.lab_streams.specs.Ends.{IsCarrier, IsLink, KeepsBytes, carrier_of}
use Rattle.lab_streams.specs.Outcomes.{items_in}
use Rattle.lab_streams.specs.Steps.{Past, after, arrived, bytes_in, bytes_of, is_client, mux_history, plain_step}
use Rattle.lab_streams.proofs.CallLemmas.{carrier_at, link_of}
use Rattle.lab_streams.proofs.PastLemmas.{past_by}
use Rattle.smux_streams.specs.Call.{Entry as MuxEntry}
use Rattle.smux_streams.specs.History.{consumed}

-- the bytes of items and of more
pub bytes_of-append : (a b : List Item) → bytes_of (a ++ b) ≡ bytes_of a ++ bytes_of b
unfolding bytes_of
bytes_of-append a b = flat_map-append _ a b

pub bytes_of-none : bytes_of [] ≡ []
unfolding bytes_of
bytes_of-none = refl

-- the bytes of one item more
pub bytes_of-push : (items : List Item) (i : ℕ) (item : Item)
    → i < length items
    → item ≡ get_or items i item
    → bytes_of (take (i + 1) items) ≡ bytes_of (take i items) ++ bytes_in item
unfolding bytes_of
bytes_of-push items i item less is =
    ap bytes_of (take_more items i item less)
    ∙ ap (λ (x : Item). bytes_of (take i items ++ x ∷ [])) (sym is)
    ∙ flat_map-append bytes_in (take i items) (item ∷ [])
    ∙ ap (λ (l : List ℕ). bytes_of (take i items) ++ l) (append-nil (bytes_in item))

pub put_releases : (answer : Put) → items_in (outcome_of_put answer) ≡ []
put_releases (Put.Seq n) = refl
put_releases (Put.Closed item) = refl
put_releases (Put.Past item) = refl
put_releases (Put.Spent item) = refl
put_releases (Put.Full item) = refl

heard_releases : (answer : Heard)
    → items_in (outcome_of_heard answer) ≡ items_released (EndAnswer.Heard answer)
heard_releases (Heard.Released items) = refl
heard_releases (Heard.Finished items) = refl
heard_releases Heard.Late = refl
heard_releases Heard.Beyond = refl
heard_releases (Heard.PastEnd n) = refl
heard_releases (Heard.Acked n) = refl
heard_releases (Heard.UnknownAck n) = refl
heard_releases Heard.Paused = refl
heard_releases Heard.Started = refl
heard_releases Heard.Ended = refl
heard_releases Heard.AfterClose = refl
heard_releases (Heard.NoMemory incoming) = refl

tick_releases : (answer : Tick) → items_in (outcome_of_tick answer) ≡ []
tick_releases Tick.Nothing = refl
tick_releases (Tick.Due n) = refl
tick_releases (Tick.GaveUp n) = refl

-- what is reported of an answer tells what it released
pub items_in-outcome_of : (side : Side) (k : ℕ) (answer : EndAnswer)
    → items_in (outcome_of side k answer) ≡ items_released answer
items_in-outcome_of side k (EndAnswer.Put answer) = put_releases answer
items_in-outcome_of side k (EndAnswer.Heard answer) = heard_releases answer
items_in-outcome_of side k (EndAnswer.Tick answer) = tick_releases answer
items_in-outcome_of side k (EndAnswer.Pull (Pull.Emit out)) = refl
items_in-outcome_of side k (EndAnswer.Pull Pull.Idle) = refl
items_in-outcome_of side k (EndAnswer.Pull Pull.NoMemory) = refl
items_in-outcome_of side k (EndAnswer.Look answer) = refl
items_in-outcome_of side k EndAnswer.Done = refl

-- what a step released is in its outcome
abbrev Releases : List Event → Side → Step → Type 0
Releases world side s =
    released_items (history_of side (world ++ events_of (s ∷ [])))
    ≡ released_items (history_of side world) ++ items_in s.outcome

releases_called : (w : ℕ) (world : List Event) (line : ℕ) (verb : Verb) (side : Side)
    (call : EndCall)
    → Releases world side (called w world line verb side call)
releases_called w world line verb side call =
    let h = history_of side world in
    let x = event_of w world side call in
    ap released_items (history_of-here side world x refl)
    ∙ released_items-push h x.entry
    ∙ ap (λ (l : List Item). released_items h ++ l)
    (sym (items_in-outcome_of side (length (emissions h)) (answer_to w h call)))

releases_quiet : (world : List Event) (side : Side) (s : Step)
    → s.event ≡ None
    → items_in s.outcome ≡ []
    → Releases world side s
releases_quiet world side s none quiet =
    let same : world ++ events_of (s ∷ []) ≡ world =
    ap (λ (o : Option Event). world ++ cons_option o []) none
    ∙ append-nil world in
    ap (λ (v : List Event). released_items (history_of side v)) same
    ∙ sym (append-nil (released_items (history_of side world)))
    ∙ ap (λ (l : List Item). released_items (history_of side world) ++ l) (sym quiet)

releases_heard : (w : ℕ) (world : List Event) (now line : ℕ) (side : Side) (o : Option Outgoing)
    → Releases world side (heard_at w world now line side o)
releases_heard w world now line side None =
    releases_quiet world side (heard_at w world now line side None) refl refl
releases_heard w world now line side (Some out) =
    releases_called w world line Verb.Hear side (EndCall.Heard now (incoming_of out))

hurt_releases : (side : Side) (place : ℕ) (emission : Option Outgoing)
    → items_in (outcome_of_hurt side place emission) ≡ []
hurt_releases side place None = refl
hurt_releases side place (Some out) =
    let payload = (message_of (other side) out).payload in
    let new = damaged payload place in
    choice (nat_lt place (length payload)) (bytes_eq (sha256 payload) (sha256 new)) _
  where
    choice : (there same : Bool) (n : ℕ)
        → items_in (cond there (cond same Outcome.Passed (Outcome.Refused n)) Outcome.Absent)
        ≡ []
    choice true true n = refl
    choice true false n = refl
    choice false same n = refl

releases_step : (w : ℕ) (world : List Event) (now line : ℕ) (side : Side) (action : Action)
    → Releases world side (step_of w world now line side action)
releases_step w world now line side (Action.Put item) =
    releases_called w world line Verb.Put side (EndCall.Put item (id_of line) now)
releases_step w world now line side (Action.PutLast item) =
    releases_called w world line Verb.Last side (EndCall.PutLast item (id_of line) now)
releases_step w world now line side Action.Pull =
    releases_called w world line Verb.Pull side (EndCall.Pull now)
releases_step w world now line side Action.Tick =
    releases_called w world line Verb.Tick side (EndCall.Tick now)
releases_step w world now line side Action.Close =
    releases_called w world line Verb.Close side EndCall.Close
releases_step w world now line side (Action.Hear which) =
    releases_heard w world now line side
    (emission_at (emissions (history_of (other side) world)) which)
releases_step w world now line side (Action.Hurt which place) =
    let emission = emission_at (emissions (history_of (other side) world)) which in
    releases_quiet world side (hurt_at line side place emission) refl
    (hurt_releases side place emission)
releases_step w world now line side Action.Lost =
    releases_called w world line Verb.Lost side EndCall.Lost
releases_step w world now line side Action.Open =
    releases_called w world line Verb.Open side (EndCall.Opened now)
releases_step w world now line side Action.Pause =
    releases_called w world line Verb.Pause side (EndCall.Heard now Incoming.Pause)
releases_step w world now line side Action.Start =
    releases_called w world line Verb.Start side (EndCall.Heard now Incoming.Start)
releases_step w world now line side Action.End =
    releases_called w world line Verb.End side (EndCall.Heard now (Incoming.Closing []))

-- more of the calls of ends
abbrev pub with_events : Past → List Event → Past
with_events past xs = record { events = past.events ++ xs; calls = past.calls }

-- a step of an end makes no call of a Mux
pub after-plain : (past : Past) (s : Step)
    → after past (plain_step s ∷ []) ≡ with_events past (events_of (s ∷ []))
after-plain past s = past_by _ _ _ _ refl (append-nil past.calls)

-- what came by a step of an end
pub arrived-here : (w : ℕ) (past : Past) (now line : ℕ) (side : Side) (action : Action)
    → let s = step_of w past.events now line side action in
    arrived side (with_events past (events_of (s ∷ [])))
    ≡ arrived side past ++ bytes_of (items_in s.outcome)
arrived-here w past now line side action =
    let s = step_of w past.events now line side action in
    ap bytes_of (releases_step w past.events now line side action)
    ∙ bytes_of-append (released_items (history_of side past.events)) (items_in s.outcome)

-- came at its side alone
pub arrived-there : (w : ℕ) (past : Past) (now line : ℕ) (side : Side) (action : Action)
    → let s = step_of w past.events now line side action in
    arrived (other side) (with_events past (events_of (s ∷ []))) ≡ arrived (other side) past
arrived-there w past now line side action =
    ap (λ (h : List Entry). bytes_of (released_items h))
    (step_of-away w past.events now line side action)

-- more came at a side of the link
carrier_keeps : (client : Bool) (g : List MuxEntry) (came more all : List ℕ) (old new : Carrier)
    → IsCarrier client g came old
    → new ≡ record old { left = old.left ++ more }
    → all ≡ came ++ more
    → IsCarrier client g all new
carrier_keeps client g came more all old new before is longer =
    let P : Carrier → Type 0 = λ c. IsCarrier client g all c in
    subst P (sym is)
    (record {
      stands = before.stands;
      kept =
          sym (append_assoc (consumed g) old.left more)
          ∙ ap (λ (l : List ℕ). l ++ more) before.kept
          ∙ sym longer;
    })

-- the link after a step of an end
pub IsLink-end : (w : ℕ) (past : Past) (now line : ℕ) (side : Side) (action : Action)
    (old new : Link)
    → IsLink past old
    → let s = step_of w past.events now line side action in
    KeepsBytes side (bytes_of (items_in s.outcome)) old new
    → IsLink (after past (plain_step s ∷ [])) new
IsLink-end w past now line side action old new is keeps =
    let s = step_of w past.events now line side action in
    let far = other side in
    let longer = with_events past (events_of (s ∷ [])) in
    let P : List ℕ → Type 0 =
    λ came. IsCarrier (is_client far) (mux_history far past) came (carrier_of far new) in
    let Q : Carrier → Type 0 =
    λ c. IsCarrier (is_client far) (mux_history far past) (arrived far past) c in
    let made : IsLink longer new =
    link_of longer new side
    (carrier_keeps (is_client side) (mux_history side past) (arrived side past)
    (bytes_of (items_in s.outcome)) (arrived side longer) (carrier_of side old)
    (carrier_of side new) (carrier_at past old side is) keeps.here
    (arrived-here w past now line side action))
    (subst P (sym (arrived-there w past now line side action))
    (subst Q (sym keeps.there) (carrier_at past old far is)))
    is.legal in
    subst (λ (p : Past). IsLink p new) (sym (after-plain past s)) made

-- What is recorded of a step is what its line shows by its verb.
use Rattle.std.proofs.Common.{◌≡◌, ℕ, ◌-◌, Option, Some, None, List, [], ◌∷◌, ◌++◌, length, map, refl, sym, ap, subst, ◌∙◌}
use Rattle.std.specs.List.{cons_option}
use Rattle.std.specs.Option.{option_map}
use Rattle.std.proofs.lemmas.List.{length-map}
use Rattle.std.proofs.lemmas.Option.{slice_get-map}
use Rattle.chan_values.specs.declared.side.Side.{Side}
use Rattle.chan_values.specs.Sides.{other}
use Rattle.channel_core.specs.declared.answer.Pull.{Pull}
use Rattle.channel_core.specs.declared.answer.Tick.{Tick}
use Rattle.channel_core.specs.declared.call.EndAnswer.TheVariants as EndAnswer
use Rattle.channel_core.specs.declared.call.EndCall.TheVariants as EndCall
use Rattle.channel_core.specs.declared.message.Outgoing.{Outgoing}
use Rattle.channel_core.specs.Exchange.{incoming_of}
use Rattle.channel_core.specs.History.{emissions}
use Rattle.channel_core.specs.Legal.{answer_to_pull, answer_to_tick}
use Rattle.channel_core.specs.Wire.{encoding}
use Rattle.channel_core.specs.World.{Event, history_of}
use Rattle.session_audit.specs.Acts.{act_of}
use Rattle.session_audit.specs.Journal.{journal, letter}
use Rattle.lab_script.specs.declared.command.Action.{Action}
use Rattle.lab_script.specs.declared.outcome.Outcome.{Outcome}
use Rattle.lab_script.specs.declared.verb.Verb.{Verb}
use Rattle.lab_script.specs.declared.word.Which.{Which}
use Rattle.lab_script.specs.Command.{verb_of}
use Rattle.lab_run.specs.declared.pair.Pair.{Pair}
use Rattle.lab_run.specs.Ends.{IsEndpoint, PairMakes, endpoint_of}
use Rattle.lab_run.specs.Outcomes.{outcome_of_pull, outcome_of_tick}
use Rattle.lab_run.specs.Steps.{Step, emission_at, events_of, heard_at, step_of}
use Rattle.lab_run.proofs.RightLemmas.{IsOf-step_of, step_of-away}
use Rattle.lab_journal.specs.Recording.{emission_record, hearing_record, tick_record, verb_record}
use Rattle.lab_journal.specs.Records.{bytes_heard, bytes_of, record_of, step_record, which_of}
use Rattle.lab_journal.proofs.TextLemmas.{text_of}

-- a pull
pull_record : (side : Side) (bytes : List ℕ) (now k : ℕ) (p : Pull)
    → option_map (record_of side bytes) (act_of (EndAnswer.Pull p) (EndCall.Pull now))
    ≡ emission_record side (outcome_of_pull side k p)
pull_record side bytes now k (Pull.Emit out) = refl
pull_record side bytes now k Pull.Idle = refl
pull_record side bytes now k Pull.NoMemory = refl

-- a tick
timer_record : (side : Side) (bytes : List ℕ) (now : ℕ) (t : Tick)
    → option_map (record_of side bytes) (act_of (EndAnswer.Tick t) (EndCall.Tick now))
    ≡ tick_record side (outcome_of_tick t)
timer_record side bytes now Tick.Nothing = refl
timer_record side bytes now (Tick.Due n) = refl
timer_record side bytes now (Tick.GaveUp n) = refl

-- the bytes of what is heard of an emission
pub emission_heard : (which : Which) (world : List Event) (line now : ℕ) (side : Side) (out : Outgoing)
    → bytes_heard which world line side (EndCall.Heard now (incoming_of out))
    ≡ bytes_of (other side) (emission_at (emissions (history_of (other side) world)) which)
emission_heard which world line now side (Outgoing.Stream m) = refl
emission_heard which world line now side (Outgoing.Ack n id date) = refl

-- a hearing
heard_record : (w : ℕ) (which : Which) (world : List Event) (now line : ℕ) (side : Side)
    (o : Option Outgoing)
    → emission_at (emissions (history_of (other side) world)) which ≡ o
    → step_record which world (heard_at w world now line side o)
    ≡ hearing_record side (option_map (encoding (other side)) o)
heard_record w which world now line side None is = refl
heard_record w which world now line side (Some out) is =
    ap (λ (bytes : List ℕ). Some (letter side ∷ 1 ∷ bytes))
    (emission_heard which world line now side out ∙ ap (bytes_of (other side)) is)

pub step_record-verb : (w : ℕ) (world : List Event) (now line : ℕ) (side : Side) (action : Action)
    → let which = which_of action in
    let sent = emissions (history_of (other side) world) in
    let s = step_of w world now line side action in
    step_record which world s
    ≡ verb_record (verb_of action) (option_map (encoding (other side)) (emission_at sent which))
    line now side s.outcome
step_record-verb w world now line side (Action.Put item) = refl
step_record-verb w world now line side (Action.PutLast item) = refl
step_record-verb w world now line side Action.Pull =
    pull_record side _ now _ (answer_to_pull w (history_of side world) now)
step_record-verb w world now line side Action.Tick =
    timer_record side _ now (answer_to_tick (history_of side world) now)
step_record-verb w world now line side Action.Close = refl
step_record-verb w world now line side (Action.Hear which) =
    heard_record w which world now line side
    (emission_at (emissions (history_of (other side) world)) which) refl
step_record-verb w world now line side (Action.Hurt which place) = refl
step_record-verb w world now line side Action.Lost = refl
step_record-verb w world now line side Action.Open = refl
step_record-verb w world now line side Action.Pause = refl
step_record-verb w world now line side Action.Start = refl
step_record-verb w world now line side Action.End = refl

-- ---- what an end of the lab has kept

emission_at-map : {X Y : Type 0} (f : X → Y) (xs : List X) (which : Which)
    → emission_at (map f xs) which ≡ option_map f (emission_at xs which)
emission_at-map f xs (Which.Number k) = slice_get-map f xs k
emission_at-map f xs Which.Last = rw (length-map xs f) (slice_get-map f xs (length xs - 1))

-- so it is by what the other end has kept of its emissions
pub step_record-kept : (w : ℕ) (world : List Event) (now line : ℕ) (side : Side) (action : Action)
    (pair : Pair) (outcome : Outcome)
    → let s = step_of w world now line side action in
    PairMakes w world s pair outcome
    → let which = which_of action in
    let kept = emission_at (endpoint_of (other side) pair).sent.items which in
    step_record which world s ≡ verb_record (verb_of action) kept line now side outcome
step_record-kept w world now line side action pair outcome made =
    let s = step_of w world now line side action in
    let which = which_of action in
    let far = other side in
    let at = (IsOf-step_of w world now line side action).at in
    let there : IsEndpoint w far (history_of far (world ++ events_of (s ∷ []))) (endpoint_of far pair)
    = subst
    (λ (z : Side). IsEndpoint w (other z) (history_of (other z) (world ++ events_of (s ∷ [])))
    (endpoint_of (other z) pair))
    at made.there in
    let kept : emission_at (endpoint_of far pair).sent.items which
    ≡ option_map (encoding far) (emission_at (emissions (history_of far world)) which)
    = ap (λ (l : List (List ℕ)). emission_at l which) there.sent.encoded
    ∙ emission_at-map (encoding far) _ which
    ∙ ap
    (λ h. option_map (encoding far) (emission_at (emissions h) which))
    (step_of-away w world now line side action) in
    step_record-verb w world now line side action
    ∙ ap (λ (o : Option (List ℕ)). verb_record (verb_of action) o line now side s.outcome) (sym kept)
    ∙ ap
    (λ (o : Outcome). verb_record (verb_of action)
    (emission_at (endpoint_of far pair).sent.items which) line now side o)
    (sym made.here.told)

-- the journal of a step
pub text-kept : (w : ℕ) (world : List Event) (now line : ℕ) (side : Side) (action : Action)
    (pair : Pair) (outcome : Outcome) (verb : Verb) (which : Which)
    → let s = step_of w world now line side action in
    PairMakes w world s pair outcome
    → verb ≡ verb_of action
    → which ≡ which_of action
    → let kept = emission_at (endpoint_of (other side) pair).sent.items which in
    text_of (which_of action) world (s ∷ [])
    ≡ journal (cons_option (verb_record verb kept line now side outcome) [])
text-kept w world now line side action pair outcome verb which made word means =
    ap (λ (o : Option (List ℕ)). journal (cons_option o []))
    (step_record-kept w world now line side action pair outcome made
    ∙ ap
    (λ (k : Which). verb_record (verb_of action)
    (emission_at (endpoint_of (other side) pair).sent.items k) line now side outcome)
    (sym means)
    ∙ ap
    (λ (v : Verb). verb_record v (emission_at (endpoint_of (other side) pair).sent.items which) line
    now side outcome)
    (sym word))

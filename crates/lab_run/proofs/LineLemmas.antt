-- The steps of lines that are done at one moment and with one line number.
use Rattle.std.proofs.Common.{◌≡◌, ℕ, ◌-◌, Option, Some, List, [], ◌∷◌, ◌++◌, length, slice_get, refl, sym, ap, ◌∙◌, append_assoc, append-nil, arith}
use Rattle.std.specs.List.{cons_option}
use Rattle.std.proofs.lemmas.List.{length-append}
use Rattle.std.proofs.lemmas.List.Elements.{filter_map-append}
use Rattle.chan_values.specs.declared.side.Side.{Side}
use Rattle.chan_values.specs.Sides.{other}
use Rattle.channel_core.specs.declared.call.EndAnswer.{EndAnswer}
use Rattle.channel_core.specs.declared.call.EndCall.{EndCall}
use Rattle.channel_core.specs.declared.message.Outgoing.{Outgoing}
use Rattle.channel_core.specs.declared.answer.Pull.{Pull}
use Rattle.channel_core.specs.Exchange.{incoming_of}
use Rattle.channel_core.specs.History.{emissions, message_emitted}
use Rattle.channel_core.specs.Legal.{answer_to_pull}
use Rattle.channel_core.specs.World.{Event, history_of}
use Rattle.channel_core.proofs.HistoryLemmas.{emissions-push}
use Rattle.channel_core.proofs.PendingLemmas.{slice_get-last}
use Rattle.channel_core.proofs.WorldLemmas.{event_of, history_of-here, other-other}
use Rattle.lab_script.specs.declared.command.Action.{Action}
use Rattle.lab_script.specs.declared.command.Command.{Command}
use Rattle.lab_script.specs.declared.verb.Verb.{Verb}
use Rattle.lab_script.specs.declared.word.Which.{Which}
use Rattle.lab_run.specs.Steps.{Step, called, emission_at, events_of, heard_at, steps_at, steps_of}

-- what was added at the end is the latest
emission_at-last : {X : Type 0} (xs : List X) (x : X)
    → emission_at (xs ++ x ∷ []) Which.Last ≡ Some x
emission_at-last xs x =
    let place : length (xs ++ x ∷ []) - 1 ≡ length xs = omega (arith, length-append xs (x ∷ [])) in
    ap (slice_get (xs ++ x ∷ [])) place ∙ slice_get-last xs x

-- the emission that a pull makes is the latest of its end
pub emission_at-pulled : (w : ℕ) (world : List Event) (side : Side) (now : ℕ) (out : Outgoing)
    → answer_to_pull w (history_of side world) now ≡ Pull.Emit out
    → emission_at
    (emissions (history_of side (world ++ event_of w world side (EndCall.Pull now) ∷ [])))
    Which.Last
    ≡ Some out
emission_at-pulled w world side now out is =
    let h = history_of side world in
    let x = event_of w world side (EndCall.Pull now) in
    let more : emissions (history_of side (world ++ x ∷ [])) ≡ emissions h ++ out ∷ []
    = ap emissions (history_of-here side world x refl)
    ∙ emissions-push h x.entry
    ∙ ap (λ (p : Pull). emissions h ++ cons_option (message_emitted (EndAnswer.Pull p)) []) is in
    ap (λ (xs : List Outgoing). emission_at xs Which.Last) more ∙ emission_at-last (emissions h) out

-- the other end hears what this one emits
abbrev pub hearing_of : ℕ → List Event → ℕ → Side → Outgoing → Event
hearing_of w world now side out =
    event_of w world (other side) (EndCall.Heard now (incoming_of out))

-- the steps of lines and of lines behind them
steps_at-append : (w : ℕ) (world : List Event) (now line : ℕ) (a b : List Command)
    → let first = steps_at w world now line a in
    steps_at w world now line (a ++ b) ≡ first ++ steps_at w (world ++ events_of first) now line b
steps_at-append w world now line [] b =
    ap (λ (v : List Event). steps_at w v now line b) (sym (append-nil world))
steps_at-append w world now line (c ∷ a) b =
    let steps = steps_of w world now line c in
    let one = world ++ events_of steps in
    let rest = steps_at w one now line a in
    let parts : one ++ events_of rest ≡ world ++ events_of (steps ++ rest)
    = append_assoc world (events_of steps) (events_of rest)
    ∙ ap (λ (xs : List Event). world ++ xs)
    (sym (filter_map-append (λ (s : Step). s.event) steps rest)) in
    ap (λ (l : List Step). steps ++ l) (steps_at-append w one now line a b)
    ∙ sym (append_assoc steps rest (steps_at w (one ++ events_of rest) now line b))
    ∙ ap (λ (v : List Event). (steps ++ rest) ++ steps_at w v now line b) parts

-- steps of lines, and then steps of more lines, are steps of all these lines
pub steps_at-both : (w : ℕ) (world : List Event) (now line : ℕ) (a b : List Command)
    (first second : List Step)
    → first ≡ steps_at w world now line a
    → second ≡ steps_at w (world ++ events_of first) now line b
    → first ++ second ≡ steps_at w world now line (a ++ b)
steps_at-both w world now line a b first second is then =
    ap (λ (l : List Step). first ++ l) then
    ∙ ap (λ (l : List Step). l ++ steps_at w (world ++ events_of l) now line b) is
    ∙ sym (steps_at-append w world now line a b)

-- the steps of a pull that emits a message and of a hearing by the other end, and of lines behind them
pub steps_at-emits : (w : ℕ) (world : List Event) (now line : ℕ) (side : Side) (out : Outgoing)
    (lines : List Command)
    → answer_to_pull w (history_of side world) now ≡ Pull.Emit out
    → let x = event_of w world side (EndCall.Pull now) in
    let one = world ++ x ∷ [] in
    let y = hearing_of w one now side out in
    steps_at w world now line
    (Command.On side Action.Pull ∷ Command.On (other side) (Action.Hear Which.Last) ∷ lines)
    ≡ called w world line Verb.Pull side (EndCall.Pull now)
    ∷ called w one line Verb.Hear (other side) y.entry.call
    ∷ steps_at w (one ++ y ∷ []) now line lines
steps_at-emits w world now line side out lines is =
    let pulled = called w world line Verb.Pull side (EndCall.Pull now) in
    let one = world ++ events_of (pulled ∷ []) in
    let more : Option Outgoing → List Step
    = λ o.
    let heard = heard_at w one now line (other side) o in
    heard ∷ steps_at w (one ++ events_of (heard ∷ [])) now line lines in
    ap
    (λ (s : Side). pulled ∷ more (emission_at (emissions (history_of s one)) Which.Last))
    (other-other side)
    ∙ ap (λ (o : Option Outgoing). pulled ∷ more o) (emission_at-pulled w world side now out is)

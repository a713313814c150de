-- Which answers a call of the switch gets.
use Rattle.std.proofs.Common.{◌≡◌, ℕ, Bool, true, false, List, [], ◌∷◌, ◌++◌, sym, ap, subst, ◌∙◌, ⊎_elim}
use Rattle.std.proofs.lemmas.List.{map-append}
use Rattle.relay_core.specs.declared.action.Action.{Action}
use Rattle.turn_lock.specs.declared.view.Entry.{Entry}
use Rattle.turn_lock.specs.Histories.{calls_of, entry}
use Rattle.relay_switch.specs.declared.switch_call.SwitchCall.{SwitchCall}
use Rattle.relay_switch.specs.declared.switch_call.SwitchAnswer.{SwitchAnswer}
use Rattle.relay_switch.specs.Kinds.{IsSwitchAnswer, IsTakeAnswer}
use Rattle.relay_switch.specs.Switching.{IsDue, IsLegalSwitch, Step, answer_by, line_of}
use Rattle.relay_switch.proofs.HistoryLemmas.{IsLegalSwitch-pushed}

by-line : (waiting : List Action) (is_open : Bool) → IsTakeAnswer (answer_by waiting is_open)
by-line (a ∷ waiting) is_open = tt
by-line [] true = tt
by-line [] false = tt

-- an answer that a call is due is of its kind
due_kind : (h : List Step) (call : SwitchCall) (answer : SwitchAnswer) → IsDue h call answer
    → IsSwitchAnswer call answer
due_kind h (SwitchCall.Step event id now) answer due =
    ⊎_elim (λ is. rw is tt) (λ is. rw is tt) due
due_kind h (SwitchCall.Take conn) answer due =
    subst IsTakeAnswer (sym due) (by-line (line_of h conn).waiting (line_of h conn).is_open)

pub switch_kind : (number : ℕ) (call : SwitchCall) (answer : SwitchAnswer)
    (before seen : List (Entry SwitchCall SwitchAnswer))
    → seen ≡ before ++ entry number call answer ∷ []
    → IsLegalSwitch (calls_of seen)
    → IsSwitchAnswer call answer
switch_kind number call answer before seen is legal =
    let pushed : calls_of seen ≡ calls_of before ++ (call, answer) ∷ [] =
    ap calls_of is
    ∙ map-append
    (λ (e : Entry SwitchCall SwitchAnswer). (e.call, e.answer)) before
    (entry number call answer ∷ []) in
    due_kind (calls_of before) call answer
    (IsLegalSwitch-pushed (calls_of before) (call, answer) (subst IsLegalSwitch pushed legal)).1

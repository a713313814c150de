-- Which answers a call of the desk gets.
use Rattle.std.proofs.Common.{◌≡◌, ℕ, List, [], ◌∷◌, ◌++◌, ap, subst, ◌∙◌}
use Rattle.std.proofs.lemmas.List.{map-append}
use Rattle.std.specs.List.{All}
use Rattle.channel_core.proofs.LegalLemmas.{All-pushed}
use Rattle.turn_lock.specs.declared.view.Entry.{Entry}
use Rattle.turn_lock.specs.Histories.{calls_of, entry}
use Rattle.relay_desk.specs.declared.desk.Began.{Began}
use Rattle.relay_desk.specs.declared.desk_call.DeskAnswer.{DeskAnswer}
use Rattle.relay_desk.specs.declared.desk_call.DeskCall.{DeskCall}
use Rattle.relay_desk.specs.Desks.{DeskStep, IsDeskAnswer, IsLegalDesk}

pub desk_kind : (began : Began) (number : ℕ) (call : DeskCall) (answer : DeskAnswer)
    (before seen : List (Entry DeskCall DeskAnswer))
    → seen ≡ before ++ entry number call answer ∷ []
    → IsLegalDesk began (calls_of seen)
    → IsDeskAnswer call answer
desk_kind began number call answer before seen is legal =
    let pushed : calls_of seen ≡ calls_of before ++ (call, answer) ∷ [] =
    ap calls_of is
    ∙ map-append
    (λ (e : Entry DeskCall DeskAnswer). (e.call, e.answer)) before
    (entry number call answer ∷ []) in
    let kind : DeskStep → Type 0 = λ s. IsDeskAnswer s.0 s.1 in
    (All-pushed kind (calls_of before) (call, answer) (subst (All kind) pushed legal.kinds)).1

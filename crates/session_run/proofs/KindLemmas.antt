-- What a seat has just been answered is of its call's kind.
use Rattle.std.proofs.Common.{◌≡◌, ℕ, ◌-◌, ◌+◌, Bool, true, false, List, [], ◌∷◌, ◌++◌, map, length, refl, subst, ap, ◌∙◌, ⊎_elim}
use Rattle.std.specs.Prelude.{nat_eq, if◌then◌else◌}
use Rattle.std.proofs.lemmas.List.{map-append}
use Rattle.chan_values.specs.Limits.{max_seq}
use Rattle.chan_values.specs.declared.item.Item.{Item}
use Rattle.channel_core.specs.declared.answer.Pull.{Pull}
use Rattle.channel_core.specs.declared.answer.Put.{Put}
use Rattle.channel_core.specs.declared.call.EndAnswer.{EndAnswer}
use Rattle.channel_core.specs.declared.call.EndCall.{EndCall}
use Rattle.channel_core.specs.Call.{Entry}
use Rattle.channel_core.specs.History.{has_ended, is_closed, lowest_unacked, put_messages}
use Rattle.channel_core.specs.Legal.{IsAnswered, IsLegal, answer_to_put}
use Rattle.channel_core.proofs.LegalLemmas.{IsLegal-pushed}
use Rattle.turn_lock.specs.declared.view.Entry.{Entry as SeatEntry}
use Rattle.turn_lock.specs.Histories.{calls_of, entry}
use Rattle.session_run.specs.declared.shelf_call.ShelfAnswer.{ShelfAnswer}
use Rattle.session_run.specs.declared.shelf_call.ShelfCall.{ShelfCall}
use Rattle.session_run.specs.Held.{IsLegalFor, end_entry}
use Rattle.session_run.specs.Kinds.{HandsBack, IsEndAnswer, IsShelfAnswer}
use Rattle.session_run.specs.Shelf.{IsDue, IsLegalShelf}
use Rattle.session_run.proofs.HeldLemmas.{pulled-encodable}
use Rattle.session_run.proofs.ShelfLemmas.{IsLegalShelf-pushed}

-- the answer that a put is due hands the item back, or gives a number
hands_back : (w : ℕ) (h : List Entry) (item : Item) → HandsBack item (answer_to_put w h item)
unfolding answer_to_put
hands_back w h item =
    by_tests (is_closed h) (has_ended h) (nat_eq (length (put_messages h)) (max_seq + 1))
    (nat_eq (length (put_messages h) - lowest_unacked h) w)
  where
    by_tests : (a b c d : Bool) → HandsBack item (
        if a then Put.Closed item
        else if b then Put.Past item
        else if c then Put.Spent item
        else if d then Put.Full item
        else Put.Seq (length (put_messages h)))
    by_tests true b c d = refl
    by_tests false true c d = refl
    by_tests false false true d = refl
    by_tests false false false true = refl
    by_tests false false false false = tt

-- an answer that is due is of the call's kind; of what a pull gives out it is known by other means
of_kind : (w : ℕ) (h : List Entry) (call : EndCall) (answer : EndAnswer)
    → IsAnswered w h call answer
    → ((now : ℕ) (pull : Pull) → call ≡ EndCall.Pull now → answer ≡ EndAnswer.Pull pull
    → IsEndAnswer call answer)
    → IsEndAnswer call answer
of_kind w h (EndCall.Put item id now) answer due pulled =
    ⊎_elim (λ is. rw is (hands_back w h item)) (λ never. absurd never.0) due
of_kind w h (EndCall.PutLast item id now) answer due pulled =
    ⊎_elim (λ is. rw is (hands_back w h item)) (λ never. absurd never.0) due
of_kind w h (EndCall.Heard now incoming) answer due pulled =
    ⊎_elim (λ is. rw is tt) (λ none. rw none.0 tt) due
of_kind w h (EndCall.Tick now) answer due pulled =
    ⊎_elim (λ is. rw is tt) (λ never. absurd never.0) due
of_kind w h (EndCall.Pull now) answer due pulled =
    ⊎_elim (λ is. pulled now _ refl is) (λ none. pulled now _ refl none.0) due
of_kind w h EndCall.Lost answer due pulled =
    ⊎_elim (λ is. rw is tt) (λ never. absurd never.0) due
of_kind w h (EndCall.Opened now) answer due pulled =
    ⊎_elim (λ is. rw is tt) (λ never. absurd never.0) due
of_kind w h EndCall.Close answer due pulled =
    ⊎_elim (λ is. rw is tt) (λ never. absurd never.0) due
of_kind w h EndCall.Look answer due pulled =
    ⊎_elim (λ is. rw is tt) (λ never. absurd never.0) due

-- the calls that were seen, the last one apart
calls_pushed : {C A : Type 0} (number : ℕ) (call : C) (answer : A)
    (before seen : List (SeatEntry C A))
    → seen ≡ before ++ entry number call answer ∷ []
    → calls_of seen ≡ calls_of before ++ (call, answer) ∷ []
calls_pushed {C} {A} number call answer before seen is =
    ap calls_of is
    ∙ map-append
    (λ (e : SeatEntry C A). (e.call, e.answer)) before (entry number call answer ∷ [])

pub end_kind : (window number : ℕ) (call : EndCall) (answer : EndAnswer)
    (before seen : List (SeatEntry EndCall EndAnswer))
    → seen ≡ before ++ entry number call answer ∷ []
    → IsLegalFor window (calls_of seen)
    → IsEndAnswer call answer
end_kind window number call answer before seen is legal =
    let h : List Entry = map end_entry (calls_of before) in
    let pushed =
    ap (map end_entry) (calls_pushed number call answer before seen is)
    ∙ map-append end_entry (calls_of before) ((call, answer) ∷ []) in
    let all = subst (IsLegal window) pushed legal.0 in
    let entered : EndCall × EndAnswer → List (SeatEntry EndCall EndAnswer) =
    λ p. before ++ entry number p.0 p.1 ∷ [] in
    of_kind window h call answer (IsLegal-pushed window h (end_entry (call, answer)) all).1
    (λ now pull c a.
    rw (c, a)
    (pulled-encodable window number now pull before seen (is ∙ ap entered (rw (c, a) refl)) legal))

-- an answer that a call of the shelf is due is of its kind
due_kind : (h : List (ShelfCall × ShelfAnswer)) (call : ShelfCall) (answer : ShelfAnswer)
    → IsDue h call answer
    → IsShelfAnswer call answer
due_kind h (ShelfCall.Add parcel) answer due = ⊎_elim (λ is. rw is tt) (λ is. rw is tt) due
due_kind h ShelfCall.First answer due = rw due tt
due_kind h ShelfCall.Count answer due = rw due tt
due_kind h ShelfCall.Opening answer due = rw due tt
due_kind h (ShelfCall.Finish fault) answer due = rw due tt

pub shelf_kind : (number : ℕ) (call : ShelfCall) (answer : ShelfAnswer)
    (before seen : List (SeatEntry ShelfCall ShelfAnswer))
    → seen ≡ before ++ entry number call answer ∷ []
    → IsLegalShelf (calls_of seen)
    → IsShelfAnswer call answer
shelf_kind number call answer before seen is legal =
    due_kind (calls_of before) call answer
    (IsLegalShelf-pushed (calls_of before) (call, answer)
    (subst IsLegalShelf (calls_pushed number call answer before seen is) legal)).1

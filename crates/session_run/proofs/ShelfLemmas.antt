-- The histories of a shelf: one call more, and that the first in are the first out.
use Rattle.std.proofs.Common.{◌≡◌, ℕ, ◌+◌, ◌-◌, ◌^◌, min, false, cond, ◌||◌, ◌⊎◌, List, [], ◌∷◌, ◌++◌, drop, length, slice_get, refl, sym, ap, ◌∙◌, ⊎_elim, append_assoc, arith}
use Rattle.std.specs.List.{cons_option}
use Rattle.std.proofs.Math.Seq.{drop-append_seam}
use Rattle.std.proofs.lemmas.List.{append-nil}
use Rattle.std.proofs.lemmas.List.Elements.{All-nil, All-push, filter_map-append}
use Rattle.std.proofs.lemmas.List.Folds.{list_any-append}
use Rattle.std.proofs.lemmas.List.Sums.{sum_by-append}
use Rattle.channel_core.specs.Call.{with_earlier}
use Rattle.channel_core.proofs.HistoryLemmas.{by_pushes, with_earlier-push}
use Rattle.channel_core.proofs.LegalLemmas.{All-pushed}
use Rattle.session_run.specs.declared.parcel.Parcel.{Parcel}
use Rattle.session_run.specs.declared.shelf_call.ShelfAnswer.{ShelfAnswer}
use Rattle.session_run.specs.declared.shelf_call.ShelfCall.{ShelfCall}
use Rattle.session_run.specs.Shelf.{FirstInFirstOut, IsDue, IsLegalShelf, count_after, fault_noted, finish_noted, is_fault, is_finish, is_opening, openings_noted, parcel_added, parcel_taken, parcels_added, parcels_taken, parcels_waiting}

abbrev pub Calls : Type 0
Calls = List (ShelfCall × ShelfAnswer)

-- ---- what one call more adds

pub parcels_added-push : (h : Calls) (e : ShelfCall × ShelfAnswer)
    → parcels_added (h ++ e ∷ []) ≡ parcels_added h ++ cons_option (parcel_added e.1 e.0) []
unfolding parcels_added
parcels_added-push h e =
    filter_map-append (λ (x : ShelfCall × ShelfAnswer). parcel_added x.1 x.0) h (e ∷ [])

pub parcels_taken-push : (h : Calls) (e : ShelfCall × ShelfAnswer)
    → parcels_taken (h ++ e ∷ []) ≡ parcels_taken h ++ cons_option (parcel_taken e.1) []
unfolding parcels_taken
parcels_taken-push h e =
    filter_map-append (λ (x : ShelfCall × ShelfAnswer). parcel_taken x.1) h (e ∷ [])

pub openings_noted-push : (h : Calls) (e : ShelfCall × ShelfAnswer)
    → openings_noted (h ++ e ∷ [])
    ≡ min (openings_noted h + cond (is_opening e.0) 1 0) (2 ^ 64 - 1)
unfolding openings_noted
openings_noted-push h e =
    let noted : ShelfCall × ShelfAnswer → ℕ = λ x. cond (is_opening x.0) 1 0 in
    let more = sum_by-append noted h (e ∷ []) in
    omega (arith, more)

pub finish_noted-push : (h : Calls) (e : ShelfCall × ShelfAnswer)
    → finish_noted (h ++ e ∷ []) ≡ (finish_noted h || (is_finish e.0 || false))
unfolding finish_noted
finish_noted-push h e =
    list_any-append (λ (x : ShelfCall × ShelfAnswer). is_finish x.0) h (e ∷ [])

pub fault_noted-push : (h : Calls) (e : ShelfCall × ShelfAnswer)
    → fault_noted (h ++ e ∷ []) ≡ (fault_noted h || (is_fault e.0 || false))
unfolding fault_noted
fault_noted-push h e =
    list_any-append (λ (x : ShelfCall × ShelfAnswer). is_fault x.0) h (e ∷ [])

-- the call got an answer that it was due after the calls before it
abbrev Fits : Calls × (ShelfCall × ShelfAnswer) → Type 0
Fits p = IsDue p.0 p.1.0 p.1.1

-- a legal history and a call with an answer that it is due are a legal history
pub IsLegalShelf-push : (h : Calls) (e : ShelfCall × ShelfAnswer)
    → IsLegalShelf h
    → IsDue h e.0 e.1
    → IsLegalShelf (h ++ e ∷ [])
unfolding IsLegalShelf
IsLegalShelf-push h e legal due =
    rw with_earlier-push (All-push Fits (with_earlier h) (h, e) legal due)

-- and the other way round
pub IsLegalShelf-pushed : (h : Calls) (e : ShelfCall × ShelfAnswer)
    → IsLegalShelf (h ++ e ∷ [])
    → IsLegalShelf h × IsDue h e.0 e.1
unfolding IsLegalShelf
IsLegalShelf-pushed h e legal =
    All-pushed Fits (with_earlier h) (h, e) (rw with_earlier-push at legal)

pub IsLegalShelf-nil : IsLegalShelf []
unfolding IsLegalShelf with_earlier
IsLegalShelf-nil = All-nil Fits

-- ---- what waits

-- where what was added is what was taken and a rest, the rest waits
pub waits : (h : Calls) (rest : List Parcel) → parcels_added h ≡ parcels_taken h ++ rest
    → parcels_waiting h ≡ rest
unfolding parcels_waiting
waits h rest is = ap (drop (length (parcels_taken h))) is ∙ drop-append_seam (parcels_taken h) rest

-- what was added is what was taken and what waits, also after one call more
pub rest_push : (h : Calls) (e : ShelfCall × ShelfAnswer) (rest more : List Parcel)
    → parcels_added h ≡ parcels_taken h ++ rest
    → rest ++ cons_option (parcel_added e.1 e.0) [] ≡ cons_option (parcel_taken e.1) [] ++ more
    → parcels_added (h ++ e ∷ []) ≡ parcels_taken (h ++ e ∷ []) ++ more
rest_push h e rest more is step =
    let added : List Parcel = cons_option (parcel_added e.1 e.0) [] in
    let taken : List Parcel = cons_option (parcel_taken e.1) [] in
    parcels_added-push h e
    ∙ ap (λ l. l ++ added) is
    ∙ append_assoc (parcels_taken h) rest added
    ∙ ap (λ l. parcels_taken h ++ l) step
    ∙ sym (append_assoc (parcels_taken h) taken more)
    ∙ ap (λ l. l ++ more) (sym (parcels_taken-push h e))

-- ---- first in, first out

-- the first parcel and those behind it
first_and_rest : (parcels : List Parcel)
    → parcels ++ [] ≡ cons_option (slice_get parcels 0) [] ++ drop 1 parcels
first_and_rest [] = refl
first_and_rest (p ∷ rest) = append-nil (p ∷ rest)

-- of what was added something is left behind what was taken
abbrev IsLeft : Calls → Type 0
IsLeft h = (rest : List Parcel) × (parcels_added h ≡ parcels_taken h ++ rest)

-- so it is after one call more
left_after : (h : Calls) (call : ShelfCall) (answer : ShelfAnswer) (rest : List Parcel)
    → parcels_added h ≡ parcels_taken h ++ rest
    → IsDue h call answer
    → IsLeft (h ++ (call, answer) ∷ [])
left_after h (ShelfCall.Add p) answer rest is due =
    ⊎_elim
    (λ yes. rw yes (
      rest ++ p ∷ [],
      rest_push h (ShelfCall.Add p, ShelfAnswer.Added) rest (rest ++ p ∷ []) is refl,
    ))
    (λ no. rw no (
      rest,
      rest_push h (ShelfCall.Add p, ShelfAnswer.NoMemory) rest rest is (append-nil rest),
    ))
    due
left_after h ShelfCall.First answer rest is due =
    let e : ShelfCall × ShelfAnswer =
    (ShelfCall.First, ShelfAnswer.First (slice_get rest 0)) in
    let first : answer ≡ ShelfAnswer.First (slice_get rest 0) =
    due ∙ ap (λ (l : List Parcel). ShelfAnswer.First (slice_get l 0)) (waits h rest is) in
    rw first (drop 1 rest, rest_push h e rest (drop 1 rest) is (first_and_rest rest))
left_after h ShelfCall.Count answer rest is due =
    let e : ShelfCall × ShelfAnswer = (ShelfCall.Count, ShelfAnswer.Count (count_after h)) in
    rw due (rest, rest_push h e rest rest is (append-nil rest))
left_after h ShelfCall.Opening answer rest is due =
    rw due
    (rest, rest_push h (ShelfCall.Opening, ShelfAnswer.Done) rest rest is (append-nil rest))
left_after h (ShelfCall.Finish fault) answer rest is due =
    let e : ShelfCall × ShelfAnswer = (ShelfCall.Finish fault, ShelfAnswer.Done) in
    rw due (rest, rest_push h e rest rest is (append-nil rest))

none_left : parcels_added [] ≡ parcels_taken [] ++ []
unfolding parcels_added parcels_taken
none_left = refl

left : (h : Calls) → IsLegalShelf h → IsLeft h
left =
    by_pushes
    (λ (h : Calls). IsLegalShelf h → IsLeft h)
    (λ _. ([], none_left))
    (λ h e before legal.
    let was = IsLegalShelf-pushed h e legal in
    let rest = before was.0 in
    left_after h e.0 e.1 rest.0 rest.1 was.1)

pub first_in_first_out : FirstInFirstOut
first_in_first_out h legal =
    let rest = left h legal in
    rest.1 ∙ ap (λ l. parcels_taken h ++ l) (sym (waits h rest.0 rest.1))

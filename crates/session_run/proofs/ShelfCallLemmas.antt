-- The calls of a shelf: what it keeps after each follows what it kept.
use Rattle.std.proofs.Common.{◌≡◌, ℕ, ◌+◌, ◌-◌, ◌^◌, min, Bool, true, false, not, cond, ◌||◌, Option, Some, None, List, [], ◌∷◌, ◌++◌, drop, length, slice_get, refl, sym, ap, subst, ◌∙◌, inl, inr, arith}
use Rattle.std.specs.List.{cons_option}
use Rattle.std.specs.Option.{option_to_list}
use Rattle.std.specs.Prelude.{if◌then◌else◌}
use Rattle.std.proofs.lemmas.List.{append-nil}
use Rattle.session_run.specs.declared.parcel.Parcel.{Parcel}
use Rattle.session_run.specs.declared.shelf_call.Count.{Count}
use Rattle.session_run.specs.declared.shelf_call.ShelfAnswer.{ShelfAnswer}
use Rattle.session_run.specs.declared.shelf_call.ShelfCall.{ShelfCall}
use Rattle.session_run.specs.Shelf.{IsDue, IsLegalShelf, ShelfFollows, ShelfState, StandsForShelf, added_or_not, count_after, fault_noted, finish_noted, is_fault, is_finish, is_opening, openings_noted, parcel_added, parcel_taken, parcels_added, parcels_taken, parcels_waiting}
use Rattle.session_run.proofs.ShelfLemmas.{Calls, IsLegalShelf-push, fault_noted-push, finish_noted-push, openings_noted-push, rest_push, waits}

-- what a count tells of a shelf
abbrev pub count_of : ShelfState → Count
count_of s =
    record { parcels = length s.parcels; openings = s.openings; finish = s.finish; fault = s.fault }

or_none : (b : Bool) → b ≡ (b || (false || false))
or_none true = refl
or_none false = refl

or_one : (b c : Bool) → (b || c) ≡ (b || (c || false))
or_one true c = refl
or_one false true = refl
or_one false false = refl

-- the openings that are kept stay where none is noted
openings_stay : (n : ℕ) (h : Calls) → n ≡ openings_noted h → n ≡ min (n + 0) (2 ^ 64 - 1)
unfolding openings_noted
openings_stay n h is = omega (arith, is)

-- the first of what was kept, by what was taken out and what is left
first_is : (old new : List Parcel) (first : Option Parcel)
    → old ≡ option_to_list first ++ new
    → new ≡ drop 1 old
    → first ≡ slice_get old 0
first_is [] new None is rest = refl
first_is (p ∷ old) new None is rest =
    let more : length (p ∷ old) ≡ length old = ap length is ∙ ap length rest in
    absurd (omega arith)
first_is [] new (Some q) is rest = absurd (cc)
first_is (p ∷ old) new (Some q) is rest = cc

listed : (first : Option Parcel) → option_to_list first ≡ cons_option first []
listed None = refl
listed (Some p) = refl

module _ (s : ShelfState) where
  -- the shelf stands for one call more
  after : (new : ShelfState) (call : ShelfCall) (answer : ShelfAnswer) (h : Calls)
      → IsLegalShelf h
      → StandsForShelf s h
      → IsDue h call answer
      → s.parcels ++ cons_option (parcel_added answer call) []
      ≡ cons_option (parcel_taken answer) [] ++ new.parcels
      → new.openings ≡ min (s.openings + cond (is_opening call) 1 0) (2 ^ 64 - 1)
      → new.finish ≡ (s.finish || (is_finish call || false))
      → new.fault ≡ (s.fault || (is_fault call || false))
      → IsLegalShelf (h ++ (call, answer) ∷ []) × StandsForShelf new (h ++ (call, answer) ∷ [])
  after new call answer h legal stands due parcels openings finish fault = (
    IsLegalShelf-push h (call, answer) legal due,
    record {
      parcels = rest_push h (call, answer) s.parcels new.parcels stands.parcels parcels;
      openings =
          openings
          ∙ ap (λ (n : ℕ). min (n + cond (is_opening call) 1 0) (2 ^ 64 - 1)) stands.openings
          ∙ sym (openings_noted-push h (call, answer));
      finish =
          finish ∙ ap (λ b. b || (is_finish call || false)) stands.finish
          ∙ sym (finish_noted-push h (call, answer));
      fault =
          fault ∙ ap (λ b. b || (is_fault call || false)) stands.fault
          ∙ sym (fault_noted-push h (call, answer));
    },
  )

  -- a parcel was added, or there was no memory
  pub asked : (p : Parcel) (known told : Bool) (new : List Parcel) (answer : ShelfAnswer)
      → new ≡ (if known then s.parcels ++ p ∷ [] else s.parcels)
      → told ≡ known
      → answer ≡ added_or_not told
      → ShelfFollows s (record s { parcels = new }) (ShelfCall.Add p) answer
  asked p true told new answer parcels same is =
      subst (λ a. ShelfFollows s (record s { parcels = new }) (ShelfCall.Add p) a)
      (sym (is ∙ ap added_or_not same))
      (λ h legal stands. after (record s { parcels = new }) (ShelfCall.Add p) ShelfAnswer.Added h
      legal stands (inl refl) (sym parcels) (openings_stay s.openings h stands.openings)
      (or_none s.finish) (or_none s.fault))
  asked p false told new answer parcels same is =
      subst (λ a. ShelfFollows s (record s { parcels = new }) (ShelfCall.Add p) a)
      (sym (is ∙ ap added_or_not same))
      (λ h legal stands. after (record s { parcels = new }) (ShelfCall.Add p)
      ShelfAnswer.NoMemory h legal stands (inr refl) (append-nil s.parcels ∙ sym parcels)
      (openings_stay s.openings h stands.openings) (or_none s.finish) (or_none s.fault))

  -- the first was taken
  pub taken : (first : Option Parcel) (new : List Parcel)
      → s.parcels ≡ option_to_list first ++ new
      → new ≡ drop 1 s.parcels
      → ShelfFollows s (record s { parcels = new }) ShelfCall.First (ShelfAnswer.First first)
  taken first new is rest h legal stands =
      let waiting = waits h s.parcels stands.parcels in
      let due : ShelfAnswer.First first ≡ ShelfAnswer.First (slice_get (parcels_waiting h) 0) =
      ap ShelfAnswer.First (first_is s.parcels new first is rest)
      ∙ ap (λ (l : List Parcel). ShelfAnswer.First (slice_get l 0)) (sym waiting) in
      after (record s { parcels = new }) ShelfCall.First (ShelfAnswer.First first) h
      legal stands due (append-nil s.parcels ∙ is ∙ ap (λ l. l ++ new) (listed first))
      (openings_stay s.openings h stands.openings) (or_none s.finish) (or_none s.fault)

  -- it was counted
  pub counted : (n : ℕ) → n ≡ length s.parcels
      → ShelfFollows s s ShelfCall.Count (ShelfAnswer.Count (record (count_of s) { parcels = n }))
  counted n is h legal stands =
      let waiting = is ∙ ap length (sym (waits h s.parcels stands.parcels)) in
      let told : Count = record (count_of s) { parcels = n } in
      let due : ShelfAnswer.Count told ≡ ShelfAnswer.Count (count_after h) =
      λ i. ShelfAnswer.Count (record {
        parcels = waiting i;
        openings = stands.openings i;
        finish = stands.finish i;
        fault = stands.fault i;
      }) in
      after s ShelfCall.Count (ShelfAnswer.Count told) h
      legal stands due (append-nil s.parcels) (openings_stay s.openings h stands.openings)
      (or_none s.finish) (or_none s.fault)

  -- a connection was noted
  pub opened : (n : ℕ) → n ≡ min (s.openings + 1) (2 ^ 64 - 1)
      → ShelfFollows s (record s { openings = n }) ShelfCall.Opening ShelfAnswer.Done
  opened n is h legal stands =
      after (record s { openings = n }) ShelfCall.Opening ShelfAnswer.Done h
      legal stands refl (append-nil s.parcels) is (or_none s.finish) (or_none s.fault)

  -- a finish or a fault was noted
  pub finished : (fault : Bool)
      → ShelfFollows s (record s { finish = s.finish || not fault; fault = s.fault || fault })
      (ShelfCall.Finish fault) ShelfAnswer.Done
  finished fault h legal stands =
      after (record s { finish = s.finish || not fault; fault = s.fault || fault })
      (ShelfCall.Finish fault) ShelfAnswer.Done h
      legal stands refl (append-nil s.parcels) (openings_stay s.openings h stands.openings)
      (or_one s.finish (not fault)) (or_one s.fault fault)

-- what follows a shelf follows what it is seen as
pub follows_view : (s v new : ShelfState) (call : ShelfCall) (answer : ShelfAnswer) → s ≡ v
    → ShelfFollows s new call answer
    → ShelfFollows v new call answer
follows_view s v new call answer same follows =
    subst (λ z. ShelfFollows z new call answer) same follows

pub stays_view : (s v : ShelfState) (call : ShelfCall) (answer : ShelfAnswer) → s ≡ v
    → ShelfFollows s s call answer
    → ShelfFollows v v call answer
stays_view s v call answer same follows =
    subst (λ z. ShelfFollows z z call answer) same follows

-- a shelf with no parcels stands for no calls
pub empty : (parcels : List Parcel) → parcels ≡ []
    → StandsForShelf (record { parcels = parcels; openings = 0; finish = false; fault = false }) []
unfolding parcels_added parcels_taken openings_noted finish_noted fault_noted
empty parcels none = record { parcels = sym none; openings = refl; finish = refl; fault = refl }

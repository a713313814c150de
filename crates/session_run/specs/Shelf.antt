-- What happened at a shelf, read off the list of its calls with their answers.
use Rattle.std.specs.Prelude.{◌≡◌, ℕ, ◌+◌, ◌-◌, ◌^◌, min, Bool, false, true, not, ◌⊎◌, Option, Some, None, List, [], ◌∷◌, ◌++◌, drop, length, slice_get}
use Rattle.std.specs.List.{All, count_by, filter_map, list_any}
use Rattle.channel_core.specs.Call.{with_earlier}
use Rattle.session_run.specs.declared.parcel.Parcel.{Parcel}
use Rattle.session_run.specs.declared.shelf_call.Count.{Count}
use Rattle.session_run.specs.declared.shelf_call.ShelfAnswer.{ShelfAnswer}
use Rattle.session_run.specs.declared.shelf_call.ShelfCall.{ShelfCall}

-- the parcel that this call added
abbrev pub parcel_added : ShelfAnswer → ShelfCall → Option Parcel
parcel_added ShelfAnswer.Added (ShelfCall.Add parcel) = Some parcel
parcel_added answer call = None

-- the parcel that this call took
abbrev pub parcel_taken : ShelfAnswer → Option Parcel
parcel_taken (ShelfAnswer.First parcel) = parcel
parcel_taken answer = None

-- the parcels that were added, in order
unfoldable pub parcels_added : List (ShelfCall × ShelfAnswer) → List Parcel
parcels_added h = filter_map (λ e. parcel_added e.1 e.0) h

-- the parcels that were taken, in order
unfoldable pub parcels_taken : List (ShelfCall × ShelfAnswer) → List Parcel
parcels_taken h = filter_map (λ e. parcel_taken e.1) h

-- the parcels that wait: those that were added, without as many of the first as were taken
unfoldable pub parcels_waiting : List (ShelfCall × ShelfAnswer) → List Parcel
parcels_waiting h = drop (length (parcels_taken h)) (parcels_added h)

-- whether the call notes an opening
abbrev pub is_opening : ShelfCall → Bool
is_opening ShelfCall.Opening = true
is_opening call = false

-- whether the call notes that the session is to finish
abbrev pub is_finish : ShelfCall → Bool
is_finish (ShelfCall.Finish fault) = not fault
is_finish call = false

-- whether the call notes a fault
abbrev pub is_fault : ShelfCall → Bool
is_fault (ShelfCall.Finish fault) = fault
is_fault call = false

-- how many openings were noted; the count stops at 2^64 - 1
unfoldable pub openings_noted : List (ShelfCall × ShelfAnswer) → ℕ
openings_noted h = min (count_by (λ e. is_opening e.0) h) (2 ^ 64 - 1)

-- whether a finish was noted
unfoldable pub finish_noted : List (ShelfCall × ShelfAnswer) → Bool
finish_noted h = list_any (λ e. is_finish e.0) h

-- whether a fault was noted
unfoldable pub fault_noted : List (ShelfCall × ShelfAnswer) → Bool
fault_noted h = list_any (λ e. is_fault e.0) h

-- what a count tells
abbrev pub count_after : List (ShelfCall × ShelfAnswer) → Count
count_after h =
    record {
      parcels = length (parcels_waiting h);
      openings = openings_noted h;
      finish = finish_noted h;
      fault = fault_noted h;
    }

-- the answer to a parcel that was added, or for which there was no memory
abbrev pub added_or_not : Bool → ShelfAnswer
added_or_not true = ShelfAnswer.Added
added_or_not false = ShelfAnswer.NoMemory

-- the answer that a call is due after these; at a parcel that is added, memory may be wanted
abbrev pub IsDue : List (ShelfCall × ShelfAnswer) → ShelfCall → ShelfAnswer → Type 0
IsDue h (ShelfCall.Add parcel) answer =
    (answer ≡ ShelfAnswer.Added) ⊎ (answer ≡ ShelfAnswer.NoMemory)
IsDue h ShelfCall.First answer = answer ≡ ShelfAnswer.First (slice_get (parcels_waiting h) 0)
IsDue h ShelfCall.Count answer = answer ≡ ShelfAnswer.Count (count_after h)
IsDue h ShelfCall.Opening answer = answer ≡ ShelfAnswer.Done
IsDue h (ShelfCall.Finish fault) answer = answer ≡ ShelfAnswer.Done

-- each call got an answer that it was due after the calls before it
unfoldable pub IsLegalShelf : List (ShelfCall × ShelfAnswer) → Type 0
IsLegalShelf h = All (λ p. IsDue p.0 p.1.0 p.1.1) (with_earlier h)

-- what waits on a shelf, oldest first, and what was noted there
pub record ShelfState : Type 0 where
  pub parcels : List Parcel
  pub openings : ℕ
  pub finish : Bool
  pub fault : Bool

-- the shelf keeps what these calls tell
pub record StandsForShelf (shelf : ShelfState) (h : List (ShelfCall × ShelfAnswer)) : Type 0 where
  -- what was added is what was taken, and then what waits
  pub parcels : parcels_added h ≡ parcels_taken h ++ shelf.parcels
  pub openings : shelf.openings ≡ openings_noted h
  pub finish : shelf.finish ≡ finish_noted h
  pub fault : shelf.fault ≡ fault_noted h

-- one call more: whatever legal history the shelf stood for, with this entry it is legal, and the
-- shelf stands for it
abbrev pub ShelfFollows : ShelfState → ShelfState → ShelfCall → ShelfAnswer → Type 0
ShelfFollows old new call answer = (h : List (ShelfCall × ShelfAnswer))
    → IsLegalShelf h
    → StandsForShelf old h
    → IsLegalShelf (h ++ (call, answer) ∷ []) × StandsForShelf new (h ++ (call, answer) ∷ [])

-- first in, first out: the parcels that were taken are the first that were added, in order
abbrev pub FirstInFirstOut : Type 0
FirstInFirstOut = (h : List (ShelfCall × ShelfAnswer))
    → IsLegalShelf h
    → parcels_added h ≡ parcels_taken h ++ parcels_waiting h

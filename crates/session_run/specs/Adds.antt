-- What a caller adds to a lock's history: calls of its own seat, each with its answer.
use Rattle.std.specs.Prelude.{◌≡◌, ℕ, List, [], ◌∷◌, ◌++◌, map}
use Rattle.turn_lock.specs.declared.value.Turn.{Ghosts}
use Rattle.turn_lock.specs.declared.view.Entry.{Entry}
use Rattle.turn_lock.specs.declared.seat.Seat.{Seat}
use Rattle.turn_lock.specs.Histories.{entry}
use Rattle.turn_lock.specs.Seats.{IsSameSeat, mine_of, number_of, seen_of}

-- the calls as entries of the seat with this number
abbrev pub entries_by : {C A : Type 0} → ℕ → List (C × A) → List (Entry C A)
entries_by number calls = map (λ c. entry number c.0 c.1) calls

-- the seat stayed itself, and its own entries grew by these calls, in order, and no others
pub record AddsCalls {V C A T : Type 0} {g : Ghosts V C A T}
    (old : Seat V C A T g) (calls : List (C × A)) (new : Seat V C A T g) : Type 0 where
  pub same_seat : IsSameSeat old new
  pub mine : mine_of new ≡ mine_of old ++ entries_by (number_of old) calls

-- the last call that the seat has seen is this one of its own
abbrev pub EndsWith : {V C A T : Type 0} {g : Ghosts V C A T}
    → Seat V C A T g → C → A → Seat V C A T g → Type 0
EndsWith {V} {C} {A} old call answer new =
    (earlier : List (Entry C A))
    × (seen_of new ≡ earlier ++ entry (number_of old) call answer ∷ [])

-- The seats of a worker on the locks of a relay.
use Rattle.std.specs.Prelude.{◌≡◌, List, map}
use Rattle.atomic_table.specs.Seated.{TableId}
use Rattle.turn_lock.specs.declared.seat.TurnLock.{TurnLock}
use Rattle.turn_lock.specs.declared.value.Turn.{Ghosts}
use Rattle.turn_lock.specs.Seats.{SameLock}
use Rattle.relay_accept.specs.declared.relay_seats.RelaySeats.{RelaySeats}
use Rattle.relay_accept.specs.declared.relay_seats.SessionSeat.{SessionSeat}

-- which locks these are
abbrev pub locks_in : {V C A T : Type 0} → List (TurnLock V C A T) → List TableId
locks_in locks = map (λ l. l.table.shared.table_id) locks

-- the locks of these seats, in their order
abbrev pub locks_of : List SessionSeat → List TableId
locks_of seats = map (λ s. s.seat.inner.table_id) seats

module _ {D C A T : Type 0} {g : Ghosts D C A T} where
  -- the second are seats of the same locks as the first
  abbrev pub SameLocks : RelaySeats D C A T g → RelaySeats D C A T g → Type 0
  SameLocks old new = SameLock old.desk new.desk
      × (locks_of new.switches.items ≡ locks_of old.switches.items)

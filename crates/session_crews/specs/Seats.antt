-- The seats and the locks of a run.
use Rattle.std.specs.Prelude.{ℕ}
use Rattle.channel_core.specs.declared.call.EndAnswer.{EndAnswer}
use Rattle.channel_core.specs.declared.call.EndCall.{EndCall}
use Rattle.turn_lock.specs.declared.seat.Seat.{Seat}
use Rattle.turn_lock.specs.declared.seat.TurnLock.{TurnLock}
use Rattle.session_run.specs.contracts.held.HeldTurn.TheImpl as held
use Rattle.session_run.specs.contracts.shelf.ShelfTurn.TheImpl as shelf_turns
use Rattle.session_run.specs.declared.held.Held.{Held}
use Rattle.session_run.specs.declared.shelf.Shelf.{Shelf}
use Rattle.session_run.specs.declared.shelf_call.ShelfAnswer.{ShelfAnswer}
use Rattle.session_run.specs.declared.shelf_call.ShelfCall.{ShelfCall}

-- a seat on the lock over the end, and one on the lock over the shelf
abbrev pub EndSeat : Type 0
EndSeat = Seat Held EndCall EndAnswer ℕ held.ghosts

abbrev pub ShelfSeat : Type 0
ShelfSeat = Seat Shelf ShelfCall ShelfAnswer Unit shelf_turns.ghosts

-- the locks
abbrev pub EndLock : Type 0
EndLock = TurnLock Held EndCall EndAnswer ℕ

abbrev pub ShelfLock : Type 0
ShelfLock = TurnLock Shelf ShelfCall ShelfAnswer Unit

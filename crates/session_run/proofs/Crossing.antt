-- An end and a shelf may go to another thread, and so may their seats; their locks may be shared.
use denote.RattleType.{RattleType}
use denote.Builtin.{u64, unit}
use denote.Param.Send.{IsSend, IsSync, sendable}
use Rattle.std.proofs.Crossing.{crosses}
use Rattle.channel_core.specs.contracts.call.EndAnswer as EndAnswer
use Rattle.channel_core.specs.contracts.call.EndCall as EndCall
use Rattle.turn_lock.specs.contracts.seat.Seat as Seat
use Rattle.turn_lock.specs.contracts.seat.TurnLock as TurnLock
use Rattle.turn_lock.proofs.Crossing as lock
use Rattle.session_run.specs.contracts.held.Held as Held
use Rattle.session_run.specs.contracts.held.HeldTurn.TheImpl as turns
use Rattle.session_run.specs.contracts.shelf.Shelf as Shelf
use Rattle.session_run.specs.contracts.shelf.ShelfTurn.TheImpl as shelf_turns
use Rattle.session_run.specs.contracts.shelf_call.ShelfAnswer as ShelfAnswer
use Rattle.session_run.specs.contracts.shelf_call.ShelfCall as ShelfCall

-- an end may cross
pub Held-send : IsSend Held.the_row
Held-send = search (sendable, crosses) depth 60 fits 20000

abbrev pub TheLock : RattleType
TheLock = TurnLock.the_row Held.the_row EndCall.the_row EndAnswer.the_row u64 turns.ghosts

-- a lock over an end may be shared
pub TurnLock-sync : IsSync TheLock
TurnLock-sync = lock.TurnLock-sync Held.the_row EndCall.the_row EndAnswer.the_row u64 turns.ghosts Held-send

-- a seat may cross, by itself and as a field
pub Seat-send : IsSend (Seat.the_row Held.the_row EndCall.the_row EndAnswer.the_row u64 turns.ghosts)
Seat-send = lock.Seat-send Held.the_row EndCall.the_row EndAnswer.the_row u64 turns.ghosts Held-send

pub Seat_field-send : IsSend (Seat.the_field Held.the_row EndCall.the_row EndAnswer.the_row u64 turns.ghosts).row
Seat_field-send = lock.Seat_field-send Held.the_row EndCall.the_row EndAnswer.the_row u64 turns.ghosts Held-send

-- a shelf may cross
pub Shelf-send : IsSend Shelf.the_row
Shelf-send = search (sendable, crosses) depth 40

abbrev pub TheShelfLock : RattleType
TheShelfLock =
    TurnLock.the_row Shelf.the_row ShelfCall.the_row ShelfAnswer.the_row unit shelf_turns.ghosts

-- a lock over a shelf may be shared
pub ShelfLock-sync : IsSync TheShelfLock
ShelfLock-sync =
    lock.TurnLock-sync Shelf.the_row ShelfCall.the_row ShelfAnswer.the_row unit
    shelf_turns.ghosts Shelf-send

-- a seat of it may cross, by itself and as a field
pub ShelfSeat-send :
    IsSend (Seat.the_row Shelf.the_row ShelfCall.the_row ShelfAnswer.the_row unit shelf_turns.ghosts)
ShelfSeat-send =
    lock.Seat-send Shelf.the_row ShelfCall.the_row ShelfAnswer.the_row unit
    shelf_turns.ghosts Shelf-send

pub ShelfSeat_field-send :
    IsSend
    (Seat.the_field Shelf.the_row ShelfCall.the_row ShelfAnswer.the_row unit
    shelf_turns.ghosts).row
ShelfSeat_field-send =
    lock.Seat_field-send Shelf.the_row ShelfCall.the_row ShelfAnswer.the_row unit
    shelf_turns.ghosts Shelf-send

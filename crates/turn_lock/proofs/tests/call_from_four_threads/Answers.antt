use denote.RattleType.{RattleType}
use denote.Ref.{NamedLft}
use denote.Builtin.{u64, unit}
use denote.Param.Send.{IsSend, IsSync, sendable, struct_send, recorded_send, shr_send}
use denote.Struct.Declared.{shape}
use Rattle.turn_lock.specs.contracts.tests.Caller as Caller
use Rattle.turn_lock.specs.contracts.tests.Counter as Counter
use Rattle.turn_lock.specs.contracts.tests.CounterTurn.TheImpl as turns
use Rattle.turn_lock.specs.contracts.seat.TurnLock as TurnLock
use Rattle.turn_lock.proofs.Crossing.{Seat-send, Seat_field-send, TurnLock-sync}
use Rattle.turn_lock.proofs.tests.call_from_four_threads.Goals as goal

Counter-send : IsSend Counter.the_row
Counter-send = search sendable depth 20

-- a caller may go to another thread
Caller-send : (κ : NamedLft) (R : RattleType) → IsSync R → IsSend (Caller.the_row κ R)
Caller-send κ R y =
    let lock : IsSync (TurnLock.the_row Counter.the_row unit u64 unit turns.ghosts) =
    TurnLock-sync Counter.the_row unit u64 unit turns.ghosts Counter-send in
    let seat = Seat_field-send Counter.the_row unit u64 unit turns.ghosts Counter-send in
    recorded_send _ _ _ (Caller.the_type κ R).to_one (struct_send (shape (Caller.the_type κ R)) (
      shr_send κ.mir κ.lft R y,
      (shr_send κ.mir κ.lft (TurnLock.the_row Counter.the_row unit u64 unit turns.ghosts) lock, (seat, (search sendable, (search sendable, tt)))),
    ))

pub run_four-requires-send-J : goal.run_four-requires-send-J
run_four-requires-send-J g c κs within = search (sendable, Caller-send)

pub run_four-requires-send-J-Done : goal.run_four-requires-send-J-Done
run_four-requires-send-J-Done g c κs within = search (sendable, Seat-send, Counter-send) depth 20

use Rattle.turn_lock.specs.Seats.{IsSeatOf}
use Rattle.relay_desk.proofs.tests.an_inlet_steps_what_comes.Given as goal

abbrev pub invariant-loop-expected : goal.invariant-loop-expected
invariant-loop-expected g l = IsSeatOf l.switch l.inlet.seat × IsSeatOf l.desk l.desk_seat

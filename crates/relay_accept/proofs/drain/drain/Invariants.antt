use Rattle.turn_lock.specs.Seats.{SameLock}
use Rattle.relay_accept.proofs.drain.drain.Given as goal

abbrev pub invariant-loop : goal.invariant-loop
invariant-loop g l = SameLock l.initial.seat l.seat

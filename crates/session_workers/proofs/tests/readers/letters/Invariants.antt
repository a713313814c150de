use Rattle.turn_lock.specs.Seats.{SameLock}
use Rattle.session_workers.proofs.tests.readers.letters.Given as goal

abbrev pub invariant-loop : goal.invariant-loop
invariant-loop g l = SameLock l.initial.seat l.seat

use Rattle.turn_lock.specs.Seats.{IsSeatOf}
use Rattle.session_feeds.proofs.tests.acknowledge_three.Given as goal

abbrev pub invariant-loop : goal.invariant-loop
invariant-loop g l = IsSeatOf l.fn.ends l.seat

use Rattle.std.proofs.Common.{◌≡◌}
use Rattle.turn_lock.specs.Seats.{SameLock, share_of}
use Rattle.turn_lock.proofs.tests.CallerJob.run.Given as goal

abbrev pub invariant-loop-call : goal.invariant-loop-call
invariant-loop-call g l = record {
  lock : SameLock l.initial.seat l.seat;
  share : share_of l.seat ≡ share_of l.initial.seat;
}

use Rattle.std.proofs.Common.{◌≡◌}
use Rattle.turn_lock.proofs.seat.TurnLock.reach.Given as goal

abbrev pub invariant-loop : goal.invariant-loop
invariant-loop g l = record {
  lock : l.inner.table_id ≡ l.initial.inner.table_id;
  seat : l.inner.me ≡ l.initial.inner.me;
}

use Rattle.std.proofs.Common.{rules, ap}
use Rattle.turn_lock.proofs.SeatLemmas.{learns}
use Rattle.turn_lock.proofs.SplitLemmas.{splits}
use Rattle.turn_lock.proofs.seat.TurnLock.split.Goals as goal

pub split_seat-inner-requires : goal.split_seat-inner-requires
split_seat-inner-requires g c = (search rules, search rules, splits g.V.Turn _ _ _ c.args.seat.now.idle.0)

pub load-requires : goal.load-requires
load-requires g c = (
  search rules,
  search rules,
  learns g.V.Turn _ _ _ _ (ap (λ m. m.0.stage) c.split_seat-inner.ensures.4),
)

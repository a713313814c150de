use Rattle.std.proofs.Common.{rules, ap}
use Rattle.turn_lock.proofs.PlaceLemmas.{none_held}
use Rattle.turn_lock.proofs.SeatLemmas.{settles}
use Rattle.turn_lock.proofs.JoinLemmas.{joins}
use Rattle.turn_lock.proofs.seat.TurnLock.join.Goals as goal

pub join_seat-requires : goal.join_seat-requires
join_seat-requires g c = (
  search rules,
  search rules,
  none_held _ c.args.from.idle.1,
  search rules,
  joins g.V.Turn _ _ _ _ _ g.V.Turn.unset c.args.into.now.idle.0 c.args.from.idle.0,
)

pub load-requires : goal.load-requires
load-requires g c = (
  search rules,
  search rules,
  settles g.V.Turn _ _ _ _ _ (ap (λ m. m.0.stage) c.join_seat.ensures.2),
)

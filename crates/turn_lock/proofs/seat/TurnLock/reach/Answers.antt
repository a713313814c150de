use Rattle.std.proofs.Common.{rules, ap, ◌∙◌}
use Rattle.turn_lock.proofs.TicketLemmas.{awaits}
use Rattle.turn_lock.proofs.seat.TurnLock.reach.Goals as goal

pub load-served-requires : goal.load-served-requires
load-served-requires g c = (
  search rules,
  search rules,
  awaits g.V.Turn _ _ _ _ c.args.ticket (ap (λ m. m.0.stage) c.loop.invariant.seat ∙ c.requires.ticket),
)

use Rattle.std.proofs.Common.{rules, subst, ap, ◌∙◌}
use Rattle.turn_lock.specs.Steps.{TakesTurn}
use Rattle.turn_lock.proofs.TicketLemmas.{watches}
use Rattle.turn_lock.proofs.seat.TurnLock.wait.Goals as goal

pub load-serving-requires : goal.load-serving-requires
load-serving-requires g c = (
  search rules,
  search rules,
  watches g.V.Turn _ _ _ _ c.args.ticket (ap (λ m. m.0.stage) c.loop.invariant.seat ∙ c.requires.ticket.0),
)

pub returns-then-serving-ticket-clause-turn : goal.returns-then-serving-ticket-clause-turn
returns-then-serving-ticket-clause-turn g c =
    let waits = ap (λ m. m.0.stage) c.loop.invariant.seat ∙ c.requires.ticket.0 in
    let taken = (c.load-serving.ensures.2 c.args.ticket waits).0 c.if-serving-ticket.true in
    subst (λ m. TakesTurn g.V.Turn.legal g.V.Turn.stands g.V.Turn.setting c.args.ticket m c.load-serving.new.seat.me)
    c.loop.invariant.seat taken

use Rattle.std.proofs.Common.{List}
use Rattle.session_delivery.specs.DeliverSteps.{Serving}
use Rattle.session_delivery.specs.Delivering.{DeliverStep}
use Rattle.session_delivery.specs.declared.delivered.Delivered.{Delivered}
use Rattle.session_delivery.proofs.deliver_work.run_deliverer.Given as goal

abbrev pub invariant-loop : goal.invariant-loop
invariant-loop g l =
    (steps : List DeliverStep)
    × Serving g.S.F.Feeder.told g.W.Spawner.faults l.ctx.ends.now l.ctx.shelf.now
    g.S.Session.stands g.S.Session.out g.S.Session.begun g.S.Session.refused l.fn.start.session
    l.fn.start.end l.fn.start.shelf steps l.deliverer Delivered.On

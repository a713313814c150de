use Rattle.relay_accept.proofs.StepLemmas.{Steps-all}
use Rattle.relay_accept.proofs.accept.accept_all.Goals as goal

pub returns : goal.returns
returns g c =
    Steps-all g.W.Spawner.faults c.args.ctx.now.desk.now _ _ _ c.new-conns.result.items _ _ _ _ _ _
    c.new-conns.ensures.items c.accept_until_over.ensures
    (c.join_all.ensures (g.L.LinkPorts.faults c.accept_until_over.new.ports))

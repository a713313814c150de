use Rattle.relay_accept.specs.Accepting.{Steps}
use Rattle.relay_accept.specs.Seats.{locks_in}
use Rattle.relay_accept.proofs.accept.accept_until_over.Given as goal

abbrev pub invariant-loop : goal.invariant-loop
invariant-loop g l =
    Steps g.W.Spawner.faults l.fn.ctx.desk.now (locks_in l.fn.ctx.switches.now)
    (g.L.LinkPorts.faults l.initial.ports) (g.L.LinkPorts.faults l.ports) l.initial.conns.items
    l.conns.items l.initial.acceptor l.acceptor

use Rattle.std.proofs.Common.{ℕ}
use Rattle.relay_accept.specs.Accepting.{Steps}
use Rattle.relay_accept.specs.Seats.{locks_in}
use Rattle.relay_accept.proofs.accepting.join_all.Given as goal

abbrev pub invariant-loop : goal.invariant-loop
invariant-loop g l =
    (port : ℕ)
    → Steps g.W.Spawner.faults l.fn.ctx.desk.now (locks_in l.fn.ctx.switches.now) port port
    l.initial.conns.items l.conns.items l.initial.acceptor l.acceptor

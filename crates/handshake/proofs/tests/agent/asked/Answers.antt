use Rattle.std.proofs.Common.{lit≤}
use Rattle.handshake.specs.declared.agreed.SessionType.TheVariants.{Standard}
use Rattle.handshake.proofs.tests.agent.asked.Goals as goal

pub new-agent-requires : goal.new-agent-requires
new-agent-requires c =
    c.short_requests_fit.ensures (record { session = Standard; properties = c.none.result })
    (rw (c.none.ensures.local_port, c.none.ensures.port, c.none.ensures.kind) (lit≤ tt))

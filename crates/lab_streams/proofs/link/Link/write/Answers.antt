use Rattle.std.proofs.Common.{refl}
use Rattle.chan_values.specs.declared.side.Side.TheVariants.{Plugin, Agent}
use Rattle.lab_streams.proofs.CallLemmas.{MakesStep-write}
use Rattle.lab_streams.proofs.link.Link.write.Goals as goal

pub returns-in-Plugin : goal.returns-in-Plugin
returns-in-Plugin c past line is =
    rw (c.in-Plugin.is, ← c.as_slice-bytes.ensures)
    (MakesStep-write past line Plugin c.args.sid _ c.write.result c.args.self.now _
    c.outcome_of_write.result is
    (record { here = record { follows = c.write.ensures; kept = refl }; there = refl })
    c.outcome_of_write.ensures)

pub returns-in-Agent : goal.returns-in-Agent
returns-in-Agent c past line is =
    rw (c.in-Agent.is, ← c.as_slice-bytes.ensures)
    (MakesStep-write past line Agent c.args.sid _ c.write-in-Agent.result c.args.self.now _
    c.outcome_of_write-in-Agent.result is
    (record { here = record { follows = c.write-in-Agent.ensures; kept = refl }; there = refl })
    c.outcome_of_write-in-Agent.ensures)

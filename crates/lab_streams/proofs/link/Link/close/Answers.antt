use Rattle.std.proofs.Common.{refl}
use Rattle.chan_values.specs.declared.side.Side.TheVariants.{Plugin, Agent}
use Rattle.lab_streams.proofs.CallLemmas.{MakesStep-close}
use Rattle.lab_streams.proofs.link.Link.close.Goals as goal

pub returns-in-Plugin : goal.returns-in-Plugin
returns-in-Plugin c past line is =
    rw c.in-Plugin.is
    (MakesStep-close past line Plugin c.args.sid c.close.result c.args.self.now _
    c.outcome_of_write.result is
    (record { here = record { follows = c.close.ensures; kept = refl }; there = refl })
    c.outcome_of_write.ensures)

pub returns-in-Agent : goal.returns-in-Agent
returns-in-Agent c past line is =
    rw c.in-Agent.is
    (MakesStep-close past line Agent c.args.sid c.close-in-Agent.result c.args.self.now _
    c.outcome_of_write-in-Agent.result is
    (record { here = record { follows = c.close-in-Agent.ensures; kept = refl }; there = refl })
    c.outcome_of_write-in-Agent.ensures)

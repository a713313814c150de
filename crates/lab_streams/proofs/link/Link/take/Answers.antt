use Rattle.std.proofs.Common.{refl}
use Rattle.chan_values.specs.declared.side.Side.TheVariants.{Plugin, Agent}
use Rattle.lab_streams.proofs.CallLemmas.{MakesStep-take}
use Rattle.lab_streams.proofs.link.Link.take.Goals as goal

pub returns-in-Plugin : goal.returns-in-Plugin
returns-in-Plugin c past line is =
    rw c.in-Plugin.is
    (MakesStep-take past line Plugin c.args.sid c.args.most c.take.result c.args.self.now _
    c.outcome_of_taken.result is
    (record { here = record { follows = c.take.ensures; kept = refl }; there = refl })
    c.outcome_of_taken.ensures)

pub returns-in-Agent : goal.returns-in-Agent
returns-in-Agent c past line is =
    rw c.in-Agent.is
    (MakesStep-take past line Agent c.args.sid c.args.most c.take-in-Agent.result c.args.self.now _
    c.outcome_of_taken-in-Agent.result is
    (record { here = record { follows = c.take-in-Agent.ensures; kept = refl }; there = refl })
    c.outcome_of_taken-in-Agent.ensures)

use Rattle.std.proofs.Common.{refl}
use Rattle.chan_values.specs.declared.side.Side.TheVariants.{Plugin, Agent}
use Rattle.lab_streams.proofs.CallLemmas.{GivesOut-bounded, GivesOut-call}
use Rattle.lab_streams.proofs.link.Link.give_out.Goals as goal

pub returns-in-Plugin-clause-given : goal.returns-in-Plugin-clause-given
returns-in-Plugin-clause-given c past is =
    rw c.in-Plugin.is
    (GivesOut-call past Plugin c.args.most c.args.self.now _ c.out.result is
    (record { here = record { follows = c.out.ensures.follows; kept = refl }; there = refl }))

pub returns-in-Agent-clause-given : goal.returns-in-Agent-clause-given
returns-in-Agent-clause-given c past is =
    rw c.in-Agent.is
    (GivesOut-call past Agent c.args.most c.args.self.now _ c.out-in-Agent.result is
    (record { here = record { follows = c.out-in-Agent.ensures.follows; kept = refl }; there = refl }))

pub returns-in-Plugin-clause-bounded : goal.returns-in-Plugin-clause-bounded
returns-in-Plugin-clause-bounded c =
    let is = c.requires.1 in
    GivesOut-bounded c.requires.0 Plugin c.args.most _ c.out.result
    (GivesOut-call c.requires.0 Plugin c.args.most c.args.self.now
    (record c.args.self.now { plugin = record c.args.self.now.plugin { mux = c.out.new.self } })
    c.out.result is
    (record { here = record { follows = c.out.ensures.follows; kept = refl }; there = refl }))

pub returns-in-Agent-clause-bounded : goal.returns-in-Agent-clause-bounded
returns-in-Agent-clause-bounded c =
    let is = c.requires.1 in
    GivesOut-bounded c.requires.0 Agent c.args.most _ c.out-in-Agent.result
    (GivesOut-call c.requires.0 Agent c.args.most c.args.self.now
    (record c.args.self.now { agent = record c.args.self.now.agent { mux = c.out-in-Agent.new.self } })
    c.out-in-Agent.result is
    (record { here = record { follows = c.out-in-Agent.ensures.follows; kept = refl }; there = refl }))

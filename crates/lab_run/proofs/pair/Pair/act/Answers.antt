use Rattle.std.proofs.Common.{refl}
use Rattle.chan_values.specs.declared.side.Side.TheVariants.{Plugin, Agent}
use Rattle.lab_run.proofs.PairLemmas.{PairMakes-by}
use Rattle.lab_run.proofs.pair.Pair.act.Goals as goal

pub returns-in-Plugin : goal.returns-in-Plugin
returns-in-Plugin c w world is =
    rw c.in-Plugin.is
    (PairMakes-by w world c.args.context.now.moment c.args.context.now.line Plugin c.args.action
    c.args.self.now _ c.act.result is (c.act.ensures w world) refl)

pub returns-in-Agent : goal.returns-in-Agent
returns-in-Agent c w world is =
    rw c.in-Agent.is
    (PairMakes-by w world c.args.context.now.moment c.args.context.now.line Agent c.args.action
    c.args.self.now _ c.act-in-Agent.result is (c.act-in-Agent.ensures w world) refl)

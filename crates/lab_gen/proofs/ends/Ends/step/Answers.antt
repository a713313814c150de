use Rattle.std.proofs.Common.{refl}
use Rattle.std.proofs.lemmas.Result.{on_ok_weaker}
use Rattle.lab_gen.proofs.EndsLemmas.{IsEnds-agent, IsEnds-plugin}
use Rattle.lab_gen.proofs.ends.Ends.step.Goals as goal

pub returns-in-Plugin-clause-told : goal.returns-in-Plugin-clause-told
returns-in-Plugin-clause-told c w world is =
    rw c.in-Plugin.is (c.step.ensures.told w world is.legal is.plugin is.agent)

pub returns-in-Plugin-clause-made : goal.returns-in-Plugin-clause-made
returns-in-Plugin-clause-made c w world is =
    rw c.in-Plugin.is
    (on_ok_weaker c.step.result
    (λ made.
    IsEnds-plugin w world c.args.context.now.moment c.args.context.now.line c.args.action
    c.args.self.now _ is made refl)
    (c.step.ensures.made w world is.legal is.plugin is.agent))

pub returns-in-Agent-clause-told : goal.returns-in-Agent-clause-told
returns-in-Agent-clause-told c w world is =
    rw c.in-Agent.is (c.step-in-Agent.ensures.told w world is.legal is.agent is.plugin)

pub returns-in-Agent-clause-made : goal.returns-in-Agent-clause-made
returns-in-Agent-clause-made c w world is =
    rw c.in-Agent.is
    (on_ok_weaker c.step-in-Agent.result
    (λ made.
    IsEnds-agent w world c.args.context.now.moment c.args.context.now.line c.args.action
    c.args.self.now _ is made refl)
    (c.step-in-Agent.ensures.made w world is.legal is.agent is.plugin))

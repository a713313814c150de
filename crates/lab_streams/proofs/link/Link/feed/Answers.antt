use Rattle.std.proofs.Common.{refl}
use Rattle.std.proofs.lemmas.Result.{IfOk-weaker}
use Rattle.chan_values.specs.declared.side.Side.TheVariants.{Plugin, Agent}
use Rattle.lab_streams.proofs.CallLemmas.{IsFed-call}
use Rattle.lab_streams.proofs.link.Link.feed.Goals as goal

pub returns-in-Plugin : goal.returns-in-Plugin
returns-in-Plugin c past line is =
    rw c.in-Plugin.is
    (IfOk-weaker c.feed.result _ _
    (λ events feeds. IsFed-call past line Plugin events c.args.self.now _ is feeds refl)
    c.feed.ensures)

pub returns-in-Agent : goal.returns-in-Agent
returns-in-Agent c past line is =
    rw c.in-Agent.is
    (IfOk-weaker c.feed-in-Agent.result _ _
    (λ events feeds. IsFed-call past line Agent events c.args.self.now _ is feeds refl)
    c.feed-in-Agent.ensures)

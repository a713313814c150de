use Rattle.chan_values.specs.declared.side.Side.TheVariants.{Plugin, Agent}
use Rattle.channel_core.specs.World.{history_of}
use Rattle.lab_streams.proofs.PushLemmas.{looked}
use Rattle.lab_streams.proofs.streams.Streams.look.Goals as goal

pub returns-in-Plugin : goal.returns-in-Plugin
returns-in-Plugin c w events is =
    rw c.in-Plugin.is
    (looked w (history_of Plugin events) _ c.look.result (is.legal Plugin) is.plugin.sent.stands
    c.look.ensures)

pub returns-in-Agent : goal.returns-in-Agent
returns-in-Agent c w events is =
    rw c.in-Agent.is
    (looked w (history_of Agent events) _ c.look-in-Agent.result (is.legal Agent)
    is.agent.sent.stands c.look-in-Agent.ensures)

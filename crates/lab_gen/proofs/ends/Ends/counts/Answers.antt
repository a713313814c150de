use Rattle.std.proofs.Common.{refl}
use Rattle.chan_values.specs.declared.side.Side.TheVariants.{Plugin, Agent}
use Rattle.channel_core.specs.World.{history_of}
use Rattle.lab_gen.proofs.CountLemmas.{put_by, released_by}
use Rattle.lab_gen.proofs.ends.Ends.counts.Goals as goal

pub returns : goal.returns
returns c w world is =
    let p = history_of Plugin world in
    let a = history_of Agent world in
    let plugin = is.plugin.done.stands in
    let agent = is.agent.done.stands in
    let put_p = put_by w p _ c.look-plugin.result (is.legal Plugin) plugin c.look-plugin.ensures in
    let put_a = put_by w a _ c.look-agent.result (is.legal Agent) agent c.look-agent.ensures in
    let out_a =
    released_by w a _ c.look-agent.result (is.legal Agent) agent c.look-agent.ensures in
    let out_p =
    released_by w p _ c.look-plugin.result (is.legal Plugin) plugin c.look-plugin.ensures in
    rw (put_p, put_a, out_a, out_p) refl

use Rattle.std.proofs.Common.{ap, ◌∙◌}
use Rattle.relay_core.specs.Rooms.{holder}
use Rattle.relay_core.proofs.EventLemmas.{holder-told}
use Rattle.relay_core.proofs.relay.Relay.current.Goals as goal

pub returns : goal.returns
returns c es stands =
    let session = c.args.session.now in
    let role = c.args.role in
    c.holder.ensures ∙ ap (holder role) (c.room.ensures ∙ stands.rooms session)
    ∙ holder-told es session role

use Rattle.std.proofs.Common.{◌≡◌, sym, subst}
use Rattle.std.specs.Result.{IfOk}
use Rattle.relay_core.specs.declared.event.Event.{Event}
use Rattle.relay_core.specs.Rooms.{forwards}
use Rattle.relay_core.specs.Kept.{Follows}
use Rattle.relay_core.proofs.FollowLemmas.{follows-binary, follows-ended, follows-gone, follows-opened}
use Rattle.relay_core.proofs.relay.Relay.step.Goals as goal

pub returns-in-Opened : goal.returns-in-Opened
returns-in-Opened c =
    let o = c.in-Opened in
    subst
    (λ (e : Event). Follows c.args.self.now e c.args.id c.args.now c.open.result c.open.new.self)
    (sym o.is)
    (follows-opened c.args.self.now c.open.new.self c.args.id c.args.now o.conn o.session o.role
    o.reply c.open.result c.open.ensures.told c.open.ensures.ok c.open.ensures.err)

pub returns-in-Gone : goal.returns-in-Gone
returns-in-Gone c =
    let o = c.in-Gone in
    subst
    (λ (e : Event). Follows c.args.self.now e c.args.id c.args.now c.lose.result c.lose.new.self)
    (sym o.is)
    (follows-gone c.args.self.now c.lose.new.self c.args.id c.args.now o.conn c.lose.result
    c.lose.ensures.told c.lose.ensures.ok c.lose.ensures.err)

pub returns-in-EndSession : goal.returns-in-EndSession
returns-in-EndSession c =
    let o = c.in-EndSession in
    subst
    (λ (e : Event). Follows c.args.self.now e c.args.id c.args.now c.end.result c.end.new.self)
    (sym o.is)
    (follows-ended c.args.self.now c.end.new.self c.args.id c.args.now o.session c.end.result
    c.end.ensures.told c.end.ensures.ok c.end.ensures.err)

pub returns-in-Binary : goal.returns-in-Binary
returns-in-Binary c =
    let o = c.in-Binary in
    subst
    (λ (e : Event). Follows c.args.self.now e c.args.id c.args.now c.forward.result c.args.self.now)
    (sym o.is)
    (follows-binary c.args.self.now c.args.self.now c.args.id c.args.now o.conn o.bytes
    c.forward.result
    (subst (λ peer. IfOk c.forward.result (λ told. told ≡ forwards peer o.bytes))
    c.peer.ensures c.forward.ensures))

use Rattle.std.proofs.Common.{ℕ, List, cond, sym, ap, subst, ◌∙◌}
use Rattle.channel_core.specs.History.{emissions}
use Rattle.channel_core.specs.World.{history_of}
use Rattle.relay_core.specs.declared.event.Event.{Event}
use Rattle.relay_core.specs.Forwarding.{current}
use Rattle.relay_core.specs.Rooms.{is_conn}
use Rattle.lab_script.specs.declared.outcome.RelayOutcome.{RelayOutcome}
use Rattle.lab_run.proofs.EmissionLemmas.{IsEmission-found}
use Rattle.lab_relay.specs.Scene.{came}
use Rattle.lab_relay.proofs.ComingLemmas.{Coming, StandsFor-posted}
use Rattle.lab_relay.proofs.InboxLemmas.{endpoint-at}
use Rattle.lab_relay.proofs.PostLemmas.{WasEmitted-which}
use Rattle.lab_relay.proofs.VerbLemmas.{posted-dropped, posted-sent}
use Rattle.lab_relay.proofs.verbs.post.Goals as goal

pub returns-in_default-last : goal.returns-in_default-last
returns-in_default-last c w s stands =
    let side = c.args.side in
    let sent = (endpoint-at w s.world c.args.relayed.now.pair stands.pair side).sent in
    let e =
    IsEmission-found side _ (emissions (history_of side s.world)) c.args.which c.in-Some.bytes.now
    sent.encoded sent.sendable c.in-Some.ensures in
    posted-dropped w s c.args.context.now.line c.args.context.now.moment side c.args.which
    c.args.relayed.now e.out stands e.found (sym (c.in_default-last.ensures (came s) stands.hub))

pub returns : goal.returns
returns c w s stands =
    let side = c.args.side in
    let line = c.args.context.now.line in
    let now = c.args.context.now.moment in
    let old = c.args.relayed.now in
    let new = c.come.new.self in
    let conn = c.in-Some-last.conn in
    let emitted = emissions (history_of side s.world) in
    let sent = (endpoint-at w s.world old.pair stands.pair side).sent in
    let e =
    IsEmission-found side _ emitted c.args.which c.in-Some.bytes.now sent.encoded sent.sendable
    c.in-Some.ensures in
    let last = sym (c.in-Some-last.ensures (came s) stands.hub) in
    let coming =
    subst (λ (x : Event). Coming x line now old new)
    (ap (Event.Binary conn) (c.in_ok-bytes.ensures ∙ e.encoded)) c.in_ok-come.ensures in
    let told =
    c.posted.ensures
    ∙ ap (λ b. cond b RelayOutcome.Sent RelayOutcome.Dropped)
    (c.is_conn-is_current.ensures
    ∙ ap (is_conn conn)
    (c.current.ensures (came s) stands.relay
    ∙ ap (λ (name : List ℕ). current (came s) name side) c.session.ensures)) in
    posted-sent w s line now side c.args.which new e.out conn c.posted.result e.found last told
    (StandsFor-posted w s line now old new stands side conn e.out last e.sendable
    (WasEmitted-which emitted c.args.which e.out e.found) coming)

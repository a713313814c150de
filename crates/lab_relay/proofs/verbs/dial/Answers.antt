use Rattle.std.proofs.Common.{◌≡◌, ap, subst, ◌∙◌}
use Rattle.relay_core.specs.declared.event.Event.{Event}
use Rattle.lab_script.specs.declared.outcome.Outcome.{Outcome}
use Rattle.lab_script.specs.declared.outcome.RelayOutcome.{RelayOutcome}
use Rattle.lab_relay.specs.declared.relayed.Relayed.{Relayed}
use Rattle.lab_relay.specs.Scene.{came, next_conn}
use Rattle.lab_relay.proofs.ComingLemmas.{Coming, StandsFor-dialed}
use Rattle.lab_relay.proofs.OwnedLemmas.{opened}
use Rattle.lab_relay.proofs.verbs.dial.Goals as goal

pub returns : goal.returns
returns c w s stands =
    let side = c.args.side in
    let line = c.args.context.now.line in
    let now = c.args.context.now.moment in
    let mid : Relayed = c.act.new.self in
    let old : Relayed = record mid { hub = c.dial.new.self } in
    let made = c.in_ok-act.ensures w s stands in
    let number : c.in_ok-conn.conn ≡ next_conn (came s) =
    c.in_ok-conn.ensures.number (came s) made.hub in
    let noted = c.in_ok-conn.ensures.made (came s) made.hub in
    let event : Event.Opened c.in_ok-conn.conn c.session.result side c.new-2.result
    ≡ opened (came s) side =
    λ i. Event.Opened (number i) (c.session.ensures i) side
    ((c.new-2.ensures ∙ c.new.ensures.items) i) in
    let coming =
    subst (λ (e : Event). Coming e line now old c.come.new.self) event c.in_ok-come.ensures in (
      ap (λ n. Outcome.Relay (RelayOutcome.Connection n)) number,
      StandsFor-dialed w s line now side c.act.new.self c.come.new.self c.dial.new.self made noted
          coming,
    )

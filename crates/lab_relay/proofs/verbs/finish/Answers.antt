use Rattle.std.proofs.Common.{ap, subst, refl}
use Rattle.relay_core.specs.declared.event.Event.{Event}
use Rattle.lab_relay.proofs.ComingLemmas.{Coming, StandsFor-ended}
use Rattle.lab_relay.proofs.verbs.finish.Goals as goal

pub returns : goal.returns
returns c w s stands =
    let line = c.args.context.now.line in
    let now = c.args.context.now.moment in
    let coming =
    subst (λ (e : Event). Coming e line now c.args.relayed.now c.come.new.self)
    (ap Event.EndSession c.session-session.ensures) c.in_ok-come.ensures in
    (refl, StandsFor-ended w s line now c.args.relayed.now c.come.new.self stands coming)

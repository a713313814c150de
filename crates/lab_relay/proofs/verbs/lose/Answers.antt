use Rattle.std.proofs.Common.{ℕ, Option, refl, subst}
use Rattle.lab_script.specs.declared.command.Action.{Action}
use Rattle.lab_relay.specs.Held.{StandsFor}
use Rattle.lab_relay.specs.Scene.{came}
use Rattle.lab_relay.specs.Steps.{after_loss, plain}
use Rattle.lab_relay.proofs.ComingLemmas.{StandsFor-lost}
use Rattle.lab_relay.proofs.verbs.lose.Goals as goal

pub returns : goal.returns
returns c w s stands =
    let line = c.args.context.now.line in
    let now = c.args.context.now.moment in
    let lost = (plain w s now line c.args.side Action.Lost).scene in
    let made = c.in_ok-act.ensures w s stands in (
      refl,
      subst (λ (conn : Option ℕ). StandsFor w (after_loss lost now line conn) c.come.new.self)
          (c.in-Some.ensures (came s) made.hub)
          (StandsFor-lost w lost line now c.act.new.self c.come.new.self made c.in-Some.conn
          c.in_ok-come.ensures),
    )

use Rattle.lab_relay.proofs.SceneLemmas.{StandsFor-new}
use Rattle.lab_relay.proofs.relayed.Relayed.new.Goals as goal

pub returns : goal.returns
returns c =
    StandsFor-new c.args.window _ c.in_ok-new.ensures c.in_ok-new-2.ensures c.new-3.ensures
    c.new-4.ensures
    c.new-5.ensures

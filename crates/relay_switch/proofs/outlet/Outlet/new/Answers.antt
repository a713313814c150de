use Rattle.relay_switch.proofs.OutletLemmas.{outlet-new}
use Rattle.relay_switch.proofs.outlet.Outlet.new.Goals as goal

pub invariant_of-result : goal.invariant_of-result
invariant_of-result g c =
    record { kept = outlet-new c.args.conn _ _ c.requires.unsent c.requires.none }

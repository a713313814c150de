use Rattle.std.proofs.Common.{subst}
use mathlib.Core.Logic.{∥∥₁_elim, ∥∥₁_prop}
use Rattle.turn_lock.specs.Seats.{mine_of}
use Rattle.relay_switch.specs.Outlets.{IsOutlet}
use Rattle.relay_run.proofs.StopLemmas.{outlet-shut}
use Rattle.relay_run.proofs.send_job.stop.Goals as goal

pub invariant_of-outlet : goal.invariant_of-outlet
invariant_of-outlet g c =
    let outlet = c.args.outlet.now in
    let told = g.U.LinkOut.departures outlet.output in
    record {
      kept = ∥∥₁_elim outlet.kept ∥∥₁_prop (λ kept.
          ∣ outlet-shut outlet.conn told (g.U.LinkOut.departures c.shut.new.self)
          (mine_of outlet.seat)
          (subst (λ over. IsOutlet outlet.conn over told (mine_of outlet.seat)) c.requires kept)
          c.shut.ensures.shuts ∣₁);
    }

use Rattle.std.proofs.Common.{◌++◌, ◌∷◌, [], List, refl, sym, subst}
use mathlib.Core.Logic.{∥∥₁_elim, ∥∥₁_prop}
use Rattle.turn_lock.specs.Histories.{entry}
use Rattle.turn_lock.specs.Seats.{mine_of, number_of}
use Rattle.relay_switch.specs.declared.switch_call.SwitchCall.{SwitchCall}
use Rattle.relay_switch.specs.Outlets.{IsOutlet, SwitchEntry}
use Rattle.relay_switch.proofs.OutletLemmas.{outlet-after}
use Rattle.relay_switch.proofs.outlet.Outlet.turn.Goals as goal

pub invariant_of-self : goal.invariant_of-self
invariant_of-self g c =
    let self = c.args.self.now in
    let mine = mine_of self.seat in
    let told = g.U.LinkOut.departures self.output in
    let after = g.U.LinkOut.departures c.carry_out-turned.new.output in
    let e = entry (number_of self.seat) (SwitchCall.Take self.conn) c.take-answer.result in
    record {
      kept = ∥∥₁_elim self.kept ∥∥₁_prop (λ kept.
          let more = outlet-after self.conn mine e told after c.carry_out-turned.result _ _
          (subst (λ over. IsOutlet self.conn over told mine) c.requires.over kept) refl
          c.carry_out-turned.ensures in
          ∣ subst
          (λ (m : List SwitchEntry). IsOutlet self.conn c.is_last-self.result after m)
          (sym c.take-answer.ensures.calls.mine)
          (subst (λ over. IsOutlet self.conn over after (mine ++ e ∷ []))
          (sym c.is_last-self.ensures) more) ∣₁);
    }

use Rattle.relay_switch.proofs.StepLemmas.{WaitsSame-refl, WaitsSame-then}
use Rattle.relay_switch.proofs.lines.settle.Goals as goal

pub loop-alloc-init : goal.loop-alloc-init
loop-alloc-init c = WaitsSame-refl _ _

pub loop-alloc-preserved : goal.loop-alloc-preserved
loop-alloc-preserved c =
    WaitsSame-then _ _ _ _ _ _ c.loop-alloc.invariant c.move_first.ensures.same

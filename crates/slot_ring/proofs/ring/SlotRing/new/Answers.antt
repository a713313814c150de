use Rattle.std.proofs.Common.{sym}
use Rattle.slot_ring.proofs.SlotLemmas.{IsSound-empty, ring-empty}
use Rattle.slot_ring.proofs.ring.SlotRing.new.Goals as goal

pub invariant_of-result : goal.invariant_of-result
invariant_of-result g c =
    let slots = c.in_ok-slots.slots in
    let fresh = c.in_ok-slots.ensures in
    IsSound-empty slots.items slots.len c.args.capacity c.args.base fresh.sized fresh.empty
    (sym slots.ok.0) c.requires.low c.requires.small

pub returns : goal.returns
returns g c =
    let slots = c.in_ok-slots.slots in
    let fresh = c.in_ok-slots.ensures in
    ring-empty slots.items slots.len c.args.capacity c.args.base fresh.sized fresh.empty

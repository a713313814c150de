use Rattle.std.proofs.Common.{◌∙◌}
use Rattle.slot_ring.proofs.SlotLemmas.{value_with-outside, value_with-slot}
use Rattle.slot_ring.proofs.ring.SlotRing.get.Goals as goal

pub returns-in-Some : goal.returns-in-Some
returns-in-Some g c =
    let inside = c.self.inside in
    let at = rw c.len.ensures at c.in-Some.ensures in
    rw (← c.self.view_is)
    (c.as_ref.ensures.value
    ∙ value_with-slot inside.slots.items inside.slots.len inside.base c.args.number c.in-Some.at
    c.index.result.now c.self.invariant.sized at.0 at.1 at.2 c.index.ensures)

pub returns-in-None : goal.returns-in-None
returns-in-None g c =
    let inside = c.self.inside in
    rw (← c.self.view_is)
    (value_with-outside inside.slots.items inside.slots.len inside.base c.args.number
    (rw c.len.ensures at c.in-None.ensures))

use Rattle.std.proofs.Common.{◌+◌, arith}
use Rattle.slot_ring.specs.Inside.{slot_at}
use Rattle.slot_ring.proofs.NumberedLemmas.{value_with-past}
use Rattle.slot_ring.proofs.ring.SlotRing.next_free.Goals as goal

pub returns-clause-free : goal.returns-clause-free
returns-clause-free g c =
    let inside = c.self.inside in
    let low = rw (← c.self.view_is) at c.requires.low in
    rw (← c.self.view_is)
    (value_with-past (slot_at inside.slots.len inside.slots.items) inside.base inside.slots.len
    (c.args.from + c.len.result) (omega arith))

use Rattle.slot_ring.specs.Inside.{slot_at}
use Rattle.slot_ring.proofs.SlotLemmas.{IsRing-numbered}
use Rattle.slot_ring.proofs.ring.SlotRing.len.Goals as goal

pub returns-clause-sound : goal.returns-clause-sound
returns-clause-sound g c =
    let inside = c.self.inside in
    rw (← c.self.view_is)
    (IsRing-numbered (slot_at inside.slots.len inside.slots.items) inside.base inside.slots.len)

use Rattle.std.proofs.Common.{length, ◌+◌, ap, sym, ◌∙◌, arith}
use Rattle.slot_ring.proofs.SlotLemmas.{numbered-passed}
use Rattle.slot_ring.proofs.ring.SlotRing.pass.Goals as goal

pub invariant_of-self : goal.invariant_of-self
invariant_of-self g c =
    let inside = c.self.inside in
    let sound = c.self.invariant in
    let stays = numbered-passed inside.slots.items inside.slots.len inside.base
    (rw (← c.self.view_is) at c.requires.free) in
    record {
      small = let small = rw (← c.self.view_is) at c.requires.small in omega arith;
      few = sound.few;
      sized = sound.sized;
      counted = sound.counted ∙ sym (ap length stays);
    }

pub returns : goal.returns
returns g c =
    let inside = c.self.inside in
    let stays = numbered-passed inside.slots.items inside.slots.len inside.base
    (rw (← c.self.view_is) at c.requires.free) in
    rw (← c.self.view_is)
    (ap (λ es. record { base = inside.base + 1; capacity = inside.slots.len; held = es }) stays)

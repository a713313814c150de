use Rattle.std.proofs.Common.{Some, set, ◌%◌, ◌∙◌, ap, arith}
use Rattle.std.proofs.lemmas.List.{length-set}
use Rattle.slot_ring.specs.Inside.{slot_at}
use Rattle.slot_ring.proofs.NumberedLemmas.{length-numbered-le, one_if}
use Rattle.slot_ring.proofs.SlotLemmas.{IsRing-numbered, bool_byte-is_none, length-changed, numbered-written, value_with-slot, value_with-written}
use Rattle.slot_ring.proofs.ring.SlotRing.set.Goals as goal

pub overflow_add-self : goal.overflow_add-self
overflow_add-self g c =
    let inside = c.self.inside in
    let sound = c.self.invariant in
    let few = length-numbered-le (slot_at inside.slots.len inside.slots.items) inside.base
    inside.slots.len in
    let one = bool_byte-is_none c.is_none.result c.replace-replaced.result c.is_none.ensures in
    let flag = c.from.ensures in
    let counted = sound.counted in
    let most = sound.few in
    omega arith

pub invariant_of-self : goal.invariant_of-self
invariant_of-self g c =
    let inside = c.self.inside in
    let sound = c.self.invariant in
    let room = rw (← c.self.view_is) at c.requires in
    let count = length-changed inside.slots.items inside.slots.len inside.base c.args.number
    (c.args.number % c.len.result) c.index_mut.result.now (Some c.args.value) sound.sized
    room.0 room.1 (ap (λ k. c.args.number % k) c.len.ensures) c.index_mut.ensures.value in
    let one = bool_byte-is_none c.is_none.result c.replace-replaced.result c.is_none.ensures in
    let flag = c.from.ensures in
    let same = ap one_if c.replace-replaced.ensures.value in
    let counted = sound.counted in
    rw c.replace-replaced.ensures.after (record {
      small = sound.small;
      few = sound.few;
      sized = length-set inside.slots.items (c.args.number % c.len.result) (Some c.args.value)
          ∙ sound.sized;
      counted = omega arith;
    })

pub returns-clause-replaced : goal.returns-clause-replaced
returns-clause-replaced g c =
    let inside = c.self.inside in
    let room = rw (← c.self.view_is) at c.requires in
    rw (← c.self.view_is)
    (c.replace-replaced.ensures.value
    ∙ value_with-slot inside.slots.items inside.slots.len inside.base c.args.number
    (c.args.number % c.len.result) c.index_mut.result.now c.self.invariant.sized room.0 room.1
    (ap (λ k. c.args.number % k) c.len.ensures) c.index_mut.ensures.value)

pub returns-clause-state : goal.returns-clause-state
returns-clause-state g c =
    let inside = c.self.inside in
    let room = rw (← c.self.view_is) at c.requires in
    let held = numbered-written inside.slots.items inside.slots.len inside.base c.args.number
    (c.args.number % c.len.result) c.args.value c.self.invariant.sized room.0 room.1
    (ap (λ k. c.args.number % k) c.len.ensures) in
    rw (← c.self.view_is, c.replace-replaced.ensures.after)
    (ap (λ es. record { base = inside.base; capacity = inside.slots.len; held = es }) held)

pub returns-clause-sound : goal.returns-clause-sound
returns-clause-sound g c =
    let inside = c.self.inside in
    IsRing-numbered
    (slot_at inside.slots.len
    (set inside.slots.items (c.args.number % c.len.result) c.replace-replaced.new.self))
    inside.base inside.slots.len

pub returns-clause-found : goal.returns-clause-found
returns-clause-found g c =
    let inside = c.self.inside in
    let room = rw (← c.self.view_is) at c.requires in
    rw (← c.self.view_is, c.replace-replaced.ensures.after)
    (value_with-written inside.slots.items inside.slots.len inside.base c.args.number
    (c.args.number % c.len.result) c.args.value c.self.invariant.sized room.0 room.1
    (ap (λ k. c.args.number % k) c.len.ensures))

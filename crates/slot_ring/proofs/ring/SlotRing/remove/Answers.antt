use Rattle.std.proofs.Common.{None, ◌∙◌, ap, arith}
use Rattle.std.proofs.lemmas.List.{length-set}
use Rattle.slot_ring.proofs.NumberedLemmas.{one_if}
use Rattle.slot_ring.proofs.SlotLemmas.{bool_byte-is_some, counted-slot, length-changed, numbered-cleared, value_with-outside, value_with-slot, without-no_room}
use Rattle.slot_ring.proofs.ring.SlotRing.remove.Goals as goal

pub returns-in_err-at-clause-removed : goal.returns-in_err-at-clause-removed
returns-in_err-at-clause-removed g c =
    let inside = c.self.inside in
    rw (← c.self.view_is)
    (c.from_residual.ensures
    ∙ value_with-outside inside.slots.items inside.slots.len inside.base c.args.number
    (rw c.len.ensures at c.in_err-at.ensures))

pub returns-in_err-at-clause-state : goal.returns-in_err-at-clause-state
returns-in_err-at-clause-state g c =
    let inside = c.self.inside in
    rw (← c.self.view_is)
    (ap (λ es. record { base = inside.base; capacity = inside.slots.len; held = es })
    (without-no_room inside.slots.items inside.slots.len inside.base c.args.number
    (rw c.len.ensures at c.in_err-at.ensures)))

pub overflow_sub-self : goal.overflow_sub-self
overflow_sub-self g c =
    let inside = c.self.inside in
    let at = rw c.len.ensures at c.in_ok-at.ensures in
    let some = counted-slot inside.slots.items inside.slots.len inside.base c.args.number
    c.in_ok-at.at c.index_mut.result.now c.self.invariant.sized at.0 at.1 at.2
    c.index_mut.ensures.value in
    let one = c.from.ensures ∙ bool_byte-is_some c.is_some.result c.take-removed.result
    c.is_some.ensures ∙ ap one_if c.take-removed.ensures.value in
    let counted = c.self.invariant.counted in
    omega arith

pub invariant_of-self : goal.invariant_of-self
invariant_of-self g c =
    let inside = c.self.inside in
    let sound = c.self.invariant in
    let at = rw c.len.ensures at c.in_ok-at.ensures in
    let count = length-changed inside.slots.items inside.slots.len inside.base c.args.number
    c.in_ok-at.at c.index_mut.result.now None sound.sized at.0 at.1 at.2
    c.index_mut.ensures.value in
    let one = c.from.ensures ∙ bool_byte-is_some c.is_some.result c.take-removed.result
    c.is_some.ensures ∙ ap one_if c.take-removed.ensures.value in
    let counted = sound.counted in
    rw c.take-removed.ensures.after (record {
      small = sound.small;
      few = sound.few;
      sized = length-set inside.slots.items c.in_ok-at.at None ∙ sound.sized;
      counted = omega arith;
    })

pub returns-clause-removed : goal.returns-clause-removed
returns-clause-removed g c =
    let inside = c.self.inside in
    let at = rw c.len.ensures at c.in_ok-at.ensures in
    rw (← c.self.view_is)
    (c.take-removed.ensures.value
    ∙ value_with-slot inside.slots.items inside.slots.len inside.base c.args.number c.in_ok-at.at
    c.index_mut.result.now c.self.invariant.sized at.0 at.1 at.2 c.index_mut.ensures.value)

pub returns-clause-state : goal.returns-clause-state
returns-clause-state g c =
    let inside = c.self.inside in
    let at = rw c.len.ensures at c.in_ok-at.ensures in
    let held = numbered-cleared inside.slots.items inside.slots.len inside.base c.args.number
    c.in_ok-at.at c.self.invariant.sized at.0 at.1 at.2 in
    rw (← c.self.view_is, c.take-removed.ensures.after)
    (ap (λ es. record { base = inside.base; capacity = inside.slots.len; held = es }) held)

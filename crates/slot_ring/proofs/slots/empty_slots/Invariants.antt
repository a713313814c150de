use Rattle.std.proofs.Common.{◌≡◌, None, replicate, vec_len}
use Rattle.std.specs.Vec.{vec_capacity}
use Rattle.slot_ring.proofs.slots.empty_slots.Given as goal

abbrev pub invariant-loop-count : goal.invariant-loop-count
invariant-loop-count g l = record {
  room : vec_capacity l.slots ≡ l.capacity;
  sized : vec_len l.slots ≡ l.count;
  items : l.slots.items ≡ replicate l.count None;
}

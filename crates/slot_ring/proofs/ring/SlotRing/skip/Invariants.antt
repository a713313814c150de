use Rattle.std.proofs.Common.{◌≡◌, ◌≤◌, max}
use Rattle.slot_ring.proofs.ring.SlotRing.skip.Given as goal

abbrev pub invariant-loop-number : goal.invariant-loop-number
invariant-loop-number g l = record {
  state : l.self ≡ record l.fn.self { base = l.number };
  high : l.number ≤ max l.fn.self.base l.end;
}

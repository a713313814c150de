use Rattle.std.proofs.Common.{ℕ, ◌<◌, ◌≤◌}
use Rattle.std.specs.Option.{IsSome}
use Rattle.slot_ring.specs.Ring.{value_with}
use Rattle.slot_ring.proofs.ring.SlotRing.next_free.Given as goal

abbrev pub invariant-loop-number : goal.invariant-loop-number
invariant-loop-number g l =
    (n : ℕ) → l.from ≤ n → n < l.number → IsSome (value_with l.self.held n)

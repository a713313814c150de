use Rattle.std.proofs.Common.{◌≡◌, ℕ, ◌+◌, ◌-◌, get_or, length}
use Rattle.session_audit.specs.Marks.{mark_of, no_mark}
use Rattle.session_audit.proofs.marks.Marks.reach.Given as goal

abbrev pub invariant-loop-self : goal.invariant-loop-self
invariant-loop-self l =
    (l.self-inside.opened ≡ l.fn.self.opened)
    × ((k : ℕ) → get_or l.self-inside.marks.items k no_mark ≡ mark_of l.fn.self k)

abbrev pub decreases-loop-self : goal.decreases-loop-self
decreases-loop-self l = l.seq + 1 - length l.self-inside.marks.items

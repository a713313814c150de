use Rattle.std.proofs.Common.{vec_len}
use Rattle.relay_switch.specs.Lines.{WaitsSame}
use Rattle.relay_switch.proofs.lines.settle.Given as goal

-- the same waits as at first
abbrev pub invariant-loop-alloc : goal.invariant-loop-alloc
invariant-loop-alloc l =
    WaitsSame l.initial.lines.entries l.initial.added.items l.lines.entries l.added.items

abbrev pub decreases-loop-alloc : goal.decreases-loop-alloc
decreases-loop-alloc l = vec_len l.added

use Rattle.std.proofs.Common.{◌-◌, length}
use Rattle.session_audit.proofs.SaidLemmas.{IsPassed}
use Rattle.session_audit.proofs.seat.next_of.Given as goal

abbrev pub invariant-loop-at : goal.invariant-loop-at
invariant-loop-at l = IsPassed l.side l.sayings l.from l.at

abbrev pub decreases-loop-at : goal.decreases-loop-at
decreases-loop-at l = length l.sayings - l.at

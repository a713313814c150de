use Rattle.std.proofs.Common.{◌-◌, ◌≤◌, length}
use Rattle.session_audit.specs.Readings.{IsReadTo}
use Rattle.session_audit.proofs.reading.read_journal.Given as goal

abbrev pub invariant-loop-at : goal.invariant-loop-at
invariant-loop-at l = (l.at ≤ length l.bytes) × IsReadTo l.bytes l.at l.sayings.items

abbrev pub decreases-loop-at : goal.decreases-loop-at
decreases-loop-at l = length l.bytes - l.at

-- What is told of a journal of what two ends with a window did.
use Rattle.std.specs.Prelude.{ℕ, Option, List}
use Rattle.chan_io.specs.Sinks.{Output, Writes, WritesPart}
use Rattle.session_audit.specs.declared.verdict.Audit.TheVariants as Audit
use Rattle.session_audit.specs.declared.verdict.Totals.{Totals}
use Rattle.session_audit.specs.Verdict.{IsVerdict}
use Rattle.lab_audit.specs.declared.fault.JournalFault.{JournalFault}
use Rattle.lab_audit.specs.Lines.{verdict_line}

-- it is accepted, and the line of its totals was written
abbrev pub TellsTotals : ℕ → List ℕ → Option Output → Option Output → Type 0
TellsTotals window journal before after =
    (totals : Totals)
    × IsVerdict window journal (Audit.Yes totals)
    × Writes (verdict_line totals) before after

-- it is accepted, and a prefix of the line was written
abbrev pub TellsPart : ℕ → List ℕ → Option Output → Option Output → Type 0
TellsPart window journal before after =
    (totals : Totals)
    × IsVerdict window journal (Audit.Yes totals)
    × WritesPart (verdict_line totals) before after

-- it is refused for this fault
abbrev pub IsRefused : ℕ → List ℕ → JournalFault → Type 0
IsRefused window journal fault = IsVerdict window journal (Audit.Bad fault.at fault.why)

-- What holds of the journal of every script.
use Rattle.std.specs.Prelude.{◌≡◌, ℕ, ◌≤◌, List}
use Rattle.std.specs.List.{All, AllZip}
use Rattle.session_audit.specs.declared.verdict.Audit.{Audit}
use Rattle.session_audit.specs.declared.verdict.Totals.{Totals}
use Rattle.session_audit.specs.Journal.{IsFormed, IsRecordOf}
use Rattle.session_audit.specs.Moves.{moves_of}
use Rattle.session_audit.specs.Verdict.{IsExplained, IsVerdict}
use Rattle.lab_script.specs.declared.command.Command.{Command}
use Rattle.lab_script.specs.Command.{IsCommand}
use Rattle.lab_run.specs.Run.{run}
use Rattle.lab_run.specs.Steps.{world_of}
use Rattle.lab_journal.specs.Records.{journal_of, records_of}

-- the records of a script say what is seen of its world, one after another
abbrev pub RecordsSayWorld : Type 0
RecordsSayWorld =
    (w : ℕ) (commands : List Command)
    → All IsCommand commands
    → AllZip (λ m r. IsRecordOf m.side m.act r) (moves_of (world_of (run w commands)))
    (records_of w commands)

-- none of them has a fault of form
abbrev pub RecordsAreFormed : Type 0
RecordsAreFormed =
    (w : ℕ) (commands : List Command)
    → All IsCommand commands
    → All IsFormed (records_of w commands)

-- a legal and honest world, in which no call wanted for memory, has them: that of the script
abbrev pub RecordsAreExplained : Type 0
RecordsAreExplained =
    (w : ℕ) (commands : List Command)
    → All IsCommand commands
    → (found : IsExplained w (records_of w commands)) × (found.0 ≡ world_of (run w commands))

-- so the verdict on the journal of a script, with the window of its ends, is Yes
abbrev pub JournalIsAccepted : Type 0
JournalIsAccepted =
    (w : ℕ) (commands : List Command) (answer : Audit)
    → 1 ≤ w
    → All IsCommand commands
    → IsVerdict w (journal_of w commands) answer
    → (totals : Totals) × (answer ≡ Audit.Yes totals)

-- all laws of journals together
pub record JournalLaws : Type 0 where
  pub said : RecordsSayWorld
  pub formed : RecordsAreFormed
  pub explained : RecordsAreExplained
  pub accepted : JournalIsAccepted

-- What the status of a journal that was judged means.
use Rattle.std.proofs.Common.{◌≡◌, ◌≢◌, ℕ, inl, Option, List, refl}
use Rattle.chan_io.specs.Faults.{Rises}
use Rattle.chan_io.specs.Sinks.{Output}
use Rattle.lab_audit.specs.declared.fault.JournalFault.{JournalFault}
use Rattle.lab_audit.specs.declared.stop.AuditStop.{AuditStop}
use Rattle.lab_audit.specs.Lines.{verdict_line}
use Rattle.lab_audit.specs.Verdicts.{IsRefused, TellsPart, TellsTotals}
use Rattle.lab_cmd.specs.declared.status.Status.{Status}
use Rattle.lab_cmd.specs.declared.words.Mode.{Mode}
use Rattle.lab_cmd.specs.declared.words.Task.{Task}
use Rattle.lab_cmd.specs.Meanings.{MeansRead}
use Rattle.lab_cmd.specs.Statuses.{status_of_audit}

-- of a journal that is accepted
pub MeansRead-accepted : (window : ℕ) (input : List ℕ) (unwritten : Type 0)
    (output : Option Output) (failed : ℕ) (output_then : Option Output) (failed_then : ℕ)
    → TellsTotals window input output output_then
    → MeansRead (Mode.Windowed Task.Audit window) input Status.Ok unwritten output failed output_then
    failed_then
MeansRead-accepted window input unwritten output failed output_then failed_then tells
    before after reads read =
    record {
      input = input;
      reads = read;
      text = verdict_line tells.0;
      outputs = (tells.0, tells.1, refl);
      written = tells.2;
    }

-- of one that got no line
pub MeansRead-judged : (window : ℕ) (input : List ℕ) (stop : AuditStop) (unwritten : Type 0)
    (output : Option Output) (failed : ℕ) (output_then : Option Output) (failed_then : ℕ)
    → ((fault : JournalFault) → stop ≡ AuditStop.Fault fault → IsRefused window input fault)
    → (stop ≡ AuditStop.Write → Rises failed failed_then × TellsPart window input output output_then)
    → (stop ≢ AuditStop.Write → unwritten)
    → (stop ≢ AuditStop.Write → failed_then ≡ failed)
    → MeansRead (Mode.Windowed Task.Audit window) input (status_of_audit stop) unwritten output
    failed output_then failed_then
MeansRead-judged window input (AuditStop.Fault fault) unwritten output failed output_then failed_then
    refused write same steady before after reads read =
    (same (λ is. cc is), (input, read, (refused fault refl, refl)))
MeansRead-judged window input AuditStop.Write unwritten output failed output_then failed_then
    refused write same steady before after reads read =
    let part = (write refl).1 in (
      record {
        input = input;
        reads = read;
        status = Status.Ok;
        text = verdict_line part.0;
        outputs = (part.0, part.1, refl);
        written = part.2;
      },
      (write refl).0,
    )
MeansRead-judged window input AuditStop.NoMemory unwritten output failed output_then failed_then
    refused write same steady before after reads read =
    (inl (same (λ is. cc is)), refl, steady (λ is. cc is))

-- What a status means.
use Rattle.std.proofs.Common.{◌≡◌, ◌≢◌, ℕ, inl, inr, Option, Some, None, List, [], refl, sym, subst, ◌∙◌, append-nil}
use Rattle.agent_message.specs.Captures.{IsCapture}
use Rattle.agent_message.specs.declared.capture_fault.CaptureFault.{CaptureFault}
use Rattle.agent_message.specs.declared.message.Message.{Message}
use Rattle.chan_io.specs.Faults.{Rises}
use Rattle.chan_io.specs.Sinks.{Output, Writes, WritesPart}
use Rattle.lab_run.specs.Printing.{IsPrinted}
use Rattle.lab_run.specs.declared.stop.Stop.{Stop}
use Rattle.lab_show.specs.Lines.{show_lines}
use Rattle.lab_show.specs.Listings.{Shows, ShowsPart}
use Rattle.lab_show.specs.declared.stop.ShowStop.{ShowStop}
use Rattle.lab_cmd.specs.declared.input.InputFault.{InputFault}
use Rattle.lab_cmd.specs.declared.script.ScriptFault.{ScriptFault}
use Rattle.lab_cmd.specs.declared.status.Status.{Status}
use Rattle.lab_cmd.specs.declared.words.Mode.{Mode}
use Rattle.lab_cmd.specs.Inputs.{IsLonger, max_input}
use Rattle.lab_cmd.specs.Meanings.{HasBadLine, IsUnread, MeansInput, MeansMade, MeansRead, Outputs, Outside, ReadsInput, WritesFront}
use Rattle.lab_cmd.specs.Statuses.{status_of_input, status_of_script, status_of_show, status_of_stop}

-- ---- the status of a fault means what it says

-- of an input that could not be had
pub Means-input : (mode : Mode) (fault : InputFault) (unwritten : Type 0) (old new : Outside)
    → unwritten
    → (fault ≡ InputFault.Read → Rises old.reads_failed new.reads_failed)
    → (fault ≡ InputFault.TooLong → IsLonger max_input old.input)
    → (fault ≢ InputFault.Read → new.reads_failed ≡ old.reads_failed)
    → new.writes_failed ≡ old.writes_failed
    → MeansInput mode (status_of_input fault) unwritten old new
Means-input mode InputFault.Read unwritten old new same failed long steady writes =
    (same, failed refl)
Means-input mode InputFault.TooLong unwritten old new same failed long steady writes =
    (same, long refl)
Means-input mode InputFault.NoMemory unwritten old new same failed long steady writes =
    (inl same, steady (λ is. cc), writes)

-- what was done with an input that was read means what it says
pub Means-read : (mode : Mode) (input : List ℕ) (status : Status) (unwritten : Type 0)
    (old new : Outside)
    → ReadsInput input old.input new.input
    → new.reads_failed ≡ old.reads_failed
    → MeansRead mode input status unwritten old.output old.writes_failed new.output
    new.writes_failed
    → MeansInput mode status unwritten old new
Means-read mode input status unwritten old new read same means =
    subst (λ n. MeansInput mode status unwritten old (record new { reads_failed = n })) (sym same)
    (means old.input new.input old.reads_failed read)

-- of an input that is no script
pub MeansRead-script : (mode : Mode) (input : List ℕ) (fault : ScriptFault) (unwritten : Type 0)
    (output : Option Output) (failed : ℕ)
    → unwritten
    → ((n : ℕ) → fault ≡ ScriptFault.Line n → HasBadLine mode n input)
    → MeansRead mode input (status_of_script fault) unwritten output failed output failed
MeansRead-script mode input (ScriptFault.Line n) unwritten output failed same bad
    before after reads read =
    (same, (input, read, bad n refl))
MeansRead-script mode input ScriptFault.NoMemory unwritten output failed same bad
    before after reads read =
    (inl same, refl, refl)

-- of a run that stopped
pub MeansRead-stop : (mode : Mode) (input text : List ℕ) (stop : Stop) (unwritten : Type 0)
    (output : Option Output) (failed : ℕ) (output_then : Option Output) (failed_then : ℕ)
    → Outputs mode input Status.Ok text
    → WritesPart text output output_then
    → (stop ≡ Stop.Write → Rises failed failed_then)
    → (stop ≡ Stop.NoMemory → failed_then ≡ failed)
    → MeansRead mode input (status_of_stop stop) unwritten output failed output_then failed_then
MeansRead-stop mode input text Stop.Write unwritten output failed output_then failed_then
    outputs part rose steady before after reads read = (
      record {
        input = input;
        reads = read;
        status = Status.Ok;
        text = text;
        outputs = outputs;
        written = part;
      },
      rose refl,
    )
MeansRead-stop mode input text Stop.NoMemory unwritten output failed output_then failed_then
    outputs part rose steady before after reads read = (
      inr (record {
        input = input;
        reads = read;
        status = Status.Ok;
        text = text;
        outputs = outputs;
        written = part;
      }),
      refl,
      steady refl,
    )

-- of a run that came to its end
pub MeansRead-ok : (mode : Mode) (input text : List ℕ) (unwritten : Type 0)
    (output : Option Output) (failed : ℕ) (output_then : Option Output) (failed_then : ℕ)
    → Outputs mode input Status.Ok text
    → IsPrinted text [] output output_then
    → MeansRead mode input Status.Ok unwritten output failed output_then failed_then
MeansRead-ok mode input text unwritten output failed output_then failed_then outputs printed
    before after reads read =
    let P : List ℕ → Type 0 = λ t. Writes t output output_then in
    record {
      input = input;
      reads = read;
      text = text;
      outputs = outputs;
      written = subst P (sym (append-nil printed.0) ∙ printed.1) printed.2;
    }

-- of a listing that came to its end
pub MeansRead-shown : (input : List ℕ) (unwritten : Type 0)
    (output : Option Output) (failed : ℕ) (output_then : Option Output) (failed_then : ℕ)
    → Shows input None output output_then
    → MeansRead Mode.Show input Status.Ok unwritten output failed output_then failed_then
MeansRead-shown input unwritten output failed output_then failed_then shown
    before after reads read =
    record {
      input = input;
      reads = read;
      text = show_lines 0 shown.0;
      outputs = (shown.0, shown.1, refl);
      written = shown.2;
    }

-- a prefix of the lines of a capture was written
front_shown : (input : List ℕ) (messages : List Message) (fault : Option CaptureFault)
    (old new : Outside)
    → ReadsInput input old.input new.input
    → IsCapture input messages fault
    → WritesPart (show_lines 0 messages) old.output new.output
    → WritesFront Mode.Show old new
front_shown input messages None old new read is part =
    record {
      input = input;
      reads = read;
      status = Status.Ok;
      text = show_lines 0 messages;
      outputs = (messages, is, refl);
      written = part;
    }
front_shown input messages (Some fault) old new read is part =
    record {
      input = input;
      reads = read;
      status = Status.BadCapture fault;
      text = show_lines 0 messages;
      outputs = (messages, is, refl);
      written = part;
    }

-- of a listing that stopped
pub MeansRead-unshown : (input : List ℕ) (stop : ShowStop) (unwritten : Type 0)
    (output : Option Output) (failed : ℕ) (output_then : Option Output) (failed_then : ℕ)
    → ((fault : CaptureFault) → stop ≡ ShowStop.Fault fault
    → Shows input (Some fault) output output_then)
    → (stop ≡ ShowStop.Write → Rises failed failed_then × ShowsPart input output output_then)
    → (stop ≡ ShowStop.NoMemory → ShowsPart input output output_then)
    → (stop ≢ ShowStop.Write → failed_then ≡ failed)
    → MeansRead Mode.Show input (status_of_show stop) unwritten output failed output_then
    failed_then
MeansRead-unshown input (ShowStop.Fault fault) unwritten output failed output_then failed_then
    faulty write memory steady before after reads read =
    let shown = faulty fault refl in (
      record {
        input = input;
        reads = read;
        text = show_lines 0 shown.0;
        outputs = (shown.0, shown.1, refl);
        written = shown.2;
      },
      steady (λ is. cc),
    )
MeansRead-unshown input ShowStop.Write unwritten output failed output_then failed_then
    faulty write memory steady before after reads read =
    let part = (write refl).1 in
    (front_shown input part.0 part.1 _ _ read part.2 part.3, (write refl).0)
MeansRead-unshown input ShowStop.NoMemory unwritten output failed output_then failed_then
    faulty write memory steady before after reads read =
    let part = memory refl in
    (inr (front_shown input part.0 part.1 _ _ read part.2 part.3), refl, steady (λ is. cc))

-- of a run that made its own script and came to its end
pub MeansMade-ok : (line : List ℕ) (old new : Outside)
    → IsUnread old new
    → IsPrinted line [] old.output new.output
    → MeansMade line Status.Ok old new
MeansMade-ok line old new unread printed =
    let P : List ℕ → Type 0 = λ t. Writes t old.output new.output in
    (unread, subst P (sym (append-nil printed.0) ∙ printed.1) printed.2)

-- and of one that stopped
pub MeansMade-stop : (line : List ℕ) (stop : Stop) (old new : Outside)
    → IsUnread old new
    → WritesPart line old.output new.output
    → (stop ≡ Stop.Write → Rises old.writes_failed new.writes_failed)
    → (stop ≡ Stop.NoMemory → new.writes_failed ≡ old.writes_failed)
    → MeansMade line (status_of_stop stop) old new
MeansMade-stop line Stop.Write old new unread part rose steady = (unread, part, rose refl)
MeansMade-stop line Stop.NoMemory old new unread part rose steady = (unread, part, steady refl)

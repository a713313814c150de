-- What a status says of what was read and of what was written, in the mode that the words ask for.
use Rattle.std.specs.Prelude.{◌≡◌, ℕ, ◌<◌, ◌≤◌, ◌⊎◌, Option, Some, None, List, [], length, ⊤}
use Rattle.agent_message.specs.Captures.{IsCapture}
use Rattle.agent_message.specs.declared.message.Message.{Message}
use Rattle.chan_io.specs.Faults.{Rises}
use Rattle.chan_io.specs.Sinks.{Output, Writes, WritesPart}
use Rattle.chan_io.specs.Sources.{Input}
use Rattle.lab_audit.specs.declared.fault.JournalFault.{JournalFault}
use Rattle.lab_audit.specs.Lines.{verdict_line}
use Rattle.lab_audit.specs.Verdicts.{IsRefused}
use Rattle.lab_gen.specs.Counts.{counts_line, counts_of}
use Rattle.lab_gen.specs.Generator.{generated}
use Rattle.lab_journal.specs.Records.{journal_of}
use Rattle.lab_relay.specs.Run.{report as relay_report, run as relay_run}
use Rattle.lab_run.specs.Run.{report, run}
use Rattle.lab_run.specs.Steps.{world_of}
use Rattle.lab_script.specs.Command.{IsCommand, IsScriptLine, spelling}
use Rattle.lab_script.specs.declared.command.Command.{Command}
use Rattle.lab_script.specs.declared.relay_command.RelayCommand.{RelayCommand}
use Rattle.lab_script.specs.declared.stream_command.StreamCommand.{StreamCommand}
use Rattle.lab_script.specs.Lines.{lines_of}
use Rattle.lab_script.specs.RelayCommand.{IsRelayCommand, IsRelayLine, relay_spelling}
use Rattle.lab_script.specs.StreamCommand.{IsStreamCommand, IsStreamLine, stream_spelling}
use Rattle.lab_show.specs.Lines.{show_lines}
use Rattle.lab_streams.specs.Run.{stream_report, stream_run}
use Rattle.session_audit.specs.declared.verdict.Audit.TheVariants as Audit
use Rattle.session_audit.specs.declared.verdict.Totals.{Totals}
use Rattle.session_audit.specs.Verdict.{IsVerdict}
use Rattle.lab_cmd.specs.declared.status.Status.{Status}
use Rattle.lab_cmd.specs.declared.words.Mode.{Mode}
use Rattle.lab_cmd.specs.declared.words.Task.{Task}
use Rattle.lab_cmd.specs.Inputs.{IsLonger, ReadToEnd, max_input}
use Rattle.lab_cmd.specs.Script.{IsFirstBad, IsScript}
use Rattle.lab_cmd.specs.Words.{IsWords, IsWordsFault}

-- what a source and a sink tell: their bytes, where they tell them, and how many of their calls failed
pub record Outside : Type 0 where
  pub input : Option Input
  pub reads_failed : ℕ
  pub output : Option Output
  pub writes_failed : ℕ

-- the same, by what their traits tell of a source and a sink
abbrev pub outside : {S K : Type 0}
    → (S → Option Input) → (S → ℕ) → (K → Option Output) → (K → ℕ) → S → K → Outside
outside input read_faults output write_faults source sink =
    record {
      input = input source;
      reads_failed = read_faults source;
      output = output sink;
      writes_failed = write_faults sink;
    }

-- the same, of a source that tells this and a sink that tells that
abbrev pub beside : Option Input → ℕ → Option Output → ℕ → Outside
beside input reads output writes =
    record { input = input; reads_failed = reads; output = output; writes_failed = writes }

-- what a task writes of an input at its end: the report of a script, its journal, or the line of a
-- journal that is accepted
abbrev pub Reports : Task → ℕ → List ℕ → List ℕ → Type 0
Reports Task.Plain window input text =
    (commands : List Command)
    × IsScript spelling IsCommand commands input
    × (text ≡ report (run window commands))
Reports Task.Streams window input text =
    (commands : List StreamCommand)
    × IsScript stream_spelling IsStreamCommand commands input
    × (text ≡ stream_report (stream_run window commands))
Reports Task.Relay window input text =
    (commands : List RelayCommand)
    × IsScript relay_spelling IsRelayCommand commands input
    × (text ≡ relay_report (relay_run window commands))
Reports Task.Journal window input text =
    (commands : List Command)
    × IsScript spelling IsCommand commands input
    × (text ≡ journal_of window commands)
Reports Task.Audit window input text =
    (totals : Totals)
    × IsVerdict window input (Audit.Yes totals)
    × (text ≡ verdict_line totals)

-- a line of the grammar of this task; a journal has none, so that nothing is out of it
abbrev pub IsLine : Task → List ℕ → Type 0
IsLine Task.Plain line = IsScriptLine line
IsLine Task.Streams line = IsStreamLine line
IsLine Task.Relay line = IsRelayLine line
IsLine Task.Journal line = IsScriptLine line
IsLine Task.Audit line = ⊤

-- what a mode writes of an input, and the status that comes then: what its task writes, nothing of a
-- journal that is refused, or the lines of a capture up to its end or its fault
abbrev pub Outputs : Mode → List ℕ → Status → List ℕ → Type 0
Outputs (Mode.Windowed task window) input Status.Ok text = Reports task window input text
Outputs Mode.Show input Status.Ok text =
    (messages : List Message) × IsCapture input messages None × (text ≡ show_lines 0 messages)
Outputs Mode.Show input (Status.BadCapture fault) text =
    (messages : List Message)
    × IsCapture input messages (Some fault) × (text ≡ show_lines 0 messages)
Outputs (Mode.Windowed Task.Audit window) input (Status.BadJournal fault) text =
    IsRefused window input fault × (text ≡ [])
Outputs mode input status text = ⊥

-- line n of an input is the first that is out of the grammar; only a script has lines
abbrev pub HasBadLine : Mode → ℕ → List ℕ → Type 0
HasBadLine (Mode.Windowed task window) n input = IsFirstBad (IsLine task) n (lines_of input)
HasBadLine Mode.Show n input = ⊥
HasBadLine (Mode.Gen rounds start) n input = ⊥

-- the source was read to its end, and this is all that was left of it
pub record ReadsInput (input : List ℕ) (before after : Option Input) : Type 0 where
  pub read : ReadToEnd input before after
  pub short : length input ≤ max_input

-- the source was read to its end, and line n is the first that is out of the grammar
abbrev pub ReadsBadLine : Mode → ℕ → Option Input → Option Input → Type 0
ReadsBadLine mode n before after =
    (input : List ℕ) × ReadsInput input before after × HasBadLine mode n input

-- the source was read to its end, and the input is a journal that is refused for this fault
abbrev pub ReadsRefused : Mode → JournalFault → Option Input → Option Input → Type 0
ReadsRefused mode fault before after =
    (input : List ℕ)
    × ReadsInput input before after
    × Outputs mode input (Status.BadJournal fault) []

-- the source was read to its end; the input calls for this status, and its whole output was written
pub record WritesAll (mode : Mode) (status : Status) (old new : Outside) : Type 0 where
  pub input : List ℕ
  pub reads : ReadsInput input old.input new.input
  pub text : List ℕ
  pub outputs : Outputs mode input status text
  pub written : Writes text old.output new.output

-- the source was read to its end, and a prefix of the input's output was written
pub record WritesFront (mode : Mode) (old new : Outside) : Type 0 where
  pub input : List ℕ
  pub reads : ReadsInput input old.input new.input
  pub status : Status
  pub text : List ℕ
  pub outputs : Outputs mode input status text
  pub written : WritesPart text old.output new.output

-- what a status says of an input in a mode that reads one. `unwritten` says that the sink is what it
-- was.
abbrev pub MeansInput : Mode → Status → Type 0 → Outside → Outside → Type 0
MeansInput mode Status.Ok unwritten old new = WritesAll mode Status.Ok old new
MeansInput mode (Status.BadCapture fault) unwritten old new =
    WritesAll mode (Status.BadCapture fault) old new × (new.writes_failed ≡ old.writes_failed)
MeansInput mode Status.NoMemory unwritten old new =
    (unwritten ⊎ WritesFront mode old new)
    × (new.reads_failed ≡ old.reads_failed)
    × (new.writes_failed ≡ old.writes_failed)
MeansInput mode (Status.BadJournal fault) unwritten old new =
    unwritten × ReadsRefused mode fault old.input new.input
MeansInput mode (Status.Usage k) unwritten old new = ⊥
MeansInput mode (Status.Script n) unwritten old new =
    unwritten × ReadsBadLine mode n old.input new.input
MeansInput mode Status.ReadFault unwritten old new =
    unwritten × Rises old.reads_failed new.reads_failed
MeansInput mode Status.WriteFault unwritten old new =
    WritesFront mode old new × Rises old.writes_failed new.writes_failed
MeansInput mode Status.TooLong unwritten old new = unwritten × IsLonger max_input old.input

-- the line of the run of a script that made itself
abbrev pub made_line : ℕ → ℕ → List ℕ
made_line rounds start = counts_line rounds (counts_of (world_of (run 10000 (generated rounds start))))

-- nothing was read
abbrev pub IsUnread : Outside → Outside → Type 0
IsUnread old new = (new.input ≡ old.input) × (new.reads_failed ≡ old.reads_failed)

-- what a status says of a run that writes this line and reads nothing
abbrev pub MeansMade : List ℕ → Status → Outside → Outside → Type 0
MeansMade line Status.Ok old new = IsUnread old new × Writes line old.output new.output
MeansMade line Status.NoMemory old new =
    IsUnread old new
    × WritesPart line old.output new.output
    × (new.writes_failed ≡ old.writes_failed)
MeansMade line Status.WriteFault old new =
    IsUnread old new
    × WritesPart line old.output new.output
    × Rises old.writes_failed new.writes_failed
MeansMade line status old new = ⊥

-- what a status says in a mode
abbrev pub Means : Mode → Status → Type 0 → Outside → Outside → Type 0
Means (Mode.Gen rounds start) status unwritten old new =
    MeansMade (made_line rounds start) status old new
Means mode status unwritten old new = MeansInput mode status unwritten old new

-- what a status says of what was done with an input, where this was read to the end of the source
abbrev pub MeansRead : Mode → List ℕ → Status → Type 0
    → Option Output → ℕ → Option Output → ℕ → Type 0
MeansRead mode input status unwritten output failed output_then failed_then =
    (before after : Option Input) (reads : ℕ)
    → ReadsInput input before after
    → MeansInput mode status unwritten
    (record {
      input = before;
      reads_failed = reads;
      output = output;
      writes_failed = failed;
    })
    (record {
      input = after;
      reads_failed = reads;
      output = output_then;
      writes_failed = failed_then;
    })

-- the status that an input calls for in a mode that reads one, where no call of the outside fails
abbrev pub IsDueInput : Mode → List ℕ → Status → Type 0
IsDueInput mode left Status.TooLong = max_input < length left
IsDueInput mode left (Status.Script n) = (length left ≤ max_input) × HasBadLine mode n left
IsDueInput mode left status =
    (length left ≤ max_input) × ((text : List ℕ) × Outputs mode left status text)

-- the status that the bytes that are left call for in a mode; a script that makes itself reads none
abbrev pub IsDueIn : Mode → List ℕ → Status → Type 0
IsDueIn (Mode.Gen rounds start) left status = status ≡ Status.Ok
IsDueIn mode left status = IsDueInput mode left status

-- the status that the words and the bytes that are left call for
abbrev pub IsDue : List (List ℕ) → List ℕ → Status → Type 0
IsDue words left (Status.Usage k) = IsWordsFault words k
IsDue words left status = (mode : Mode) × IsWords mode words × IsDueIn mode left status

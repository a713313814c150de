-- What a script does: the steps of its lines, one after another, and their report.
use Rattle.std.specs.Prelude.{ℕ, ◌+◌, List, [], ◌++◌}
use Rattle.std.specs.List.{flat_map, fold}
use Rattle.lab_script.specs.declared.stream_command.StreamCommand.{StreamCommand}
use Rattle.lab_script.specs.Report.{report_line}
use Rattle.lab_run.specs.Run.{moment_after}
use Rattle.lab_run.specs.Steps.{start}
use Rattle.smux_acts.specs.declared.event.Event.{Event}
use Rattle.chan_values.specs.declared.side.Side.{Side}
use Rattle.lab_streams.specs.Steps.{Past, StreamStep, Told, after, stream_steps, told_of_event}

-- before the first line both ends were connected, and no Mux was called
abbrev pub beginning : Past
beginning = record { events = start; calls = [] }

-- what happened in these steps
abbrev pub past_of : List StreamStep → Past
past_of steps = after beginning steps

-- the moment after a line
abbrev pub stream_moment : ℕ → StreamCommand → ℕ
stream_moment now (StreamCommand.Plain command) = moment_after now command
stream_moment now command = now

-- how far a run has come
pub record StreamProgress : Type 0 where
  pub steps : List StreamStep
  -- the moment in milliseconds
  pub now : ℕ
  -- the number of the next line
  pub line : ℕ

-- one line more
abbrev pub stream_progress_after : ℕ → StreamProgress → StreamCommand → StreamProgress
stream_progress_after w before command =
    record {
      steps =
          before.steps
          ++ stream_steps w (past_of before.steps) before.now before.line command;
      now = stream_moment before.now command;
      line = before.line + 1;
    }

-- how far a run has come after these lines, with ends of the window w
unfoldable pub stream_progress : ℕ → List StreamCommand → StreamProgress
stream_progress w commands =
    fold (stream_progress_after w) (record { steps = []; now = 0; line = 1 }) commands

-- the steps of a script
abbrev pub stream_run : ℕ → List StreamCommand → List StreamStep
stream_run w commands = (stream_progress w commands).steps

-- the text of a line of the report
abbrev pub told_text : ℕ → Told → List ℕ
told_text line told = report_line line told.verb told.side told.outcome

-- the lines of the events of a feed
unfoldable pub events_text : ℕ → Side → List Event → List ℕ
events_text line side events = flat_map (λ e. told_text line (told_of_event side e)) events

-- the report: the lines of each step
unfoldable pub stream_report : List StreamStep → List ℕ
stream_report steps = flat_map (λ s. flat_map (told_text s.line) s.told) steps

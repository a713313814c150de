-- What a script does: its lines, one after another, and their report.
use Rattle.std.specs.Prelude.{ℕ, ◌+◌, Option, Some, None, List, [], ◌∷◌, ◌++◌}
use Rattle.std.specs.List.{flat_map, fold}
use Rattle.chan_values.specs.declared.side.Side.{Side}
use Rattle.lab_script.specs.declared.outcome.Outcome.{Outcome}
use Rattle.lab_script.specs.declared.relay_command.RelayCommand.{RelayCommand}
use Rattle.lab_script.specs.declared.verb.Verb.{Verb}
use Rattle.lab_script.specs.RelayCommand.{relay_verb_of}
use Rattle.lab_script.specs.Report.{report_line}
use Rattle.lab_relay.specs.Scene.{Scene, start}
use Rattle.lab_relay.specs.Steps.{finished, turn_of}

-- a line of the report
pub record Told : Type 0 where
  -- the number of the script's line, from 1
  pub line : ℕ
  pub verb : Verb
  -- the end that the line names, if it names one
  pub side : Option Side
  pub outcome : Outcome

-- what is told of a line, with its number, at this moment. A line that sets the moment tells nothing
abbrev pub told_of : ℕ → Scene → ℕ → ℕ → RelayCommand → List Told
told_of w s now line (RelayCommand.At moment) = []
told_of w s now line RelayCommand.Finish =
    record {
      line = line;
      verb = Verb.Finish;
      side = None;
      outcome = (finished s now line).outcome;
    }
    ∷ []
told_of w s now line (RelayCommand.On side action) =
    record {
      line = line;
      verb = relay_verb_of action;
      side = Some side;
      outcome = (turn_of w s now line side action).outcome;
    }
    ∷ []

-- what has happened after a line
abbrev pub scene_after : ℕ → Scene → ℕ → ℕ → RelayCommand → Scene
scene_after w s now line (RelayCommand.At moment) = s
scene_after w s now line RelayCommand.Finish = (finished s now line).scene
scene_after w s now line (RelayCommand.On side action) =
    (turn_of w s now line side action).scene

-- the moment after a line
abbrev pub moment_after : ℕ → RelayCommand → ℕ
moment_after now (RelayCommand.At moment) = moment
moment_after now command = now

-- how far a run has come
pub record Progress : Type 0 where
  pub told : List Told
  pub scene : Scene
  -- the moment in milliseconds
  pub now : ℕ
  -- the number of the next line
  pub line : ℕ

-- one line more
abbrev pub progress_after : ℕ → Progress → RelayCommand → Progress
progress_after w before command =
    record {
      told = before.told ++ told_of w before.scene before.now before.line command;
      scene = scene_after w before.scene before.now before.line command;
      now = moment_after before.now command;
      line = before.line + 1;
    }

-- before the first line
abbrev pub beginning : Progress
beginning = record { told = []; scene = start; now = 0; line = 1 }

-- how far a run has come after these lines, with ends of the window w
unfoldable pub progress : ℕ → List RelayCommand → Progress
progress w commands = fold (progress_after w) beginning commands

-- what is told of a script
abbrev pub run : ℕ → List RelayCommand → List Told
run w commands = (progress w commands).told

-- the report: one line for each
unfoldable pub report : List Told → List ℕ
report told = flat_map (λ s. report_line s.line s.verb s.side s.outcome) told

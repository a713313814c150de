-- What a script does: the steps of its lines, one after another, and their report.
use Rattle.std.specs.Prelude.{ℕ, ◌+◌, Some, List, [], ◌++◌}
use Rattle.std.specs.List.{flat_map, fold}
use Rattle.lab_script.specs.declared.command.Command.{Command}
use Rattle.lab_script.specs.Report.{report_line}
use Rattle.lab_run.specs.Steps.{Step, steps_of, world_of}

-- the moment after a line
abbrev pub moment_after : ℕ → Command → ℕ
moment_after now (Command.At moment) = moment
moment_after now command = now

-- how far a run has come
pub record Progress : Type 0 where
  pub steps : List Step
  -- the moment in milliseconds
  pub now : ℕ
  -- the number of the next line
  pub line : ℕ

-- one line more
abbrev pub progress_after : ℕ → Progress → Command → Progress
progress_after w before command =
    record {
      steps =
          before.steps
          ++ steps_of w (world_of before.steps) before.now before.line command;
      now = moment_after before.now command;
      line = before.line + 1;
    }

-- how far a run has come after these lines, with ends of the window w
unfoldable pub progress : ℕ → List Command → Progress
progress w commands = fold (progress_after w) (record { steps = []; now = 0; line = 1 }) commands

-- the steps of a script
abbrev pub run : ℕ → List Command → List Step
run w commands = (progress w commands).steps

-- the report: one line for each step
unfoldable pub report : List Step → List ℕ
report steps = flat_map (λ s. report_line s.line s.verb (Some s.side) s.outcome) steps

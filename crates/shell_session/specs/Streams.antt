-- The three streams of a user.
use Rattle.std.specs.Prelude.{ℕ, Option, None}
use Rattle.chan_io.specs.Sources.{Input}
use Rattle.chan_io.specs.Sinks.{Output}

-- what they tell, and how many calls of the two outputs failed
pub record StreamsTold : Type 0 where
  pub input : Option Input
  pub output : Option Output
  pub output_faults : ℕ
  pub errors : Option Output
  pub errors_faults : ℕ

-- streams that tell nothing
abbrev pub nothing_told : StreamsTold
nothing_told =
    record { input = None; output = None; output_faults = 0; errors = None; errors_faults = 0 }

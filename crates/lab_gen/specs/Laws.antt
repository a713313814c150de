-- What holds of every generated script.
use Rattle.std.specs.Prelude.{◌≡◌, ◌≢◌, ℕ, ◌≤◌, List, All}
use Rattle.lab_run.specs.Run.{run}
use Rattle.lab_run.specs.Steps.{Step, world_of}
use Rattle.lab_script.specs.Command.{IsCommand}
use Rattle.lab_script.specs.declared.outcome.Outcome.{Outcome}
use Rattle.lab_gen.specs.Counts.{counts_of}
use Rattle.lab_gen.specs.Generator.{generated}

-- the lines of a generated script are commands of a script
abbrev pub GeneratedIsScript : Type 0
GeneratedIsScript = (count start : ℕ) → count ≤ 1000000 → All IsCommand (generated count start)

-- no step reports that its end gave up
abbrev pub NeverGaveUp : List Step → Type 0
NeverGaveUp steps = All (λ s. (n : ℕ) → s.outcome ≢ Outcome.GaveUp n) steps

-- after a generated script in which neither end gave up, each end has released as many items as the
-- other end's user put in
abbrev pub GeneratedReleasesAll : Type 0
GeneratedReleasesAll =
    (count start : ℕ)
    → let steps = run 10000 (generated count start) in
    let counts = counts_of (world_of steps) in
    NeverGaveUp steps
    → (counts.released_by_agent ≡ counts.put_by_plugin)
    × (counts.released_by_plugin ≡ counts.put_by_agent)

-- all laws of generated scripts together
pub record GeneratedLaws : Type 0 where
  pub script : GeneratedIsScript
  pub released : GeneratedReleasesAll

-- Ends that keep the latest of their emissions alone. The private parts of a run cite this.
use Rattle.std.specs.Prelude.{◌≡◌, ℕ, Option, Some, List, [], ◌∷◌, ◌++◌, ⊤}
use Rattle.chan_values.specs.declared.side.Side.{Side}
use Rattle.chan_values.specs.declared.side.Side.TheVariants.{Plugin, Agent}
use Rattle.channel_core.specs.Call.{Entry}
use Rattle.channel_core.specs.World.{Event, IsHonest, IsLegalWorld, history_of}
use Rattle.lab_run.specs.Ends.{HasSent}
use Rattle.lab_run.specs.Outcomes.{encodings_in, is_emission}
use Rattle.lab_run.specs.Run.{Progress}
use Rattle.lab_run.specs.Steps.{Step, emission_at, events_of, world_of}
use Rattle.lab_script.specs.Command.{IsAction}
use Rattle.lab_script.specs.declared.command.Action.{Action}
use Rattle.lab_script.specs.declared.outcome.Outcome.{Outcome}
use Rattle.lab_script.specs.declared.word.Which.{Which}
use Rattle.lab_gen.specs.declared.ends.Ends.{Ends}
use Rattle.lab_gen.specs.declared.latest.Latest.{Latest}
use Rattle.lab_gen.specs.declared.run.Run.{Run}

-- what a line of a generated script asks of an end: it hears the latest emission alone
abbrev pub IsGenerated : Action → Type 0
IsGenerated (Action.Put item) = IsAction (Action.Put item)
IsGenerated Action.Pull = ⊤
IsGenerated Action.Tick = ⊤
IsGenerated (Action.Hear which) = which ≡ Which.Last
IsGenerated Action.Lost = ⊤
IsGenerated Action.Open = ⊤
IsGenerated action = ⊥

-- the latest emission after an outcome
abbrev pub latest_after : Option (List ℕ) → Outcome → Option (List ℕ)
latest_after latest (Outcome.Emit number encoding) = Some encoding
latest_after latest outcome = latest

-- the end did all that the history says, and the latest of what it sent is kept
pub record IsLatest (w : ℕ) (side : Side) (h : List Entry) (latest : Latest) : Type 0 where
  -- the encodings of all that it emitted
  pub sent : List (List ℕ)
  pub done : HasSent w side h latest.end sent
  pub kept : latest.emission ≡ emission_at sent Which.Last

-- An end made this step. It keeps what it sent before, and what is in the outcome comes behind
-- that. The outcome may have another number of an emission.
pub record MakesLatest
    (w : ℕ) (world : List Event) (s : Step) (latest : Latest) (outcome : Outcome) : Type 0 where
  pub told : is_emission outcome ≡ is_emission s.outcome
  pub sent : List (List ℕ)
  pub done :
      HasSent w s.side (history_of s.side (world ++ events_of (s ∷ [])))
      latest.end (sent ++ encodings_in outcome)
  pub kept : latest.emission ≡ emission_at sent Which.Last

-- both ends did all that happened in the world
pub record IsEnds (w : ℕ) (world : List Event) (ends : Ends) : Type 0 where
  pub legal : IsLegalWorld w world
  pub honest : IsHonest world
  pub plugin : IsLatest w Plugin (history_of Plugin world) ends.plugin
  pub agent : IsLatest w Agent (history_of Agent world) ends.agent

-- a run has come so far
pub record IsAt (w : ℕ) (progress : Progress) (run : Run) : Type 0 where
  pub ends : IsEnds w (world_of progress.steps) run.ends
  pub window : run.context.window ≡ w
  pub moment : run.context.moment ≡ progress.now
  pub line : run.context.line ≡ progress.line

-- The two ends of a replay that come to a halt.
use Rattle.std.specs.Prelude.{◌≡◌, ℕ, ◌+◌, ◌<◌, ◌≤◌, Bool, true, false, List}
use Rattle.chan_values.specs.declared.side.Side.TheVariants.{Plugin, Agent}
use Rattle.session_audit.specs.declared.reading.Saying.{Saying}
use Rattle.session_audit.specs.Moves.{IsRun, Move}
use Rattle.session_audit.specs.Playing.{AreDone, IsHeld, IsPlayed, SeatState}

-- both ends have done these moves, which are a run
pub record BothPlayed
    (w : ℕ) (sayings : List Saying) (moves : List Move) (plugin agent : SeatState) : Type 0 where
  pub run : IsRun w moves
  pub plugin_played : IsPlayed w Plugin sayings plugin
  pub agent_played : IsPlayed w Agent sayings agent
  pub plugin_done : AreDone Plugin sayings moves plugin
  pub agent_done : AreDone Agent sayings moves agent

-- no end can go on
abbrev pub BothHeld : ℕ → List Saying → List Move → SeatState → SeatState → Type 0
BothHeld w sayings moves plugin agent =
    IsHeld w Plugin sayings moves plugin.next × IsHeld w Agent sayings moves agent.next

-- the ends did more, and one of them an act more, or neither can go on
abbrev pub Turns :
    List Saying → SeatState → SeatState → SeatState → SeatState → Bool → Type 0
Turns sayings plugin agent new_plugin new_agent going =
    (w : ℕ) (moves : List Move)
    → BothPlayed w sayings moves plugin agent
    → (more : List Move)
    × BothPlayed w sayings more new_plugin new_agent
    × (going ≡ true → plugin.next + agent.next < new_plugin.next + new_agent.next)
    × (plugin.next + agent.next ≤ new_plugin.next + new_agent.next)
    × (going ≡ false → BothHeld w sayings more new_plugin new_agent)

-- both ends have done what they can
abbrev pub Halts : ℕ → List Saying → SeatState → SeatState → Type 0
Halts w sayings plugin agent =
    (moves : List Move)
    × BothPlayed w sayings moves plugin agent
    × BothHeld w sayings moves plugin agent

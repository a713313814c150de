-- Two ends: what can be seen of both, in one list, and the world that is replayed for it.
use Rattle.std.specs.Prelude.{ℕ, Option, Some, None, List, [], ◌++◌, map}
use Rattle.std.specs.List.{All, filter_map, fold}
use Rattle.std.specs.Option.{option_map}
use Rattle.chan_values.specs.declared.side.Side.{Side}
use Rattle.chan_values.specs.declared.side.Side.TheVariants.{Plugin, Agent}
use Rattle.chan_values.specs.Sides.{other}
use Rattle.channel_core.specs.declared.call.EndCall.{EndCall}
use Rattle.channel_core.specs.declared.message.Outgoing.{Outgoing}
use Rattle.channel_core.specs.Call.{Entry, with_earlier}
use Rattle.channel_core.specs.Legal.{IsNoMemory}
use Rattle.channel_core.specs.World.{Event, IsHonest, IsLegalWorld, WasEmitted, history_of}
use Rattle.session_audit.specs.declared.act.Act.{Act}
use Rattle.session_audit.specs.Acts.{act_of, outs_of}
use Rattle.session_audit.specs.Replay.{CanReplay, replay_of}

-- one thing that can be seen, and the end at which it is
pub record Move : Type 0 where
  pub side : Side
  pub act : Act

-- the act, if it is at this end
abbrev pub act_at : Side → Side → Act → Option Act
act_at Plugin Plugin act = Some act
act_at Agent Agent act = Some act
act_at Plugin Agent act = None
act_at Agent Plugin act = None

-- what can be seen at one end
unfoldable pub acts_at : Side → List Move → List Act
acts_at side moves = filter_map (λ m. act_at side m.side m.act) moves

-- a move with this act
abbrev pub move_of : Side → Act → Move
move_of side act = record { side = side; act = act }

-- what can be seen of a world
unfoldable pub moves_of : List Event → List Move
moves_of world =
    filter_map (λ x. option_map (move_of x.side) (act_of x.entry.answer x.entry.call)) world

-- what an end hears was given out by the other before; what the relay sends may always come
abbrev pub IsHeardOf : List Outgoing → Act → Type 0
IsHeardOf outs (Act.Hears incoming) = WasEmitted outs (EndCall.Heard 0 incoming)
IsHeardOf outs act = Unit {0}

-- after these moves an end can do this one
pub record CanMove (w : ℕ) (moves : List Move) (m : Move) : Type 0 where
  pub replays : CanReplay w (acts_at m.side moves) m.act
  pub heard : IsHeardOf (outs_of (acts_at (other m.side) moves)) m.act

-- each move can be done after those before it
unfoldable pub IsRun : ℕ → List Move → Type 0
IsRun w moves = All (λ p. CanMove w p.0 p.1) (with_earlier moves)

-- an entry at this end
abbrev pub event_at : Side → Entry → Event
event_at side entry = record { side = side; entry = entry }

-- the world with the entries that are made for one move more
abbrev pub world_after : ℕ → List Event → Move → List Event
world_after w world m =
    world ++ map (event_at m.side) (replay_of w (history_of m.side world) m.act)

-- the world that is replayed for these moves
unfoldable pub replay_world : ℕ → List Move → List Event
replay_world w moves = fold (world_after w) [] moves

-- a legal and honest world in which no call wanted for memory
pub record IsWhole (w : ℕ) (world : List Event) : Type 0 where
  pub legal : IsLegalWorld w world
  pub honest : IsHonest world
  pub remembered : All (λ x. ¬ IsNoMemory x.entry.call x.entry.answer) world

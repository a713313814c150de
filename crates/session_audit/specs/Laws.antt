-- What the replay is good for: a world that shows these moves exists exactly where the replay shows
-- them, and it does not matter in which order the two ends are replayed.
use Rattle.std.specs.Prelude.{◌≡◌, ℕ, ◌≤◌, Some, List, [], ◌∷◌, ◌++◌}
use Rattle.chan_values.specs.declared.side.Side.{Side}
use Rattle.channel_core.specs.Call.{Entry}
use Rattle.channel_core.specs.Laws.{IsPrefixOf}
use Rattle.channel_core.specs.Legal.{IsLegal}
use Rattle.channel_core.specs.World.{Event}
use Rattle.session_audit.specs.declared.act.Act.{Act}
use Rattle.session_audit.specs.Acts.{IsRemembered, act_of, acts_of}
use Rattle.session_audit.specs.Moves.{CanMove, IsRun, IsWhole, Move, acts_at, move_of, moves_of, replay_world}
use Rattle.session_audit.specs.Replay.{CanReplay}

-- what a legal history shows next can be replayed after what it showed before
abbrev pub ReplayFollows : Type 0
ReplayFollows =
    (w : ℕ) (h : List Entry) (e : Entry) (act : Act)
    → 1 ≤ w
    → IsLegal w (h ++ e ∷ [])
    → IsRemembered (h ++ e ∷ [])
    → act_of e.answer e.call ≡ Some act
    → CanReplay w (acts_of h) act

-- the world that is replayed for a run is legal and honest, and shows the run
abbrev pub RunIsWorld : Type 0
RunIsWorld =
    (w : ℕ) (moves : List Move)
    → IsRun w moves
    → IsWhole w (replay_world w moves) × (moves_of (replay_world w moves) ≡ moves)

-- what is seen of a legal and honest world is a run
abbrev pub WorldIsRun : Type 0
WorldIsRun =
    (w : ℕ) (world : List Event) → 1 ≤ w → IsWhole w world → IsRun w (moves_of world)

-- a run of what is seen at the two ends, each as far as the run has come
pub record IsRunOf (w : ℕ) (acts : Side → List Act) (moves : List Move) : Type 0 where
  pub run : IsRun w moves
  pub front : (side : Side) → IsPrefixOf (acts_at side moves) (acts side)

-- no end can do its next act
abbrev pub IsStuck : ℕ → (Side → List Act) → List Move → Type 0
IsStuck w acts moves =
    (side : Side) (act : Act) (rest : List Act)
    → acts_at side moves ++ act ∷ rest ≡ acts side
    → CanMove w moves (move_of side act)
    → ⊥

-- a run that is stuck has come as far at each end as any run
abbrev pub OrderIsFree : Type 0
OrderIsFree =
    (w : ℕ) (acts : Side → List Act) (moves others : List Move)
    → IsRunOf w acts moves
    → IsStuck w acts moves
    → IsRunOf w acts others
    → (side : Side)
    → IsPrefixOf (acts_at side others) (acts_at side moves)

-- where a world shows these acts at its ends, a run that is stuck has done them all
abbrev pub StuckIsDone : Type 0
StuckIsDone =
    (w : ℕ) (acts : Side → List Act) (world : List Event) (moves : List Move)
    → 1 ≤ w
    → IsWhole w world
    → ((side : Side) → acts_at side (moves_of world) ≡ acts side)
    → IsRunOf w acts moves
    → IsStuck w acts moves
    → (side : Side)
    → acts_at side moves ≡ acts side

-- The ends of a replay, with how far each has done the sayings of a journal.
use Rattle.std.specs.Prelude.{◌≡◌, ◌≢◌, ℕ, ◌+◌, ◌≤◌, ◌<◌, ◌⊎◌, Bool, true, false, Option, Some, None, List, [], ◌∷◌, ◌++◌, length, slice_get, take}
use Rattle.std.specs.List.{All, filter_map}
use Rattle.std.specs.Option.{IfSome}
use Rattle.chan_values.specs.declared.side.Side.{Side}
use Rattle.chan_values.specs.declared.side.Side.TheVariants.{Plugin, Agent}
use Rattle.chan_values.specs.Sides.{other}
use Rattle.channel_core.specs.Stands.{EndState, Stands}
use Rattle.session_audit.specs.declared.act.Act.{Act}
use Rattle.session_audit.specs.declared.reading.Saying.{Saying}
use Rattle.session_audit.specs.Acts.{outs_of}
use Rattle.session_audit.specs.Ends.{IsActable}
use Rattle.session_audit.specs.Marks.{AreMarks, AreOne, MarksState, no_marks}
use Rattle.session_audit.specs.Moves.{CanMove, IsHeardOf, Move, acts_at, move_of}
use Rattle.session_audit.specs.Replay.{CanReplay}
use Rattle.session_audit.specs.Seats.{IsSeat}

-- what a saying says of this end
abbrev pub act_said : Side → Side → Option Act → Option Act
act_said Plugin Plugin act = act
act_said Agent Agent act = act
act_said Plugin Agent act = None
act_said Agent Plugin act = None

-- what the sayings say of one end, in order
unfoldable pub acts_said : Side → List Saying → List Act
acts_said side sayings = filter_map (λ s. act_said side s.side s.act) sayings

-- what the sayings before this place say of one end
abbrev pub acts_before : Side → List Saying → ℕ → List Act
acts_before side sayings n = acts_said side (take n sayings)

-- each act can be replayed on an end
abbrev pub AreActable : List Saying → Type 0
AreActable sayings = All (λ s. IfSome s.act IsActable) sayings

-- an end of the replay, as contracts see it
pub record SeatState : Type 0 where
  pub end : EndState
  pub marks : MarksState
  -- the sayings before it are done, or of the other end
  pub next : ℕ
  -- it can't do its next saying, whatever the other end does
  pub stuck : Bool

-- an end that did nothing
pub record IsNewSeat (w : ℕ) (seat : SeatState) : Type 0 where
  pub end : Stands w seat.end []
  pub marks : seat.marks ≡ no_marks
  pub next : seat.next ≡ 0
  pub stuck : seat.stuck ≡ false

-- a saying of this end says an act
abbrev pub SaysAct : Side → Saying → Type 0
SaysAct side s = s.side ≡ side → s.act ≢ None

-- at this place there is a saying of the end that it can't replay
abbrev pub IsBlocked : ℕ → Side → List Saying → ℕ → Type 0
IsBlocked w side sayings n =
    (s : Saying)
    × (slice_get sayings n ≡ Some s)
    × (s.side ≡ side)
    × ((act : Act) → s.act ≡ Some act → CanReplay w (acts_before side sayings n) act → ⊥)

-- the end has done its sayings before its place
pub record IsPlayed (w : ℕ) (side : Side) (sayings : List Saying) (seat : SeatState) : Type 0 where
  pub within : seat.next ≤ length sayings
  pub said : All (SaysAct side) (take seat.next sayings)
  pub marks : AreMarks seat.marks sayings (acts_before side sayings seat.next) seat.next
  pub one : AreOne (acts_before side sayings seat.next)
  pub stands : seat.stuck ≡ false → IsSeat w seat.end (acts_before side sayings seat.next)
  pub blocked : seat.stuck ≡ true → IsBlocked w side sayings seat.next

-- the next saying of a side from a place on, or the end of the list
pub record Skips (side : Side) (sayings : List Saying) (from to : ℕ) : Type 0 where
  pub within : from ≤ length sayings → to ≤ length sayings
  pub forth : from ≤ to
  pub acts : acts_before side sayings to ≡ acts_before side sayings from
  pub said : All (SaysAct side) (take from sayings) → All (SaysAct side) (take to sayings)
  pub found : (s : Saying) → slice_get sayings to ≡ Some s → s.side ≡ side

-- the act was done
pub record IsDone
    (w : ℕ) (old new : SeatState) (sayings : List Saying) (acts others : List Act) (act : Act)
    : Type 0 where
  pub can : CanReplay w acts act
  pub heard : IsHeardOf (outs_of others) act
  pub seat : IsSeat w new.end (acts ++ act ∷ [])
  pub marks : AreMarks new.marks sayings (acts ++ act ∷ []) new.next
  pub next : new.next ≡ old.next + 1
  pub stuck : new.stuck ≡ old.stuck

-- the act could not be done: the end doesn't show it, or the other end hasn't given out what is heard
pub record IsUndone
    (w : ℕ) (old new : SeatState) (acts others : List Act) (act : Act) : Type 0 where
  pub next : new.next ≡ old.next
  pub marks : new.marks ≡ old.marks
  pub why :
      (new.stuck ≡ true) × (CanReplay w acts act → ⊥)
      ⊎ (new.end ≡ old.end) × (new.stuck ≡ old.stuck) × (IsHeardOf (outs_of others) act → ⊥)

-- what became of the act of the next saying
abbrev pub Tries : SeatState → SeatState → SeatState → List Saying → Act → Bool → Type 0
Tries old new theirs sayings act done =
    (w : ℕ) (acts others : List Act) (before : ℕ) (saying : Saying)
    → IsSeat w old.end acts
    → AreMarks old.marks sayings acts old.next
    → AreMarks theirs.marks sayings others before
    → AreOne others
    → slice_get sayings old.next ≡ Some saying
    → saying.act ≡ Some act
    → (done ≡ true → IsDone w old new sayings acts others act)
    × (done ≡ false → IsUndone w old new acts others act)

-- the next saying of this end can't be done after these moves, or there is none
abbrev pub IsHeld : ℕ → Side → List Saying → List Move → ℕ → Type 0
IsHeld w side sayings moves n =
    (s : Saying)
    → slice_get sayings n ≡ Some s
    → (s.side ≡ side)
    × ((act : Act) → s.act ≡ Some act → CanMove w moves (move_of side act) → ⊥)

-- the moves are those that this end has done
abbrev pub AreDone : Side → List Saying → List Move → SeatState → Type 0
AreDone side sayings moves seat = acts_at side moves ≡ acts_before side sayings seat.next

-- the end did one act more, or can't
abbrev pub GoesOn :
    Side → List Saying → SeatState → SeatState → SeatState → Bool → Type 0
GoesOn side sayings old new theirs done =
    (w : ℕ) (moves : List Move)
    → IsPlayed w side sayings old
    → AreDone side sayings moves old
    → IsPlayed w (other side) sayings theirs
    → AreDone (other side) sayings moves theirs
    → IsPlayed w side sayings new
    × (done ≡ true
    → (act : Act)
    × CanMove w moves (move_of side act)
    × AreDone side sayings (moves ++ move_of side act ∷ []) new
    × (old.next < new.next))
    × (done ≡ false
    → AreDone side sayings moves new
    × (old.next ≤ new.next)
    × IsHeld w side sayings moves new.next)

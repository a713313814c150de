-- What the worker of a feeder does, turn by turn.
use Rattle.std.specs.Prelude.{◌≡◌, ℕ, Bool, true, false, Option, Some, None, is_some, List, [], ◌∷◌, ◌++◌, ◌||◌, if◌then◌else◌}
use Rattle.std.specs.List.{flat_map, fold}
use Rattle.chan_values.specs.declared.item.Item.{Item}
use Rattle.channel_core.specs.declared.call.EndAnswer.{EndAnswer}
use Rattle.channel_core.specs.declared.call.EndCall.{EndCall}
use Rattle.chan_io.specs.Faults.{Rises}
use Rattle.channel_core.specs.declared.answer.Look.{Look}
use Rattle.channel_core.specs.declared.answer.Put.{Put}
use Rattle.turn_lock.specs.Runs.{AllFit}
use Rattle.session_crews.specs.declared.feed_end.FeedEnd.{FeedEnd}
use Rattle.session_crews.specs.declared.feed_end.Refusals.{Refusals}
use Rattle.session_feeds.specs.declared.feeder.Came.{Came}
use Rattle.session_run.specs.declared.parcel.Parcel.{Parcel}
use Rattle.session_run.specs.declared.shelf_call.ShelfAnswer.{ShelfAnswer}
use Rattle.session_run.specs.declared.shelf_call.ShelfCall.{ShelfCall}
use Rattle.session_run.specs.Shelf.{added_or_not}
use Rattle.session_feeds.specs.Marks.{Told}
use Rattle.session_feeds.specs.Puts.{IsLast, Trial, trial_calls}

-- one turn
pub data FeedTurn : Type 0 where
  -- the feeder gave a piece, which was tried
  gives : Trial → FeedTurn
  -- it gave another feeder with this mark, which was started, and then the end was looked at
  starts : ℕ → Look → FeedTurn
  -- it gave another feeder with this mark, which could not be started: for want of memory (true),
  -- or of a thread
  refused : ℕ → Bool → FeedTurn
  -- it gave nothing now, and the end was looked at
  waits : Look → FeedTurn
  -- it gave all, and that was put on the shelf, or there was no memory for it
  comes : Bool → FeedTurn
  -- it failed
  fails : FeedTurn
  -- there was no memory for what it gives, or its thread gave the work back, which counts as that
  starves : FeedTurn

-- how a worker ends after such a put, if it does
abbrev pub end_of_put : Put → Option FeedEnd
end_of_put (Put.Seq n) = None
end_of_put put = Some FeedEnd.Stopped

-- how a worker ends after a look that showed whether the end was closed, if it does
abbrev pub end_of_look : Bool → Option FeedEnd
end_of_look closed = if closed then Some FeedEnd.Stopped else None

-- how a worker ends that could not start another: for want of memory, or of a thread
abbrev pub refused_end : Bool → FeedEnd
refused_end starved = if starved then FeedEnd.NoMemory else FeedEnd.NoThread

-- how a worker ends after this turn, if it does
abbrev pub end_of : FeedTurn → Option FeedEnd
end_of (gives t) = end_of_put t.answer
end_of (starts mark look) = end_of_look look.closed
end_of (refused mark starved) = Some (refused_end starved)
end_of (waits look) = end_of_look look.closed
end_of (comes added) = if added then Some FeedEnd.Over else Some FeedEnd.NoMemory
end_of fails = Some FeedEnd.Failed
end_of starves = Some FeedEnd.NoMemory

-- one look at the end
abbrev pub looking : Look → EndCall × EndAnswer
looking look = (EndCall.Look, EndAnswer.Look look)

-- its calls of the end
abbrev pub turn_calls : FeedTurn → List (EndCall × EndAnswer)
turn_calls (gives t) = trial_calls t
turn_calls (starts mark look) = looking look ∷ []
turn_calls (waits look) = looking look ∷ []
turn_calls turn = []

-- its calls of the shelf
abbrev pub turn_shelf_calls : FeedTurn → List (ShelfCall × ShelfAnswer)
turn_shelf_calls (comes added) = (ShelfCall.Add Parcel.Over, added_or_not added) ∷ []
turn_shelf_calls fails = (ShelfCall.Finish true, ShelfAnswer.Done) ∷ []
turn_shelf_calls turn = []

-- the piece that it gave, if it gave one
abbrev pub turn_pieces : FeedTurn → List Item
turn_pieces (gives t) = t.item ∷ []
turn_pieces turn = []

-- the mark of the feeder that it gave, if it gave one
abbrev pub turn_marks : FeedTurn → List ℕ
turn_marks (starts mark look) = mark ∷ []
turn_marks (refused mark starved) = mark ∷ []
turn_marks turn = []

-- whether it gave all or failed in this turn
abbrev pub turn_came : FeedTurn → Option Came
turn_came (comes added) = Some Came.Over
turn_came fails = Some Came.Failed
turn_came turn = None

-- what counts of the turns so far: how the worker ends, if it does, and how its feeder came to its
-- end
pub record FeedProgress : Type 0 where
  pub ended : Option FeedEnd
  pub came : Option Came

-- before the first turn
abbrev pub at_first_feed : FeedProgress
at_first_feed = record { ended = None; came = None }

-- after one turn more
abbrev pub feed_progress : FeedProgress → FeedTurn → FeedProgress
feed_progress p turn = record { ended = end_of turn; came = turn_came turn }

-- a piece is put in, not as the last, until that has another answer than that the window is full
abbrev pub IsFeedTurn : FeedTurn → Type 0
IsFeedTurn (gives t) = IsLast t.item t.answer × (t.as_last ≡ false)
IsFeedTurn turn = Unit {0}

-- a turn comes only where the last was not made
abbrev pub MayFeed : FeedProgress → FeedTurn → Type 0
MayFeed p turn = (p.ended ≡ None) × IsFeedTurn turn

-- a worker that ends with a refusal closes the end
abbrev pub closing : Option FeedEnd → List (EndCall × EndAnswer)
closing (Some FeedEnd.Failed) = (EndCall.Close, EndAnswer.Done) ∷ []
closing (Some FeedEnd.NoMemory) = (EndCall.Close, EndAnswer.Done) ∷ []
closing (Some FeedEnd.NoThread) = (EndCall.Close, EndAnswer.Done) ∷ []
closing ended = []

-- one worker of a feeder, of which `ended` is None where it was not started
pub record FeedPart : Type 0 where
  -- the numbers of its seats
  pub number : ℕ
  pub shelf_number : ℕ
  -- its feeder, and how many of its calls had failed at first and at last
  pub mark : ℕ
  pub faults_before : ℕ
  pub faults : ℕ
  pub turns : List FeedTurn
  pub ended : Option FeedEnd

-- what it came to
abbrev pub progress_of : List FeedTurn → FeedProgress
progress_of turns = fold feed_progress at_first_feed turns

-- a turn comes only where the last was not made, and it ends as the last turn says; where its
-- feeder failed, calls of that failed
pub record IsFeedPart (p : FeedPart) : Type 0 where
  pub may : AllFit feed_progress MayFeed at_first_feed p.turns
  pub ends : p.ended ≡ (progress_of p.turns).ended
  pub cause : (progress_of p.turns).came ≡ Some Came.Failed → Rises p.faults_before p.faults

-- it was started
abbrev pub WasStarted : FeedPart → Type 0
WasStarted p = is_some p.ended ≡ true

-- its calls of the end, under its number
abbrev pub part_calls : FeedPart → ℕ × List (EndCall × EndAnswer)
part_calls p = (p.number, flat_map turn_calls p.turns ++ closing p.ended)

-- its calls of the shelf, under its number there
abbrev pub part_shelf_calls : FeedPart → ℕ × List (ShelfCall × ShelfAnswer)
part_shelf_calls p = (p.shelf_number, flat_map turn_shelf_calls p.turns)

-- what its feeder gave in these turns
abbrev pub told_in : ℕ → List FeedTurn → ℕ → Told
told_in mark turns faults = record {
  mark = mark;
  children = flat_map turn_marks turns;
  pieces = flat_map turn_pieces turns;
  came = (progress_of turns).came;
  faults = faults;
}

-- what its feeder gave
abbrev pub part_told : FeedPart → Told
part_told p = told_in p.mark p.turns p.faults

-- none of the refusals
abbrev pub no_refusals : Refusals
no_refusals = record { no_memory = false; failed = false; no_thread = false }

-- the refusals of both
abbrev pub either : Refusals → Refusals → Refusals
either a b = record {
  no_memory = a.no_memory || b.no_memory;
  failed = a.failed || b.failed;
  no_thread = a.no_thread || b.no_thread;
}

-- the refusal of a worker that ended so, if that is one
abbrev pub refusal_of : Option FeedEnd → Refusals
refusal_of (Some FeedEnd.NoMemory) = record { no_memory = true; failed = false; no_thread = false }
refusal_of (Some FeedEnd.Failed) = record { no_memory = false; failed = true; no_thread = false }
refusal_of (Some FeedEnd.NoThread) = record { no_memory = false; failed = false; no_thread = true }
refusal_of ended = no_refusals

-- the refusals with which workers ended
abbrev pub refusals_in : List FeedPart → Refusals
refusals_in [] = no_refusals
refusals_in (p ∷ ps) = either (refusal_of p.ended) (refusals_in ps)

-- What holds of each worker of a feeder.
use Rattle.std.specs.Prelude.{◌≡◌, ◌≢◌, Bool, true, false, Option, Some, List, [], ◌∷◌, ◌++◌, map}
use Rattle.std.specs.List.{list_any}
use Rattle.chan_io.specs.Faults.{Rises}
use Rattle.chan_values.specs.declared.item.Item.{Item}
use Rattle.channel_core.specs.declared.answer.Put.{Put}
use Rattle.channel_core.specs.declared.call.EndAnswer.{EndAnswer}
use Rattle.session_run.specs.declared.parcel.Parcel.{Parcel}
use Rattle.session_run.specs.declared.shelf_call.ShelfAnswer.{ShelfAnswer}
use Rattle.session_run.specs.declared.shelf_call.ShelfCall.{ShelfCall}
use Rattle.session_feeds.specs.declared.feeder.Came.{Came}
use Rattle.session_feeds.specs.Puts.{ToPut, items_put}
use Rattle.session_crews.specs.declared.feed_end.FeedEnd.{FeedEnd}
use Rattle.session_crews.specs.FeedTurns.{FeedPart, IsFeedPart, part_calls, part_shelf_calls, part_told}

-- a piece is put in, not as the last of its direction
abbrev pub as_piece : Item → ToPut
as_piece item = (item, false)

-- what the worker of a feeder put in is the first of what its feeder gave, in order, and all of it
-- unless it was stopped
abbrev pub PiecesArePut : Type 0
PiecesArePut = (p : FeedPart)
    → IsFeedPart p
    → (left : List ToPut)
    × (map as_piece (part_told p).pieces ≡ items_put (part_calls p).1 ++ left)
    × (p.ended ≢ Some FeedEnd.Stopped → left ≡ [])

-- where a worker ended since its feeder failed, calls of that feeder failed
abbrev pub FailuresAreCounted : Type 0
FailuresAreCounted = (p : FeedPart)
    → IsFeedPart p
    → p.ended ≡ Some FeedEnd.Failed
    → Rises p.faults_before p.faults

-- this answer stops a worker: a put got no number though the window is not full, or a look shows the
-- end closed
abbrev pub is_stopping : EndAnswer → Bool
is_stopping (EndAnswer.Put (Put.Seq n)) = false
is_stopping (EndAnswer.Put (Put.Full item)) = false
is_stopping (EndAnswer.Put put) = true
is_stopping (EndAnswer.Look look) = look.closed
is_stopping answer = false

-- all calls of the shelf of a worker that ended so, whose feeder came to its end so
abbrev pub shelf_calls_by : Option FeedEnd → Option Came → List (ShelfCall × ShelfAnswer)
shelf_calls_by (Some FeedEnd.Over) came = (ShelfCall.Add Parcel.Over, ShelfAnswer.Added) ∷ []
shelf_calls_by (Some FeedEnd.Failed) came = (ShelfCall.Finish true, ShelfAnswer.Done) ∷ []
shelf_calls_by (Some FeedEnd.NoMemory) (Some Came.Over) =
    (ShelfCall.Add Parcel.Over, ShelfAnswer.NoMemory) ∷ []
shelf_calls_by ended came = []

-- why a worker ended, and what it told the session
pub record EndsSo (p : FeedPart) : Type 0 where
  pub shelf : (part_shelf_calls p).1 ≡ shelf_calls_by p.ended (part_told p).came
  -- its feeder gave all, or failed, where it ended so
  pub over : p.ended ≡ Some FeedEnd.Over → (part_told p).came ≡ Some Came.Over
  pub failed : p.ended ≡ Some FeedEnd.Failed → (part_told p).came ≡ Some Came.Failed
  -- one whose feeder failed ended so
  pub came : (part_told p).came ≡ Some Came.Failed → p.ended ≡ Some FeedEnd.Failed
  -- one that was stopped had such an answer of the end
  pub stopped :
      p.ended ≡ Some FeedEnd.Stopped → list_any (λ e. is_stopping e.1) (part_calls p).1 ≡ true

-- each worker of a feeder ended for a cause
abbrev pub EndsHaveCauses : Type 0
EndsHaveCauses = (p : FeedPart) → IsFeedPart p → EndsSo p

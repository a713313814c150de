-- The turns of a feeder's worker, while it is in them.
use Rattle.std.specs.Prelude.{◌≡◌, ◌≤◌, ◌<◌, ℕ, Bool, true, Option, Some, None, Result, Ok, Err, List, [], ◌∷◌, ◌++◌}
use Rattle.std.specs.List.{flat_map}
use Rattle.chan_io.specs.Faults.{Rises}
use Rattle.channel_core.specs.declared.call.EndAnswer.{EndAnswer}
use Rattle.channel_core.specs.declared.call.EndCall.{EndCall}
use Rattle.turn_lock.specs.Runs.{AllFit}
use Rattle.session_run.specs.Adds.{AddsCalls}
use Rattle.session_run.specs.declared.shelf_call.ShelfAnswer.{ShelfAnswer}
use Rattle.session_run.specs.declared.shelf_call.ShelfCall.{ShelfCall}
use Rattle.session_crews.specs.declared.crew.Crew.{Crew}
use Rattle.session_crews.specs.declared.feed_done.FeedDone.{FeedDone}
use Rattle.session_crews.specs.declared.feed_end.FeedEnd.{FeedEnd}
use Rattle.session_crews.specs.declared.feed_step.Step.{Step}
use Rattle.session_crews.specs.declared.feed_turn.Goes.{Goes}
use Rattle.session_feeds.specs.declared.feeder.Came.{Came}
use Rattle.session_crews.specs.Crews.{Call, HasBack, IsCrew, has_stopped}
use Rattle.session_crews.specs.FeedTurns.{FeedTurn, IsFeedTurn, MayFeed, at_first_feed, end_of, feed_progress, progress_of, refusal_of, told_in, turn_calls, turn_came, turn_marks, turn_pieces, turn_shelf_calls}
use Rattle.session_feeds.specs.Marks.{IsNew, Told}
use Rattle.session_crews.specs.Seats.{EndLock, EndSeat, ShelfLock, ShelfSeat}

-- what a feeder tells after one turn more, of which so many of its calls failed till then
abbrev pub after_turn : Told → FeedTurn → ℕ → Told
after_turn t turn faults = record {
  mark = t.mark;
  children = t.children ++ turn_marks turn;
  pieces = t.pieces ++ turn_pieces turn;
  came = turn_came turn;
  faults = faults;
}

-- the count of a feeder never falls, and rises where it fails
pub record Counts (came : Option Came) (before after : ℕ) : Type 0 where
  pub counted : before ≤ after
  pub failed : came ≡ Some Came.Failed → Rises before after

module _ {F : Type 0} (told : F → Told) where
  -- the worker made this turn, in which no other feeder came
  pub record Makes (old_end new_end : EndSeat) (old_shelf new_shelf : ShelfSeat) (old new : F)
      (ended : Option FeedEnd) : Type 0 where
    pub turn : FeedTurn
    pub fits : IsFeedTurn turn
    pub alone : turn_marks turn ≡ []
    pub end : AddsCalls old_end (turn_calls turn) new_end
    pub shelf : AddsCalls old_shelf (turn_shelf_calls turn) new_shelf
    pub is_told : told new ≡ after_turn (told old) turn (told new).faults
    pub counts : Counts (turn_came turn) (told old).faults (told new).faults
    pub ends : end_of turn ≡ ended

  -- the feeder gave another one, and nothing was done with it yet
  pub record GivesAnother (old_end new_end : EndSeat) (old_shelf new_shelf : ShelfSeat)
      (old new other : F) : Type 0 where
    pub end : new_end ≡ old_end
    pub shelf : new_shelf ≡ old_shelf
    pub is_told :
        told new
        ≡ record (told old) {
          children = (told old).children ++ (told other).mark ∷ [];
          came = None;
          faults = (told new).faults;
        }
    pub counted : (told old).faults ≤ (told new).faults
    pub is_new : IsNew (told other)

  -- one step of a worker: a whole turn, or the beginning of one in which another feeder came
  abbrev pub Steps : EndSeat → EndSeat → ShelfSeat → ShelfSeat → F → F → Step F → Type 0
  Steps old_end new_end old_shelf new_shelf old new Step.Goes =
      Makes old_end new_end old_shelf new_shelf old new None
  Steps old_end new_end old_shelf new_shelf old new (Step.Ends end) =
      Makes old_end new_end old_shelf new_shelf old new (Some end)
  Steps old_end new_end old_shelf new_shelf old new (Step.Another other) =
      GivesAnother old_end new_end old_shelf new_shelf old new other

  -- a feeder's worker made these turns: what its feeder tells, and how it ends, if it does
  pub record Turned (feeder0 : F) (turns : List FeedTurn) (ended : Option FeedEnd) (feeder : F)
      : Type 0 where
    pub may : AllFit feed_progress MayFeed at_first_feed turns
    pub ends : (progress_of turns).ended ≡ ended
    pub on : ended ≡ None → (progress_of turns).came ≡ None
    pub is_told : told feeder ≡ told_in (told feeder0).mark turns (told feeder).faults
    pub counts : Counts (progress_of turns).came (told feeder0).faults (told feeder).faults

  module _ {W : Type 0} (faults : W → ℕ) (ends : EndLock) (shelves : ShelfLock) where
    -- a feeder's worker is in its turns
    pub record Working (end0 : EndSeat) (shelf0 : ShelfSeat) (feeder0 : F) (turns : List FeedTurn)
        (ended : Option FeedEnd) (end : EndSeat) (shelf : ShelfSeat) (calls : List (Call W F))
        (feeder : F) : Type 0 where
      pub crew :
          IsCrew told faults ends shelves end0 shelf0 (flat_map turn_calls turns)
          (flat_map turn_shelf_calls turns) (flat_map turn_marks turns) end shelf calls
      pub turned : Turned feeder0 turns ended feeder

    -- the same where a start was refused in the last turn
    pub record Refusing (end0 : EndSeat) (shelf0 : ShelfSeat) (feeder0 : F)
        (turns : List FeedTurn) (ended : Option FeedEnd) (end : EndSeat) (shelf : ShelfSeat)
        (calls : List (Call W F)) (feeder : F) (back : FeedDone W F) : Type 0 where
      pub crew :
          HasBack told faults ends shelves end0 shelf0 (flat_map turn_calls turns)
          (flat_map turn_shelf_calls turns) (flat_map turn_marks turns) end shelf calls back
      pub turned : Turned feeder0 turns ended feeder
      pub stopped : has_stopped (refusal_of ended) ≡ true

    -- what became of a worker in one turn more
    abbrev pub GoesOn : EndSeat → ShelfSeat → F → List FeedTurn → EndSeat → ShelfSeat
        → List (Call W F) → F → Goes W F → Type 0
    GoesOn end0 shelf0 feeder0 turns end shelf calls feeder Goes.On =
        (turn : FeedTurn)
        × Working end0 shelf0 feeder0 (turns ++ turn ∷ []) None end shelf calls feeder
    GoesOn end0 shelf0 feeder0 turns end shelf calls feeder (Goes.Ends ended) =
        (turn : FeedTurn)
        × Working end0 shelf0 feeder0 (turns ++ turn ∷ []) (Some ended) end shelf calls feeder
    GoesOn end0 shelf0 feeder0 turns end shelf calls feeder (Goes.Refused ended back) =
        (turn : FeedTurn)
        × Refusing end0 shelf0 feeder0 (turns ++ turn ∷ []) (Some ended) end shelf calls feeder
        back

    -- a worker after the start of one more, or with what came back of it
    abbrev pub IsCrewOrBack : EndSeat → ShelfSeat → List (EndCall × EndAnswer)
        → List (ShelfCall × ShelfAnswer) → List ℕ → Crew W F → Result Unit (FeedDone W F × Bool)
        → Type 0
    IsCrewOrBack end0 shelf0 calls shelf_calls marks crew (Ok _) =
        IsCrew told faults ends shelves end0 shelf0 calls shelf_calls marks crew.end crew.shelf
        crew.running.items
    IsCrewOrBack end0 shelf0 calls shelf_calls marks crew (Err back) =
        HasBack told faults ends shelves end0 shelf0 calls shelf_calls marks crew.end crew.shelf
        crew.running.items back.0

    -- a worker for the feeder with this mark was started, or what it was to have came back
    abbrev pub StartsOne : ℕ → Crew W F → Crew W F → Result Unit (FeedDone W F × Bool) → Type 0
    StartsOne mark old new result =
        (end0 : EndSeat) (shelf0 : ShelfSeat) (calls : List (EndCall × EndAnswer))
        (shelf_calls : List (ShelfCall × ShelfAnswer)) (marks : List ℕ)
        → IsCrew told faults ends shelves end0 shelf0 calls shelf_calls marks old.end old.shelf
        old.running.items
        → IsCrewOrBack end0 shelf0 calls shelf_calls (marks ++ mark ∷ []) new result

-- a worker ends for want of a thread only where its spawner's count rose
abbrev pub HasCause : {W F : Type 0} → ℕ → Goes W F → Type 0
HasCause count Goes.On = Unit {0}
HasCause count (Goes.Ends ended) = Some ended ≡ Some FeedEnd.NoThread → 0 < count
HasCause count (Goes.Refused ended back) = Some ended ≡ Some FeedEnd.NoThread → 0 < count

-- A worker with the workers that it started, and what it ends with once they were joined.
use Rattle.std.specs.Prelude.{◌≡◌, ◌<◌, ℕ, Bool, true, false, ◌||◌, ◌⊎◌, None, List, [], ◌∷◌, ◌++◌, map}
use Rattle.std.specs.List.{All}
use Rattle.chan_io.specs.declared.running_call.RunningCall.{RunningCall}
use Rattle.chan_io.specs.Calls.{IsCallOf}
use Rattle.chan_io.specs.Faults.{Rises}
use Rattle.channel_core.specs.declared.call.EndAnswer.{EndAnswer}
use Rattle.channel_core.specs.declared.call.EndCall.{EndCall}
use Rattle.turn_lock.specs.declared.view.Share.{Share}
use Rattle.turn_lock.specs.Seats.{IsSeatOf, mine_of, number_of, share_of}
use Rattle.session_run.specs.Adds.{entries_by}
use Rattle.session_run.specs.declared.shelf_call.ShelfAnswer.{ShelfAnswer}
use Rattle.session_run.specs.declared.shelf_call.ShelfCall.{ShelfCall}
use Rattle.session_crews.specs.declared.feed_done.FeedDone.{FeedDone}
use Rattle.session_crews.specs.declared.feed_done.FromFeeder.{FromFeeder}
use Rattle.session_crews.specs.declared.feed_end.Refusals.{Refusals}
use Rattle.session_crews.specs.FeedTurns.{FeedPart, IsFeedPart, WasStarted, either, no_refusals, part_calls, part_shelf_calls, part_told, refusals_in}
use Rattle.session_crews.specs.Gathers.{Gathers}
use Rattle.session_feeds.specs.Marks.{ComesBack, Told, same_mark, times}
use Rattle.session_crews.specs.Parts.{entries_in}
use Rattle.session_crews.specs.Places.{feeders_in}
use Rattle.session_crews.specs.Seats.{EndLock, EndSeat, ShelfLock, ShelfSeat}

-- its seats made no call yet
pub record IsNewPromise {F : Type 0} (p : FromFeeder F) : Type 0 where
  pub end : mine_of p.end.value ≡ []
  pub shelf : mine_of p.shelf.value ≡ []

-- a started call, with a promise beside it that has the values of its own
abbrev pub Call : Type 0 → Type 0 → Type 0
Call W F = RunningCall (FeedDone W F) (FromFeeder F) × FromFeeder F

-- the promises of the workers that are out, the latest last
abbrev pub promises : {F W : Type 0} → List (Call W F) → List (FromFeeder F)
promises calls = map (λ c. c.1) calls

-- their shares of the two locks
abbrev pub end_shares : {F : Type 0} → List (FromFeeder F) → List Share
end_shares out = map (λ p. share_of p.end.value) out

abbrev pub shelf_shares : {F : Type 0} → List (FromFeeder F) → List Share
shelf_shares out = map (λ p. share_of p.shelf.value) out

-- what a worker had at first, and did itself
pub record Own : Type 0 where
  pub end : EndSeat
  pub shelf : ShelfSeat
  pub end_calls : List (EndCall × EndAnswer)
  pub shelf_calls : List (ShelfCall × ShelfAnswer)
  -- how often each mark was out
  pub marks : ℕ → ℕ
  pub refusals : Refusals

-- the same of a feeder's worker, whose own part stands among the parts
abbrev pub own_of : EndSeat → ShelfSeat → ℕ → Own
own_of end shelf mark = record {
  end = end;
  shelf = shelf;
  end_calls = [];
  shelf_calls = [];
  marks = same_mark mark;
  refusals = no_refusals;
}

-- refusals that explain why a feeder was not started
abbrev pub has_stopped : Refusals → Bool
has_stopped r = r.no_memory || r.no_thread

-- a worker with these refusals may join another: that was started, or its own refusals explain why
-- not
abbrev pub MayAbsorb : Refusals → Bool → Type 0
MayAbsorb refusals started = (has_stopped refusals ≡ true) ⊎ (started ≡ true)

module _ {F : Type 0} (told : F → Told) where
  -- the marks of the workers that are out
  abbrev pub marks_out : List (FromFeeder F) → List ℕ
  marks_out out = map (λ p. (told p.feeder.value).mark) out

  module _ {W : Type 0} (faults : W → ℕ) where
    -- these workers were joined, each part that of one feeder; others are out
    pub record Joins (own : Own) (out : List (FromFeeder F)) (parts : List FeedPart)
        (done : FeedDone W F) : Type 0 where
      pub fits : All IsFeedPart parts
      -- the entries of its seats are its own, and those of the parts
      pub end_made :
          Gathers own.end
          (entries_by (number_of own.end) own.end_calls ++ entries_in (map part_calls parts))
          (end_shares out) done.end
      pub shelf_made :
          Gathers own.shelf
          (entries_by (number_of own.shelf) own.shelf_calls
          ++ entries_in (map part_shelf_calls parts))
          (shelf_shares out) done.shelf
      -- the feeders that it has to hand on, in an order in which they may come back
      pub feeders : map told (feeders_in done.feeders.list) ≡ map part_told parts
      pub back : ComesBack own.marks (map part_told parts) (times (marks_out out))
      pub refusals : done.refusals ≡ either own.refusals (refusals_in parts)
      -- each was started, unless memory or a thread was wanted
      pub ran :
          done.started ≡ true → has_stopped done.refusals ≡ false → All WasStarted parts
      -- the spawner's count rose where a worker could not be started for want of a thread
      pub cause : done.refusals.no_thread ≡ true → 0 < faults done.spawner

    -- a feeder's worker has ended, and so have those that it started but for these, which are out
    pub record Fed (end0 : EndSeat) (shelf0 : ShelfSeat) (feeder0 : F) (out : List (FromFeeder F))
        (done : FeedDone W F) : Type 0 where
      -- its own part, and those of the workers that it joined
      pub own : FeedPart
      pub others : List FeedPart
      pub number : own.number ≡ number_of end0
      pub shelf_number : own.shelf_number ≡ number_of shelf0
      pub mark : own.mark ≡ (told feeder0).mark
      pub faults_before : own.faults_before ≡ (told feeder0).faults
      pub joins : Joins (own_of end0 shelf0 (told feeder0).mark) out (own ∷ others) done
      -- one that was not started did nothing
      pub alone :
          done.started ≡ false → (others ≡ []) × (own.turns ≡ []) × (own.ended ≡ None)

    -- a call was started with these
    pub record IsStarted (end0 : EndSeat) (shelf0 : ShelfSeat) (feeder0 : F)
        (call : RunningCall (FeedDone W F) (FromFeeder F)) : Type 0 where
      pub promise : FromFeeder F
      pub is_call :
          IsCallOf
          (λ (p : FromFeeder F) (done : FeedDone W F).
          Fed p.end.value p.shelf.value p.feeder.value [] done)
          promise call
      pub end : promise.end.value ≡ end0
      pub shelf : promise.shelf.value ≡ shelf0
      pub feeder : promise.feeder.value ≡ feeder0

    -- a call is out that was started with new seats of these locks, which stand beside it
    pub record IsOut (ends : EndLock) (shelves : ShelfLock) (c : Call W F) : Type 0 where
      pub started : IsStarted c.1.end.value c.1.shelf.value c.1.feeder.value c.0
      pub end_lock : IsSeatOf ends c.1.end.value
      pub shelf_lock : IsSeatOf shelves c.1.shelf.value
      pub is_new : IsNewPromise c.1

    -- a worker that began with these seats and made these calls has these now, while calls are out
    -- that it started for the feeders with these marks
    pub record IsCrew (ends : EndLock) (shelves : ShelfLock) (end0 : EndSeat) (shelf0 : ShelfSeat)
        (end_calls : List (EndCall × EndAnswer)) (shelf_calls : List (ShelfCall × ShelfAnswer))
        (marks : List ℕ) (end : EndSeat) (shelf : ShelfSeat) (calls : List (Call W F))
        : Type 0 where
      pub end_lock : IsSeatOf ends end
      pub shelf_lock : IsSeatOf shelves shelf
      pub out : All (IsOut ends shelves) calls
      pub end_made :
          Gathers end0 (entries_by (number_of end0) end_calls) (end_shares (promises calls)) end
      pub shelf_made :
          Gathers shelf0 (entries_by (number_of shelf0) shelf_calls)
          (shelf_shares (promises calls)) shelf
      pub started : marks_out (promises calls) ≡ marks

    -- the same after one more start, which was refused: what it was to have came back
    pub record HasBack (ends : EndLock) (shelves : ShelfLock) (end0 : EndSeat) (shelf0 : ShelfSeat)
        (end_calls : List (EndCall × EndAnswer)) (shelf_calls : List (ShelfCall × ShelfAnswer))
        (marks : List ℕ) (end : EndSeat) (shelf : ShelfSeat) (calls : List (Call W F))
        (back : FeedDone W F) : Type 0 where
      pub promise : FromFeeder F
      pub is_new : IsNewPromise promise
      pub back_end_lock : IsSeatOf ends promise.end.value
      pub back_shelf_lock : IsSeatOf shelves promise.shelf.value
      pub fed : Fed promise.end.value promise.shelf.value promise.feeder.value [] back
      pub end_lock : IsSeatOf ends end
      pub shelf_lock : IsSeatOf shelves shelf
      pub out : All (IsOut ends shelves) calls
      pub end_made :
          Gathers end0 (entries_by (number_of end0) end_calls)
          (end_shares (promises calls ++ promise ∷ [])) end
      pub shelf_made :
          Gathers shelf0 (entries_by (number_of shelf0) shelf_calls)
          (shelf_shares (promises calls ++ promise ∷ [])) shelf
      pub started : marks_out (promises calls ++ promise ∷ []) ≡ marks

-- a start was refused for want of memory, or the spawner's count rose
abbrev pub IsRefused : Bool → ℕ → ℕ → Type 0
IsRefused true before after = Unit {0}
IsRefused false before after = Rises before after

-- What a step of the deliverer leaves of the workers that it started.
use Rattle.std.specs.Prelude.{◌≡◌, ◌<◌, Option, Some, None, ℕ, List, [], ◌++◌, map}
use Rattle.std.specs.List.{All}
use Rattle.channel_core.specs.declared.call.EndAnswer.{EndAnswer}
use Rattle.channel_core.specs.declared.call.EndCall.{EndCall}
use Rattle.session_run.specs.declared.shelf_call.ShelfAnswer.{ShelfAnswer}
use Rattle.session_run.specs.declared.shelf_call.ShelfCall.{ShelfCall}
use Rattle.session_feeds.specs.Marks.{IsNew, Told}
use Rattle.session_crews.specs.Crews.{HasBack, IsCrew}
use Rattle.session_crews.specs.Seats.{EndLock, EndSeat, ShelfLock, ShelfSeat}
use Rattle.session_crews.specs.declared.crew.Crew.{Crew}
use Rattle.session_delivery.specs.declared.deliver_end.DeliverEnd.{DeliverEnd}
use Rattle.session_delivery.specs.declared.delivered.Delivered.{Delivered}
use Rattle.session_delivery.specs.Starts.{Starts, end_of_refusal, end_of_starts, marks_begun, marks_left}

module _ {W F : Type 0} where
  -- how the deliverer ends after this answer, if it does
  abbrev pub ended_by : Delivered W F → Option DeliverEnd
  ended_by Delivered.On = None
  ended_by (Delivered.Ends end) = Some end
  ended_by (Delivered.NoRoom left) = Some DeliverEnd.NoMemory
  ended_by (Delivered.Refused back starved left) = Some (end_of_refusal starved)

  -- the feeders that were left
  abbrev pub feeders_left : Delivered W F → List F
  feeders_left Delivered.On = []
  feeders_left (Delivered.Ends end) = []
  feeders_left (Delivered.NoRoom left) = left.items
  feeders_left (Delivered.Refused back starved left) = left.items

  -- a thread is wanted only where the spawner's count is not 0
  abbrev pub HasStartCause : ℕ → Delivered W F → Type 0
  HasStartCause count answer = ended_by answer ≡ Some DeliverEnd.NoThread → 0 < count

module _ {F : Type 0} (told : F → Told) where
  -- the marks of these feeders
  abbrev pub marks_of : List F → List ℕ
  marks_of feeders = map (λ f. (told f).mark) feeders

  module _ {W : Type 0} (faults : W → ℕ) (ends : EndLock) (shelves : ShelfLock) where
    -- a worker that began with these seats, made these calls, and started workers for the feeders
    -- with these marks; of the last of them what it was to have may have come back
    abbrev pub HasCrew : EndSeat → ShelfSeat → List (EndCall × EndAnswer)
        → List (ShelfCall × ShelfAnswer) → List ℕ → Crew W F → Delivered W F → Type 0
    HasCrew end0 shelf0 calls shelf_calls marks crew (Delivered.Refused back starved left) =
        HasBack told faults ends shelves end0 shelf0 calls shelf_calls marks crew.end crew.shelf
        crew.running.items back
    HasCrew end0 shelf0 calls shelf_calls marks crew answer =
        IsCrew told faults ends shelves end0 shelf0 calls shelf_calls marks crew.end crew.shelf
        crew.running.items

    -- whatever a worker had done before, it made these calls more, and these starts
    abbrev pub CrewGoes : Crew W F → List (EndCall × EndAnswer) → List (ShelfCall × ShelfAnswer)
        → List ℕ → Crew W F → Delivered W F → Type 0
    CrewGoes old more more_shelf more_marks new answer =
        (end0 : EndSeat) (shelf0 : ShelfSeat) (calls : List (EndCall × EndAnswer))
        (shelf_calls : List (ShelfCall × ShelfAnswer)) (marks : List ℕ)
        → IsCrew told faults ends shelves end0 shelf0 calls shelf_calls marks old.end old.shelf
        old.running.items
        → HasCrew end0 shelf0 (calls ++ more) (shelf_calls ++ more_shelf) (marks ++ more_marks)
        new answer

    -- the same without calls
    abbrev pub CrewStarts : Crew W F → List ℕ → Crew W F → Delivered W F → Type 0
    CrewStarts old more_marks new answer =
        (end0 : EndSeat) (shelf0 : ShelfSeat) (calls : List (EndCall × EndAnswer))
        (shelf_calls : List (ShelfCall × ShelfAnswer)) (marks : List ℕ)
        → IsCrew told faults ends shelves end0 shelf0 calls shelf_calls marks old.end old.shelf
        old.running.items
        → HasCrew end0 shelf0 calls shelf_calls (marks ++ more_marks) new answer

    -- workers were started for these feeders, in order, up to the first that could not be started
    pub record StartsAll (feeders : List F) (old : Crew W F) (starts : Starts) (new : Crew W F)
        (answer : Delivered W F) : Type 0 where
      pub marks : marks_of feeders ≡ marks_begun starts ++ marks_left starts
      pub ended : ended_by answer ≡ end_of_starts starts
      pub left : marks_of (feeders_left answer) ≡ marks_left starts
      pub fresh : All (λ f. IsNew (told f)) (feeders_left answer)
      pub crew : CrewStarts old (marks_begun starts) new answer
      pub cause : HasStartCause (faults new.spawner) answer

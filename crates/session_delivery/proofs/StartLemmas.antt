-- Starts of workers, one after another.
use Rattle.std.proofs.Common.{◌≡◌, ℕ, ◌<◌, Bool, true, false, Option, Some, None, List, [], ◌++◌, refl, sym, subst, arith, append_assoc}
use Rattle.std.proofs.lemmas.List.{append-nil}
use Rattle.channel_core.specs.declared.call.EndAnswer.{EndAnswer}
use Rattle.channel_core.specs.declared.call.EndCall.{EndCall}
use Rattle.session_run.specs.declared.shelf_call.ShelfAnswer.{ShelfAnswer}
use Rattle.session_run.specs.declared.shelf_call.ShelfCall.{ShelfCall}
use Rattle.session_feeds.specs.Marks.{Told}
use Rattle.session_feeds.specs.declared.session.SessionFault.{SessionFault}
use Rattle.session_crews.specs.Crews.{Call, HasBack, IsCrew, IsRefused, has_stopped}
use Rattle.session_crews.specs.Seats.{EndLock, EndSeat, ShelfLock, ShelfSeat}
use Rattle.session_crews.specs.declared.feed_done.FeedDone.{FeedDone}
use Rattle.session_crews.proofs.CrewLemmas.{IsCrew-same}
use Rattle.session_delivery.specs.Delivering.{end_of_fault}
use Rattle.session_delivery.specs.Deliveries.{refusals_of}
use Rattle.session_delivery.specs.Starts.{end_of_refusal}
use Rattle.session_delivery.specs.declared.deliver_end.DeliverEnd.{DeliverEnd}

-- a thread was wanted only where the count rose
pub refused_cause : (starved : Bool) (before after : ℕ) → IsRefused starved before after
    → Some (end_of_refusal starved) ≡ Some DeliverEnd.NoThread
    → 0 < after
refused_cause true before after rose is = absurd (cc)
refused_cause false before after rose is = omega (arith, rose)

-- a refusal of the session is not a want of a thread
pub fault_cause : (fault : SessionFault) (count : ℕ)
    → Some (end_of_fault fault) ≡ Some DeliverEnd.NoThread
    → 0 < count
fault_cause (SessionFault.Handshake why) count is = absurd (cc)
fault_cause SessionFault.Start count is = absurd (cc)
fault_cause SessionFault.Child count is = absurd (cc)
fault_cause SessionFault.Port count is = absurd (cc)
fault_cause SessionFault.Write count is = absurd (cc)
fault_cause (SessionFault.Frames place) count is = absurd (cc)
fault_cause SessionFault.NoMemory count is = absurd (cc)

-- only a deliverer that could not start a worker has this refusal
pub thread_end : (ended : Option DeliverEnd) → (refusals_of ended).no_thread ≡ true
    → ended ≡ Some DeliverEnd.NoThread
thread_end None is = absurd (cc)
thread_end (Some DeliverEnd.Closed) is = absurd (cc)
thread_end (Some (DeliverEnd.Fault fault)) is = absurd (cc)
thread_end (Some DeliverEnd.NoMemory) is = absurd (cc)
thread_end (Some DeliverEnd.NoThread) is = refl

-- memory or a thread was wanted
pub refusal_stops : (starved : Bool)
    → has_stopped (refusals_of (Some (end_of_refusal starved))) ≡ true
refusal_stops true = refl
refusal_stops false = refl

module _ {F : Type 0} (told : F → Told) {W : Type 0} (faults : W → ℕ) (ends : EndLock)
    (shelves : ShelfLock) where
  -- whatever a worker had done before, it started workers for the feeders with these marks
  abbrev pub Started : EndSeat → ShelfSeat → List (Call W F) → List ℕ → EndSeat → ShelfSeat
      → List (Call W F) → Type 0
  Started end shelf running begun end' shelf' running' =
      (end0 : EndSeat) (shelf0 : ShelfSeat) (calls : List (EndCall × EndAnswer))
      (shelf_calls : List (ShelfCall × ShelfAnswer)) (marks : List ℕ)
      → IsCrew told faults ends shelves end0 shelf0 calls shelf_calls marks end shelf running
      → IsCrew told faults ends shelves end0 shelf0 calls shelf_calls (marks ++ begun) end'
      shelf' running'

  -- the same, where the last of them came back
  abbrev pub CameBack : EndSeat → ShelfSeat → List (Call W F) → List ℕ → EndSeat → ShelfSeat
      → List (Call W F) → FeedDone W F → Type 0
  CameBack end shelf running begun end' shelf' running' back =
      (end0 : EndSeat) (shelf0 : ShelfSeat) (calls : List (EndCall × EndAnswer))
      (shelf_calls : List (ShelfCall × ShelfAnswer)) (marks : List ℕ)
      → IsCrew told faults ends shelves end0 shelf0 calls shelf_calls marks end shelf running
      → HasBack told faults ends shelves end0 shelf0 calls shelf_calls (marks ++ begun) end'
      shelf' running' back

  pub Started-none : (end : EndSeat) (shelf : ShelfSeat) (running : List (Call W F))
      → Started end shelf running [] end shelf running
  Started-none end shelf running end0 shelf0 calls shelf_calls marks so =
      subst
      (λ l. IsCrew told faults ends shelves end0 shelf0 calls shelf_calls l end shelf running)
      (sym (append-nil marks)) so

  -- room was made
  pub Started-room : (end1 end2 : EndSeat) (shelf1 shelf2 : ShelfSeat)
      (running1 running2 running : List (Call W F)) (begun : List ℕ)
      → Started end1 shelf1 running1 begun end2 shelf2 running2
      → running ≡ running2
      → Started end1 shelf1 running1 begun end2 shelf2 running
  Started-room end1 end2 shelf1 shelf2 running1 running2 running begun so is end0 shelf0 calls
      shelf_calls marks first =
      IsCrew-same told faults ends shelves end0 shelf0 calls shelf_calls (marks ++ begun) end2
      shelf2 running2 (so end0 shelf0 calls shelf_calls marks first) end2 shelf2 running refl
      refl is

  module _ (end1 end2 end3 : EndSeat) (shelf1 shelf2 shelf3 : ShelfSeat)
      (running1 running2 running3 : List (Call W F)) (begun : List ℕ)
      (so : Started end1 shelf1 running1 begun end2 shelf2 running2) where
    -- more were started
    pub Started-then : (more : List ℕ)
        → Started end2 shelf2 running2 more end3 shelf3 running3
        → Started end1 shelf1 running1 (begun ++ more) end3 shelf3 running3
    Started-then more next end0 shelf0 calls shelf_calls marks first =
        subst
        (λ l. IsCrew told faults ends shelves end0 shelf0 calls shelf_calls l end3 shelf3
        running3)
        (append_assoc marks begun more)
        (next end0 shelf0 calls shelf_calls (marks ++ begun)
        (so end0 shelf0 calls shelf_calls marks first))

    -- more were tried, and the last of them came back
    pub CameBack-then : (more : List ℕ) (back : FeedDone W F)
        → CameBack end2 shelf2 running2 more end3 shelf3 running3 back
        → CameBack end1 shelf1 running1 (begun ++ more) end3 shelf3 running3 back
    CameBack-then more back next end0 shelf0 calls shelf_calls marks first =
        subst
        (λ l. HasBack told faults ends shelves end0 shelf0 calls shelf_calls l end3 shelf3
        running3 back)
        (append_assoc marks begun more)
        (next end0 shelf0 calls shelf_calls (marks ++ begun)
        (so end0 shelf0 calls shelf_calls marks first))

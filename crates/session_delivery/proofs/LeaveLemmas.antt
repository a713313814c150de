-- What a deliverer ends with before it joins the workers that it started.
use Rattle.std.proofs.Common.{◌≡◌, ◌⊎◌, ℕ, ◌<◌, Option, Some, List, inl, inr, [], ◌++◌, map, sym, ap, ◌∙◌, subst}
use Rattle.std.specs.List.{All}
use Rattle.std.proofs.lemmas.List.{append-nil}
use Rattle.std.proofs.lemmas.List.Elements.{All-nil}
use Rattle.channel_core.specs.declared.call.EndAnswer.{EndAnswer}
use Rattle.channel_core.specs.declared.call.EndCall.{EndCall}
use Rattle.turn_lock.specs.Seats.{IsSeatOf, number_of}
use Rattle.session_run.specs.Adds.{AddsCalls, entries_by}
use Rattle.session_run.specs.declared.shelf_call.ShelfAnswer.{ShelfAnswer}
use Rattle.session_run.specs.declared.shelf_call.ShelfCall.{ShelfCall}
use Rattle.session_feeds.specs.Marks.{Told, times}
use Rattle.session_crews.specs.Crews.{IsCrew, IsOut, Joins, end_shares, marks_out, shelf_shares}
use Rattle.session_crews.specs.FeedTurns.{IsFeedPart, WasStarted}
use Rattle.session_crews.specs.Gathers.{Gathers}
use Rattle.session_crews.specs.Places.{feeders_in}
use Rattle.session_crews.specs.Seats.{EndLock, EndSeat, ShelfLock, ShelfSeat}
use Rattle.session_crews.specs.declared.crew.Crew.{Crew}
use Rattle.session_crews.specs.declared.feed_done.FeedDone.{FeedDone}
use Rattle.session_crews.specs.declared.feed_done.FromFeeder.{FromFeeder}
use Rattle.session_crews.proofs.FeedLemmas.{either-none}
use Rattle.session_crews.proofs.GathersLemmas.{Gathers-calls}
use Rattle.session_delivery.specs.Answers.{HasCrew}
use Rattle.session_delivery.specs.Delivering.{closing_deliverer, noting_deliverer}
use Rattle.session_delivery.specs.Deliveries.{own_delivery, refusals_of}
use Rattle.session_delivery.specs.declared.deliver_end.DeliverEnd.{DeliverEnd}
use Rattle.session_delivery.specs.declared.delivered.Delivered.{Delivered}
use Rattle.session_delivery.proofs.StartLemmas.{thread_end}

module _ {F : Type 0} (told : F → Told) {W : Type 0} (faults : W → ℕ) (ends : EndLock)
    (shelves : ShelfLock) (end0 : EndSeat) (shelf0 : ShelfSeat)
    (calls : List (EndCall × EndAnswer)) (shelf_calls : List (ShelfCall × ShelfAnswer))
    (marks : List ℕ) (crew : Crew W F) where
  -- the seats of a worker are those of the locks, and those that it started are out
  pub HasCrew-lock : (answer : Delivered W F)
      → HasCrew told faults ends shelves end0 shelf0 calls shelf_calls marks crew answer
      → IsSeatOf ends crew.end
  HasCrew-lock Delivered.On so = so.end_lock
  HasCrew-lock (Delivered.Ends end) so = so.end_lock
  HasCrew-lock (Delivered.NoRoom left) so = so.end_lock
  HasCrew-lock (Delivered.Refused back starved left) so = so.end_lock

  pub HasCrew-shelf_lock : (answer : Delivered W F)
      → HasCrew told faults ends shelves end0 shelf0 calls shelf_calls marks crew answer
      → IsSeatOf shelves crew.shelf
  HasCrew-shelf_lock Delivered.On so = so.shelf_lock
  HasCrew-shelf_lock (Delivered.Ends end) so = so.shelf_lock
  HasCrew-shelf_lock (Delivered.NoRoom left) so = so.shelf_lock
  HasCrew-shelf_lock (Delivered.Refused back starved left) so = so.shelf_lock

  pub HasCrew-out : (answer : Delivered W F)
      → HasCrew told faults ends shelves end0 shelf0 calls shelf_calls marks crew answer
      → All (IsOut told faults ends shelves) crew.running.items
  HasCrew-out Delivered.On so = so.out
  HasCrew-out (Delivered.Ends end) so = so.out
  HasCrew-out (Delivered.NoRoom left) so = so.out
  HasCrew-out (Delivered.Refused back starved left) so = so.out

  -- no start was refused
  pub HasCrew-on : (answer : Delivered W F)
      → (answer ≡ Delivered.On) ⊎ ((end : DeliverEnd) × (answer ≡ Delivered.Ends end))
      → HasCrew told faults ends shelves end0 shelf0 calls shelf_calls marks crew answer
      → IsCrew told faults ends shelves end0 shelf0 calls shelf_calls marks crew.end crew.shelf
      crew.running.items
  HasCrew-on answer (inl on) so =
      subst (HasCrew told faults ends shelves end0 shelf0 calls shelf_calls marks crew) on so
  HasCrew-on answer (inr (end, is)) so =
      subst (HasCrew told faults ends shelves end0 shelf0 calls shelf_calls marks crew) is so

module _ {F : Type 0} (told : F → Told) {W : Type 0} (faults : W → ℕ) (end0 : EndSeat)
    (shelf0 : ShelfSeat) where
  -- its steps are made, and it closed what it had to close; those that it started are out
  pub Joins-own : (out : List (FromFeeder F)) (calls : List (EndCall × EndAnswer))
      (shelf_calls : List (ShelfCall × ShelfAnswer)) (marks : List ℕ)
      (ended shown : Option DeliverEnd) (end : EndSeat) (shelf : ShelfSeat) (done : FeedDone W F)
      → shown ≡ ended
      → Gathers end0 (entries_by (number_of end0) calls) (end_shares out) end
      → Gathers shelf0 (entries_by (number_of shelf0) shelf_calls) (shelf_shares out) shelf
      → marks_out told out ≡ marks
      → AddsCalls end (closing_deliverer shown) done.end
      → AddsCalls shelf (noting_deliverer shown) done.shelf
      → done.feeders.list ≡ []
      → done.refusals ≡ refusals_of shown
      → (ended ≡ Some DeliverEnd.NoThread → 0 < faults done.spawner)
      → Joins told faults (own_delivery end0 shelf0 calls shelf_calls marks ended) out [] done
  Joins-own out calls shelf_calls marks ended shown end shelf done is end_made shelf_made started
      closes notes none refused cause =
      let refusals = refused ∙ ap refusals_of is in record {
        fits = All-nil IsFeedPart;
        end_made =
            subst (λ l. Gathers end0 l (end_shares out) done.end)
            (sym (append-nil (entries_by (number_of end0) (calls ++ closing_deliverer ended))))
            (Gathers-calls end0 end done.end calls (closing_deliverer ended) (end_shares out)
            end_made (subst (λ o. AddsCalls end (closing_deliverer o) done.end) is closes));
        shelf_made =
            subst (λ l. Gathers shelf0 l (shelf_shares out) done.shelf)
            (sym
            (append-nil (entries_by (number_of shelf0) (shelf_calls ++ noting_deliverer ended))))
            (Gathers-calls shelf0 shelf done.shelf shelf_calls (noting_deliverer ended)
            (shelf_shares out) shelf_made
            (subst (λ o. AddsCalls shelf (noting_deliverer o) done.shelf) is notes));
        feeders = ap (λ l. map told (feeders_in l)) none;
        back = λ q. ap (λ l. times l q) (sym started);
        refusals = refusals ∙ either-none (refusals_of ended);
        ran = λ on clean. All-nil WasStarted;
        cause =
            λ wanted. cause
            (thread_end ended (sym (ap (λ r. r.no_thread) refusals) ∙ wanted));
      }

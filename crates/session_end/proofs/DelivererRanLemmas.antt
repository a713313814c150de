-- What is known of the deliverer once its start and its join are known.
use Rattle.std.proofs.Common.{◌≡◌, ℕ, zero, suc, ◌≤◌, ◌<◌, Bool, true, false, Option, None, List, [], sym, ap, ◌∙◌, subst, arith}
use Rattle.chan_io.specs.Faults.{Merges, Rises}
use Rattle.session_feeds.specs.Sessions.{Account}
use Rattle.session_feeds.specs.declared.session.SessionFault.{SessionFault}
use Rattle.session_crews.specs.Crews.{has_stopped}
use Rattle.session_crews.specs.Gathers.{Gathers}
use Rattle.session_crews.specs.Parts.{entries_in}
use Rattle.session_crews.specs.Seats.{EndSeat, ShelfSeat}
use Rattle.session_crews.specs.declared.feed_end.Refusals.{Refusals}
use Rattle.session_delivery.specs.Deliveries.{IsDelivery, account_after, delivery_calls, delivery_shelf_calls}
use Rattle.session_delivery.specs.Delivering.{delivered_by}
use Rattle.session_delivery.specs.declared.deliver_done.DeliverDone.{DeliverDone}
use Rattle.session_delivery.specs.declared.deliver_done.FromDeliverer.{FromDeliverer}
use Rattle.session_end.specs.declared.delivering.AfterDeliverer.{AfterDeliverer}
use Rattle.session_end.specs.declared.delivering.Service.{Service}
use Rattle.session_end.specs.Ran.{DelivererRan}
use Rattle.session_end.specs.Starts.{UnlessStarted}
use Rattle.session_end.proofs.RanLemmas.{Rises-wide}

-- a count to which one that is not 0 was added has risen
rose_merged : (before n now : ℕ) → 0 < n → Merges before n now → Rises before now
rose_merged before zero now pos merges = absurd (omega arith)
rose_merged before (suc n) now pos merges = merges

module _ {S C W : Type 0} (stands : S → Account C → Type 0) (out : S → List ℕ)
    (begun : S → Bool) (refused : S → Option SessionFault) (faults : W → ℕ)
    (old : Service S) (done : DeliverDone W S) (new : AfterDeliverer S W)
    (before mid after : ℕ)
    (is : IsDelivery stands out begun refused faults old.session old.end old.shelf done)
    (first : before ≤ mid)
    (merges : Merges mid (faults done.spawner) after)
    (service_is : new.service
    ≡ record { session = done.session; end = done.end; shelf = done.shelf })
    (refusals_is : new.refusals ≡ done.refusals) (ended_is : new.ended ≡ done.ended) where
  DelivererRan-by : UnlessStarted new.started is.part.steps before after
      → (new.started ≡ false → new.ended ≡ None)
      → DelivererRan stands out begun refused old new before after
  DelivererRan-by started idle = record {
    part = is.part;
    fits = is.fits;
    number = is.number;
    shelf_number = is.shelf_number;
    ended = is.ended ∙ sym ended_is;
    end_made =
        subst
        (λ (s : Service S). Gathers old.end (entries_in (delivery_calls is.part)) [] s.end)
        (sym service_is) is.end_made;
    shelf_made =
        subst
        (λ (s : Service S).
        Gathers old.shelf (entries_in (delivery_shelf_calls is.part)) [] s.shelf)
        (sym service_is) is.shelf_made;
    account =
        λ (a : Account C) (so : stands old.session a).
        subst (λ (s : Service S). stands s.session (account_after is.part a))
        (sym service_is) (is.account a so);
    none_out = ap (λ (s : Service S). out s.session) service_is ∙ is.none_out;
    was_begun = ap (λ (s : Service S). begun s.session) service_is ∙ is.was_begun;
    was_refused =
        λ (so : (delivered_by is.part.steps).begun ≡ true).
        ap (λ (s : Service S). refused s.session) service_is ∙ is.was_refused so;
    refusals = refusals_is ∙ is.refusals;
    ran =
        λ (none : has_stopped new.refusals ≡ false).
        is.ran (ap has_stopped (sym refusals_is) ∙ none);
    cause =
        λ (wanted : new.refusals.no_thread ≡ true).
        Rises-wide before mid after after first
        (rose_merged mid (faults done.spawner) after
        (is.cause (ap (λ (r : Refusals). r.no_thread) (sym refusals_is) ∙ wanted)) merges)
        (omega arith);
    started = started;
    idle = idle;
  }

  pub DelivererRan-all : new.started ≡ true
      → DelivererRan stands out begun refused old new before after
  DelivererRan-all started =
      DelivererRan-by
      (subst (λ (b : Bool). UnlessStarted b is.part.steps before after) (sym started) tt)
      (λ (not : new.started ≡ false). absurd (cc))

  pub DelivererRan-not : new.started ≡ false → done.ended ≡ None → Rises before mid
      → mid ≤ after
      → DelivererRan stands out begun refused old new before after
  DelivererRan-not started none rose last =
      DelivererRan-by
      (subst (λ (b : Bool). UnlessStarted b is.part.steps before after) (sym started) (
        (is.fits.alone (is.ended ∙ none)).0,
        Rises-wide before before mid after (omega arith) rose last,
      ))
      (λ (not : new.started ≡ false). ended_is ∙ none)

module _ {S C W : Type 0} (stands : S → Account C → Type 0) (out : S → List ℕ)
    (begun : S → Bool) (refused : S → Option SessionFault) (faults : W → ℕ) where
  -- what was promised for these is what was promised for their values
  pub IsDelivery-same : (session : S) (end : EndSeat) (shelf : ShelfSeat)
      (promise : FromDeliverer S) (done : DeliverDone W S)
      → promise.session.value ≡ session
      → promise.end.value ≡ end
      → promise.shelf.value ≡ shelf
      → IsDelivery stands out begun refused faults promise.session.value promise.end.value
      promise.shelf.value done
      → IsDelivery stands out begun refused faults session end shelf done
  IsDelivery-same session end shelf promise done same_session same_end same_shelf is =
      subst (λ (s : S). IsDelivery stands out begun refused faults s end shelf done)
      same_session
      (subst
      (λ (s : EndSeat).
      IsDelivery stands out begun refused faults promise.session.value s shelf done)
      same_end
      (subst
      (λ (s : ShelfSeat).
      IsDelivery stands out begun refused faults promise.session.value promise.end.value s done)
      same_shelf is))

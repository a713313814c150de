-- All that the deliverer did, with the workers of feeders that it started.
use Rattle.std.specs.Prelude.{◌≡◌, ◌<◌, Bool, true, false, Option, Some, None, ℕ, List, [], ◌∷◌, ◌++◌, map}
use Rattle.std.specs.List.{All, flat_map}
use Rattle.chan_io.specs.Calls.{IsCallOf}
use Rattle.chan_io.specs.declared.running_call.RunningCall.{RunningCall}
use Rattle.channel_core.specs.declared.call.EndAnswer.{EndAnswer}
use Rattle.channel_core.specs.declared.call.EndCall.{EndCall}
use Rattle.turn_lock.specs.Runs.{AllFit}
use Rattle.turn_lock.specs.Seats.{number_of}
use Rattle.session_run.specs.declared.shelf_call.ShelfAnswer.{ShelfAnswer}
use Rattle.session_run.specs.declared.shelf_call.ShelfCall.{ShelfCall}
use Rattle.session_feeds.specs.Marks.{ComesBack, times}
use Rattle.session_feeds.specs.Sessions.{Account}
use Rattle.session_feeds.specs.declared.feeder.Came.{Came}
use Rattle.session_feeds.specs.declared.session.SessionFault.{SessionFault}
use Rattle.session_crews.specs.Crews.{Own, has_stopped}
use Rattle.session_crews.specs.FeedTurns.{FeedPart, IsFeedPart, WasStarted, either, no_refusals, part_calls, part_shelf_calls, part_told, refusals_in}
use Rattle.session_crews.specs.Gathers.{Gathers}
use Rattle.session_crews.specs.Parts.{entries_in}
use Rattle.session_crews.specs.Seats.{EndSeat, ShelfSeat}
use Rattle.session_crews.specs.declared.feed_end.Refusals.{Refusals}
use Rattle.session_delivery.specs.declared.deliver_done.DeliverDone.{DeliverDone}
use Rattle.session_delivery.specs.declared.deliver_done.FromDeliverer.{FromDeliverer}
use Rattle.session_delivery.specs.declared.deliver_end.DeliverEnd.{DeliverEnd}
use Rattle.session_delivery.specs.Delivering.{DeliverStep, MayDeliver, at_first_delivery, begun_in, closing_deliverer, deliver_after, delivered_by, items_in, left_in, noting_deliverer, parcels_in, step_calls, step_shelf_calls}

-- the refusals of memory and of threads with which a deliverer ends
abbrev pub refusals_of : Option DeliverEnd → Refusals
refusals_of (Some DeliverEnd.NoMemory) =
    record { no_memory = true; failed = false; no_thread = false }
refusals_of (Some DeliverEnd.NoThread) =
    record { no_memory = false; failed = false; no_thread = true }
refusals_of ended = no_refusals

-- what a deliverer had at first and did itself that ended so
abbrev pub own_delivery : EndSeat → ShelfSeat → List (EndCall × EndAnswer)
    → List (ShelfCall × ShelfAnswer) → List ℕ → Option DeliverEnd → Own
own_delivery end0 shelf0 calls shelf_calls marks ended = record {
  end = end0;
  shelf = shelf0;
  end_calls = calls ++ closing_deliverer ended;
  shelf_calls = shelf_calls ++ noting_deliverer ended;
  marks = times marks;
  refusals = refusals_of ended;
}

-- what the deliverer did, and the workers of feeders
pub record DelivererPart : Type 0 where
  -- the numbers of its seats
  pub number : ℕ
  pub shelf_number : ℕ
  pub steps : List DeliverStep
  -- how it ended; none where it was not started
  pub ended : Option DeliverEnd
  -- the workers of feeders, those that could not be started among them
  pub feeders : List FeedPart

-- the calls of the end, each part's under its number
abbrev pub delivery_calls : DelivererPart → List (ℕ × List (EndCall × EndAnswer))
delivery_calls p =
    (p.number, flat_map step_calls p.steps ++ closing_deliverer p.ended)
    ∷ map part_calls p.feeders

-- the calls of the shelf
abbrev pub delivery_shelf_calls : DelivererPart → List (ℕ × List (ShelfCall × ShelfAnswer))
delivery_shelf_calls p =
    (p.shelf_number, flat_map step_shelf_calls p.steps ++ noting_deliverer p.ended)
    ∷ map part_shelf_calls p.feeders

-- the feeders that the session got back, each with how it came to its end: those that had workers,
-- and then those for which no start was tried
abbrev pub came_back : DelivererPart → List (ℕ × Option Came)
came_back p =
    map (λ t. (t.mark, t.came)) (map part_told p.feeders)
    ++ map (λ mark. (mark, None)) (flat_map left_in p.steps)

-- an account of the session after the run: it took the parcels, it and its feeders gave the items
abbrev pub account_after : {C : Type 0} → DelivererPart → Account C → Account C
account_after p a = record {
  contents = a.contents;
  taken = a.taken ++ flat_map parcels_in p.steps;
  given =
      (a.given ++ flat_map items_in p.steps)
      ++ flat_map (λ t. t.pieces) (map part_told p.feeders);
  back = a.back ++ came_back p;
}

-- the steps may be made, to the end; each feeder that was begun is one of the parts, and they come
-- back in an order in which each is out by then
pub record IsDelivererPart (p : DelivererPart) : Type 0 where
  pub may : AllFit deliver_after MayDeliver at_first_delivery p.steps
  pub ends : p.ended ≡ (delivered_by p.steps).ended
  pub alone : p.ended ≡ None → (p.steps ≡ []) × (p.feeders ≡ [])
  pub fits : All IsFeedPart p.feeders
  pub back :
      ComesBack (times (flat_map begun_in p.steps)) (map part_told p.feeders) (λ q. 0)

module _ {S C W : Type 0} (stands : S → Account C → Type 0) (out : S → List ℕ)
    (begun : S → Bool) (refused : S → Option SessionFault) (faults : W → ℕ) where
  -- a deliverer with this session and these seats has ended, and so have the workers of feeders; or
  -- it was not started, and did nothing
  pub record IsDelivery (session0 : S) (end0 : EndSeat) (shelf0 : ShelfSeat)
      (done : DeliverDone W S) : Type 0 where
    pub part : DelivererPart
    pub fits : IsDelivererPart part
    pub number : part.number ≡ number_of end0
    pub shelf_number : part.shelf_number ≡ number_of shelf0
    pub ended : part.ended ≡ done.ended
    -- its seats gathered the entries of the parts
    pub end_made : Gathers end0 (entries_in (delivery_calls part)) [] done.end
    pub shelf_made : Gathers shelf0 (entries_in (delivery_shelf_calls part)) [] done.shelf
    -- the session took the parcels, has its feeders back, and answered no refusal but the last
    -- step's
    pub account : (a : Account C) → stands session0 a → stands done.session (account_after part a)
    pub none_out : out done.session ≡ []
    pub was_begun : begun done.session ≡ (delivered_by part.steps).begun
    pub was_refused :
        (delivered_by part.steps).begun ≡ true
        → refused done.session ≡ (delivered_by part.steps).refused
    pub refusals : done.refusals ≡ either (refusals_of part.ended) (refusals_in part.feeders)
    -- each worker was started, unless memory or a thread was wanted
    pub ran : has_stopped done.refusals ≡ false → All WasStarted part.feeders
    -- the spawner's count is not 0 where a worker could not be started for want of a thread
    pub cause : done.refusals.no_thread ≡ true → 0 < faults done.spawner

  -- a call was started with this session and these seats
  pub record IsDelivererStart (session0 : S) (end0 : EndSeat) (shelf0 : ShelfSeat)
      (call : RunningCall (DeliverDone W S) (FromDeliverer S)) : Type 0 where
    pub promise : FromDeliverer S
    pub is_call :
        IsCallOf
        (λ (p : FromDeliverer S) (done : DeliverDone W S).
        IsDelivery p.session.value p.end.value p.shelf.value done)
        promise call
    pub end : promise.end.value ≡ end0
    pub shelf : promise.shelf.value ≡ shelf0
    pub session : promise.session.value ≡ session0

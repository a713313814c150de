-- A step of the deliverer, and all of them so far: what it has before and after.
use Rattle.std.specs.Prelude.{◌≡◌, ◌+◌, Bool, true, false, ◌||◌, Option, None, ℕ, List, ◌++◌}
use Rattle.std.specs.List.{All, flat_map, fold}
use Rattle.turn_lock.specs.Runs.{AllFit}
use Rattle.session_feeds.specs.Marks.{IsNew, Told, times}
use Rattle.session_feeds.specs.Puts.{stopped_by, trial_calls}
use Rattle.session_feeds.specs.Sessions.{Account, Gives}
use Rattle.session_feeds.specs.declared.session.SessionFault.{SessionFault}
use Rattle.session_feeds.specs.declared.session.Verdict.{Verdict}
use Rattle.session_crews.specs.Seats.{EndLock, EndSeat, ShelfLock, ShelfSeat}
use Rattle.session_delivery.specs.declared.deliver_end.DeliverEnd.{DeliverEnd}
use Rattle.session_delivery.specs.declared.delivered.Delivered.{Delivered}
use Rattle.session_delivery.specs.declared.deliverer.Deliverer.{Deliverer}
use Rattle.session_delivery.specs.Answers.{CrewGoes, HasCrew, HasStartCause, ended_by, feeders_left, marks_of}
use Rattle.session_delivery.specs.Delivering.{DeliverState, DeliverStep, IsPut, MayDeliver, Treated, at_first_delivery, begun_in, deliver_after, delivered_by, finishing, items_in, left_in, parcels_in, step_calls, step_shelf_calls}
use Rattle.session_delivery.specs.Starts.{end_of_starts, marks_begun, marks_left}

-- what counts of the steps of a deliverer that met this refusal and ended so
abbrev pub state_of : {W S F : Type 0} → Deliverer W S F → Option SessionFault
    → Option DeliverEnd → DeliverState
state_of d refused ended = record {
  begun = d.begun;
  may_take = d.may_take;
  closed = d.closed;
  stopped = d.stopped;
  refused = refused;
  ended = ended;
}

module _ {S F W : Type 0} (told : F → Told) (faults : W → ℕ) (ends : EndLock)
    (shelves : ShelfLock) where
  -- the verdict was carried out: its items put in, its finish noted, its feeders started
  pub record Treats (old : Deliverer W S F) (verdict : Verdict F) (t : Treated)
      (new : Deliverer W S F) (answer : Delivered W F) : Type 0 where
    pub puts : t.puts ≡ verdict.puts
    pub last : t.last ≡ verdict.last
    pub finish : t.finish ≡ verdict.finish
    pub is_put : IsPut old.stopped t
    pub stopped : new.stopped ≡ (old.stopped || fold stopped_by false t.trials)
    pub session : new.session ≡ old.session
    pub begun : new.begun ≡ old.begun
    pub may_take : new.may_take ≡ old.may_take
    pub closed : new.closed ≡ old.closed
    pub marks : marks_of told verdict.feeders.items ≡ marks_begun t.starts ++ marks_left t.starts
    pub ended : ended_by answer ≡ end_of_starts t.starts
    pub left : marks_of told (feeders_left answer) ≡ marks_left t.starts
    pub fresh : All (λ f. IsNew (told f)) (feeders_left answer)
    pub crew :
        CrewGoes told faults ends shelves old.crew (flat_map trial_calls t.trials)
        (finishing t.finish) (marks_begun t.starts) new.crew answer
    pub cause : HasStartCause (faults new.crew.spawner) answer

  module _ {C : Type 0} (stands : S → Account C → Type 0) (out : S → List ℕ) (begun : S → Bool)
      (refused : S → Option SessionFault) where
    -- the deliverer made this step: what it asked of the session, of the end and of the shelf
    pub record Delivers (old : Deliverer W S F) (step : DeliverStep) (new : Deliverer W S F)
        (answer : Delivered W F) : Type 0 where
      pub may : MayDeliver (state_of old None None) step
      pub state :
          state_of new (refused new.session) (ended_by answer)
          ≡ deliver_after (state_of old None None) step
      pub was_begun : begun new.session ≡ true
      pub account :
          Gives (stands old.session) (parcels_in step) (items_in step) (stands new.session)
      pub is_out : out new.session ≡ out old.session ++ (begun_in step ++ left_in step)
      pub left : marks_of told (feeders_left answer) ≡ left_in step
      pub fresh : All (λ f. IsNew (told f)) (feeders_left answer)
      pub crew :
          CrewGoes told faults ends shelves old.crew (step_calls step) (step_shelf_calls step)
          (begun_in step) new.crew answer
      pub cause : HasStartCause (faults new.crew.spawner) answer

    -- a deliverer that began with this session and these seats made these steps
    pub record Serving (session0 : S) (end0 : EndSeat) (shelf0 : ShelfSeat)
        (steps : List DeliverStep) (d : Deliverer W S F) (answer : Delivered W F)
        : Type 0 where
      pub may : AllFit deliver_after MayDeliver at_first_delivery steps
      pub state :
          state_of d (delivered_by steps).refused (ended_by answer) ≡ delivered_by steps
      pub on : ended_by answer ≡ None → (delivered_by steps).refused ≡ None
      pub was_begun : begun d.session ≡ d.begun
      pub was_refused : d.begun ≡ true → refused d.session ≡ (delivered_by steps).refused
      pub account :
          Gives (stands session0) (flat_map parcels_in steps) (flat_map items_in steps)
          (stands d.session)
      pub is_out :
          (q : ℕ)
          → times (out d.session) q
          ≡ times (flat_map begun_in steps) q + times (flat_map left_in steps) q
      pub left : marks_of told (feeders_left answer) ≡ flat_map left_in steps
      pub fresh : All (λ f. IsNew (told f)) (feeders_left answer)
      pub crew :
          HasCrew told faults ends shelves end0 shelf0 (flat_map step_calls steps)
          (flat_map step_shelf_calls steps) (flat_map begun_in steps) d.crew answer
      pub cause : HasStartCause (faults d.crew.spawner) answer

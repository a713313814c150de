-- A run's outcome has its cause.
use Rattle.std.proofs.Common.{◌≡◌, ◌⊎◌, inl, inr, ℕ, Bool, true, false, Option, Some, None, List, [], ◌∷◌, ◌++◌, refl, sym, ap, ◌∙◌}
use Rattle.std.specs.Prelude.{◌&&◌, ◌||◌, not, is_some, if◌then◌else◌}
use Rattle.std.specs.List.{fold}
use Rattle.chan_io.specs.Faults.{Rises}
use Rattle.chan_values.specs.declared.side.Side.{Side}
use Rattle.channel_core.specs.Numbers.{or_else}
use Rattle.channel_core.specs.declared.call.EndAnswer.{EndAnswer}
use Rattle.channel_core.specs.declared.call.EndCall.{EndCall}
use Rattle.turn_lock.specs.Histories.{calls_of, entry}
use Rattle.turn_lock.specs.Runs.{AllFit}
use Rattle.turn_lock.specs.declared.view.Entry.{Entry}
use Rattle.session_run.specs.Held.{IsLegalFor}
use Rattle.session_run.specs.declared.shelf_call.ShelfAnswer.{ShelfAnswer}
use Rattle.session_run.specs.declared.shelf_call.ShelfCall.{ShelfCall}
use Rattle.session_workers.specs.declared.link_setting.LinkSetting.{LinkSetting}
use Rattle.session_workers.specs.declared.read_state.ReadEnd.{ReadEnd}
use Rattle.session_workers.specs.ReaderLaws.{AreSteps}
use Rattle.session_workers.specs.WriterRuns.{MayTurn, at_first, progress}
use Rattle.session_workers.proofs.ReaderLawLemmas.{lost_by_six}
use Rattle.session_feeds.specs.declared.session.SessionFault.{SessionFault}
use Rattle.session_crews.specs.FeedTurns.{refusals_in}
use Rattle.session_delivery.specs.Delivering.{delivered_by}
use Rattle.session_delivery.specs.Deliveries.{IsDelivererPart, refusals_of}
use Rattle.session_delivery.specs.declared.deliver_end.DeliverEnd.{DeliverEnd}
use Rattle.session_end.specs.declared.ends.Ends.{Ends}
use Rattle.session_end.specs.declared.outcome.Outcome.{Outcome}
use Rattle.session_end.specs.Causes.{GaveUp, HasCause, IsQuietEnd}
use Rattle.session_end.specs.Deeds.{Deeds, end_parts, ends_of, outcome_by, read_end, shelf_parts}
use Rattle.session_end.specs.Leftovers.{IsLeft, end_with, left_by}
use Rattle.session_end.specs.Outcomes.{all_started, is_deliverer_starved, is_reader_starved, is_starved, is_writer_starved, outcome_given, outcome_left, outcome_read, outcome_served}
use Rattle.session_end.specs.Parts.{IsMadeOf}
use Rattle.session_end.specs.Ran.{IsEndedBy}
use Rattle.session_end.specs.Refusals.{refusals_by}
use Rattle.session_end.specs.Starts.{UnlessStarted}
use Rattle.session_end.specs.WorkerParts.{resent_by}
use Rattle.session_end.proofs.EndedLemmas.{ended_is_heard}
use Rattle.session_end.proofs.FeederEndLemmas.{AreUnrefused, AreUnrefused-of, HasFailed-of}
use Rattle.session_end.proofs.GivenLemmas.{GaveUp-of}
use Rattle.session_end.proofs.HistoryLemmas.{none_or, or_cases}
use Rattle.session_end.proofs.OutcomeLemmas.{ReadsOn, ServesOn, and_false, and_true, deliverer_closed, fault_is_refused, none_failed, not_false_true, not_true_false, reader_closed, writer_closed}
use Rattle.session_end.proofs.QuietLemmas.{none_shelf_wanting, none_wanting}
use Rattle.session_end.proofs.ReaderEndLemmas.{refused_is_replied}

-- a worker that was not started raised the count
rose_by : {X : Type 0} (b : Bool) (done : List X) (x y : ℕ) → UnlessStarted b done x y → b ≡ false
    → Rises x y
rose_by true done x y s is = absurd (cc)
rose_by false done x y s is = s.1

module _ (setting : LinkSetting) (side : Side) (token : List ℕ) (d : Deeds) (w : ℕ)
    (h : List (Entry EndCall EndAnswer)) (k : List (Entry ShelfCall ShelfAnswer))
    (spawned new_spawned : ℕ) (refusal : Option SessionFault) (agreed : Bool)
    (steps : AreSteps setting token d.steps)
    (turns : AllFit (progress side) (MayTurn side) (at_first 0) d.turns)
    (ended : IsEndedBy d.written (fold (progress side) (at_first 0) d.turns))
    (read_started : UnlessStarted (is_some (read_end token d)) d.steps spawned new_spawned)
    (write_started : UnlessStarted (is_some d.written) d.turns spawned new_spawned)
    (resend_started : UnlessStarted (resent_by d.ticks).over d.ticks spawned new_spawned)
    (serve_started : UnlessStarted d.started d.delivery.steps spawned new_spawned)
    (fits : IsDelivererPart d.delivery)
    (thread : (refusals_by d.delivery).no_thread ≡ true → Rises spawned new_spawned)
    (is_left : IsLeft d.delivery.ended d.left)
    (refusal_is : (delivered_by d.delivery.steps).begun ≡ true
    → refusal ≡ or_else (left_by d.left).refused (delivered_by d.delivery.steps).refused)
    (legal : IsLegalFor w (calls_of h))
    (last : (earlier : List (Entry EndCall EndAnswer))
    × (h ≡ earlier ++ entry d.main EndCall.Close EndAnswer.Done ∷ []))
    (made : IsMadeOf h (end_parts token d)) (shelf_made : IsMadeOf k (shelf_parts d)) where
  -- how the workers ended
  abbrev its_ends : Ends
  its_ends = ends_of token d agreed

  abbrev Cause : Outcome → Type 0
  Cause = HasCause token d h k spawned new_spawned refusal agreed

  abbrev delivered : Option DeliverEnd
  delivered = end_with (left_by d.left).refused d.delivery.ended

  -- ---- a start that failed

  rose_from : ((is_some d.written && (resent_by d.ticks).over) ≡ false)
      ⊎ ((is_some (read_end token d) && d.started) ≡ false)
      → Rises spawned new_spawned
  rose_from (inl links) =
      elim (and_false (is_some d.written) (resent_by d.ticks).over links) [
        | inl a ↦ rose_by (is_some d.written) d.turns spawned new_spawned write_started a
        | inr b ↦ rose_by (resent_by d.ticks).over d.ticks spawned new_spawned resend_started b
      ]
  rose_from (inr others) =
      elim (and_false (is_some (read_end token d)) d.started others) [
        | inl a ↦ rose_by (is_some (read_end token d)) d.steps spawned new_spawned read_started a
        | inr b ↦ rose_by d.started d.delivery.steps spawned new_spawned serve_started b
      ]

  rose : ((refusals_by d.delivery).no_thread ≡ true) ⊎ (not (all_started its_ends) ≡ true)
      → Rises spawned new_spawned
  rose (inl wanted) = thread wanted
  rose (inr some) =
      rose_from
      (and_false (is_some d.written && (resent_by d.ticks).over)
      (is_some (read_end token d) && d.started)
      (not_true_false (all_started its_ends) some))

  -- ---- no refusal

  module _ (fed : is_starved its_ends ≡ false) (reads : ReadsOn (read_end token d))
      (none_given : (resent_by d.ticks).gave_up ≡ None) (serves : ServesOn delivered)
      (none_lost : (refusals_by d.delivery).failed ≡ false)
      (threads : (refusals_by d.delivery).no_thread ≡ false)
      (all : all_started its_ends ≡ true) where
    quiet : IsQuietEnd h k
    quiet =
        let f =
        none_or (is_writer_starved d.written)
        (is_reader_starved (read_end token d)
        || ((refusals_by d.delivery).no_memory || is_deliverer_starved d.started delivered))
        fed in
        let g =
        none_or (is_reader_starved (read_end token d))
        ((refusals_by d.delivery).no_memory || is_deliverer_starved d.started delivered)
        f.1 in
        let m =
        none_or (refusals_by d.delivery).no_memory
        (is_deliverer_starved d.started delivered) g.1 in
        let both =
        and_true (is_some d.written && (resent_by d.ticks).over)
        (is_some (read_end token d) && d.started) all in
        let links = and_true (is_some d.written) (resent_by d.ticks).over both.0 in
        let others = and_true (is_some (read_end token d)) d.started both.1 in
        let memory =
        none_or (refusals_of d.delivery.ended).no_memory
        (refusals_in d.delivery.feeders).no_memory m.0 in
        let failed =
        none_or (refusals_of d.delivery.ended).failed
        (refusals_in d.delivery.feeders).failed none_lost in
        let thread_none =
        none_or (refusals_of d.delivery.ended).no_thread
        (refusals_in d.delivery.feeders).no_thread threads in
        let written = writer_closed d.written f.0 links.0 in
        let read = reader_closed (read_end token d) reads g.0 others.0 in
        let closed =
        deliverer_closed d.started (left_by d.left).refused d.delivery.ended others.1 serves
        m.1 thread_none.0 in
        let unrefused : AreUnrefused d.delivery.feeders =
        AreUnrefused-of d.delivery.feeders memory.1 failed.1 thread_none.1 in
        record {
          heard =
              ended_is_heard token d w h last.0 last.1 legal made written read links.1 closed
              unrefused (GaveUp-of token d h None made none_given);
          end_memory =
              none_wanting setting side token d h k steps turns ended made shelf_made fits
              unrefused written read;
          shelf_memory =
              none_shelf_wanting setting side token d h k steps turns ended made shelf_made fits
              unrefused written read;
        }

    agreed_by : (b : Bool) → agreed ≡ b
        → Cause (if b then Outcome.Ended else Outcome.Unagreed)
    agreed_by true is = (quiet, is)
    agreed_by false is = (quiet, is)

  -- ---- the outcome, refusal by refusal

  left_cause : is_starved its_ends ≡ false → ReadsOn (read_end token d)
      → (resent_by d.ticks).gave_up ≡ None
      → ServesOn delivered
      → Cause (outcome_left its_ends)
  left_cause fed reads none_given serves =
      failed_by (refusals_by d.delivery).failed refl
    where
      threads_by : (b : Bool) → (refusals_by d.delivery).failed ≡ false
          → ((refusals_by d.delivery).no_thread || not (all_started its_ends)) ≡ b
          → Cause
          (if b then Outcome.NoThread
          else if agreed then Outcome.Ended else Outcome.Unagreed)
      threads_by true none_lost is =
          rose (or_cases (refusals_by d.delivery).no_thread (not (all_started its_ends)) is)
      threads_by false none_lost is =
          let none =
          none_or (refusals_by d.delivery).no_thread (not (all_started its_ends)) is in
          agreed_by fed reads none_given serves none_lost none.0
          (not_false_true (all_started its_ends) none.1) agreed refl

      failed_by : (b : Bool) → (refusals_by d.delivery).failed ≡ b
          → Cause
          (if b then Outcome.FeedFault
          else if (refusals_by d.delivery).no_thread || not (all_started its_ends)
          then Outcome.NoThread
          else if agreed then Outcome.Ended else Outcome.Unagreed)
      failed_by true is =
          HasFailed-of d.delivery.feeders fits.fits
          (sym (ap (λ (b : Bool). b || (refusals_in d.delivery.feeders).failed)
          (none_failed d.delivery.ended))
          ∙ is)
      failed_by false is =
          threads_by ((refusals_by d.delivery).no_thread || not (all_started its_ends)) is refl

  served_by : (e : Option DeliverEnd) → delivered ≡ e
      → (ServesOn e → Cause (outcome_left its_ends))
      → Cause (outcome_served e (outcome_left its_ends))
  served_by None is more = more tt
  served_by (Some DeliverEnd.Closed) is more = more tt
  served_by (Some (DeliverEnd.Fault fault)) is more =
      fault_is_refused d.delivery d.left refusal fits is_left.served refusal_is fault is
  served_by (Some DeliverEnd.NoMemory) is more = more tt
  served_by (Some DeliverEnd.NoThread) is more = more tt

  given_by : (g : Option ℕ) (later : Outcome) → (resent_by d.ticks).gave_up ≡ g
      → (g ≡ None → Cause later)
      → Cause (outcome_given g later)
  given_by (Some n) later is more = GaveUp-of token d h (Some n) made is
  given_by None later is more = more refl

  read_by : (r : Option ReadEnd) (later : Outcome) → read_end token d ≡ r
      → (ReadsOn r → Cause later)
      → Cause (outcome_read r later)
  read_by None later is more = more tt
  read_by (Some ReadEnd.Closed) later is more = more tt
  read_by (Some ReadEnd.NoMemory) later is more = more tt
  read_by (Some (ReadEnd.Refused reply)) later is more =
      refused_is_replied setting token d.steps reply steps is
  read_by (Some ReadEnd.LinkLost) later is more = lost_by_six setting token d.steps steps is

  abbrev later_outcome : Outcome
  later_outcome =
      outcome_given (resent_by d.ticks).gave_up
      (outcome_served delivered (outcome_left its_ends))

  cause_by : (b : Bool) → is_starved its_ends ≡ b
      → Cause
      (if b then Outcome.NoMemory else outcome_read (read_end token d) later_outcome)
  cause_by true is = tt
  cause_by false is =
      read_by (read_end token d) later_outcome refl
      (λ reads. given_by (resent_by d.ticks).gave_up
      (outcome_served delivered (outcome_left its_ends)) refl
      (λ none. served_by delivered refl
      (λ serves. left_cause is reads none serves)))

  -- the outcome has its cause
  pub HasCause-of : Cause (outcome_by token d agreed)
  HasCause-of = cause_by (is_starved its_ends) refl

  -- the number given up is one that the end gave up
  pub given_of : GaveUp (resent_by d.ticks).gave_up h
  given_of = GaveUp-of token d h (resent_by d.ticks).gave_up made refl

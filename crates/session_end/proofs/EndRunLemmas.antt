-- A run is what its workers did, and what its two seats saw at last.
use Rattle.std.proofs.Common.{◌≡◌, ◌<◌, ℕ, Bool, true, false, Option, List, [], ◌∷◌, ◌++◌, refl, sym, ap, ◌∙◌, subst}
use Rattle.std.specs.List.{flat_map}
use Rattle.chan_io.specs.LinksIn.{Arrivals}
use Rattle.chan_io.specs.LinksOut.{Departures}
use Rattle.chan_io.specs.declared.dial.Dial.{Dial}
use Rattle.chan_io.specs.declared.link.Link.{Link}
use Rattle.channel_core.specs.Numbers.{or_else}
use Rattle.channel_core.specs.declared.call.EndAnswer.{EndAnswer}
use Rattle.channel_core.specs.declared.call.EndCall.{EndCall}
use Rattle.turn_lock.specs.Histories.{calls_of}
use Rattle.turn_lock.specs.Seats.{number_of}
use Rattle.turn_lock.specs.declared.view.Entry.{Entry}
use Rattle.session_run.specs.Held.{IsLegalFor}
use Rattle.session_run.specs.declared.shelf_call.ShelfAnswer.{ShelfAnswer}
use Rattle.session_run.specs.declared.shelf_call.ShelfCall.{ShelfCall}
use Rattle.session_workers.specs.declared.read_state.ReadEnd.{ReadEnd}
use Rattle.session_workers.specs.ReaderRuns.{reader_closing}
use Rattle.session_workers.specs.ReaderSteps.{first_state}
use Rattle.session_workers.specs.Reading.{reader_calls}
use Rattle.session_workers.specs.Resends.{resend_calls}
use Rattle.session_workers.specs.Writing.{end_calls}
use Rattle.session_feeds.specs.Sessions.{Account}
use Rattle.session_feeds.specs.declared.session.SessionFault.{SessionFault}
use Rattle.session_crews.specs.Crews.{has_stopped}
use Rattle.session_crews.specs.declared.feed_end.Refusals.{Refusals}
use Rattle.session_delivery.specs.Deliveries.{account_after}
use Rattle.session_delivery.specs.Delivering.{delivered_by}
use Rattle.session_delivery.specs.declared.deliver_end.DeliverEnd.{DeliverEnd}
use Rattle.session_end.specs.declared.crew.Joined.{Joined}
use Rattle.session_end.specs.declared.outcome.Outcome.{Outcome}
use Rattle.session_end.specs.declared.plan.Plan.{Plan}
use Rattle.session_end.specs.declared.seats.EndSeats.{EndSeats}
use Rattle.session_end.specs.declared.seats.ShelfSeats.{ShelfSeats}
use Rattle.session_end.specs.declared.setup.Setup.{Setup}
use Rattle.session_end.specs.Causes.{HasCause}
use Rattle.session_end.specs.Closings.{IsClosing}
use Rattle.session_end.specs.Crews.{CrewRan, crew_of}
use Rattle.session_end.specs.Deeds.{Deeds, early_closes, end_parts, outcome_by, read_end, served_calls, shelf_parts}
use Rattle.session_end.specs.EndRuns.{IsEndRun}
use Rattle.session_end.specs.Leftovers.{IsLeft, end_with, left_by}
use Rattle.session_end.specs.Outcomes.{outcome_of}
use Rattle.session_end.specs.Parts.{IsMadeOf}
use Rattle.session_end.specs.Plans.{IsPlanOf}
use Rattle.session_end.specs.Ran.{closing_of}
use Rattle.session_end.specs.Refusals.{refusals_by}
use Rattle.session_end.specs.Seats.{IsSplitInFive, IsSplitInFour}
use Rattle.session_end.specs.Settling.{ends_after, link_after, seats_after, shelf_seats_after}
use Rattle.session_end.specs.Setups.{first_token, setting_of}
use Rattle.session_end.specs.Starts.{UnlessStarted, closing}
use Rattle.session_end.specs.WorkerParts.{SessionPart, resent_by}
use Rattle.session_end.proofs.CauseLemmas.{HasCause-of, given_of}
use Rattle.session_end.proofs.PartLemmas.{ReaderPart-of, ResenderPart-of, WriterPart-of, gave_up-is, read_end-is, resent_over-is}
use Rattle.session_end.proofs.RunSeatLemmas.{closed_last, closed_made, closed_setting, closed_shelf_made}

module _ {D N U S C W : Type 0} (dials_of : D → Option (List Dial)) (dial_faults : D → ℕ)
    (arrivals_of : N → Option Arrivals) (faults : N → ℕ) (departures : U → Option Departures)
    (send_faults : U → ℕ) (stands : S → Account C → Type 0) (out : S → List ℕ)
    (begun : S → Bool) (refused : S → Option SessionFault)
    (setup : Setup) (base : List ℕ) (plan : Plan) (link : Link D N U) (session : S)
    (seats : EndSeats) (shelf_seats : ShelfSeats) (joined : Joined D N U S W)
    (spawned new_spawned : ℕ)
    (is : IsPlanOf setup base plan)
    (split : IsSplitInFive plan.main seats.main seats.reader seats.writer seats.resender
    seats.deliverer)
    (shelf_split : IsSplitInFour plan.shelf_main shelf_seats.main shelf_seats.reader
    shelf_seats.writer shelf_seats.deliverer)
    (ran : CrewRan dials_of dial_faults arrivals_of faults departures send_faults stands out begun
    refused (crew_of plan.setting plan.token link session seats shelf_seats) joined spawned
    new_spawned) where
  -- what the workers did
  abbrev pub deeds_of : Deeds
  deeds_of = record {
    main = number_of plan.main;
    reader = number_of seats.reader;
    writer = number_of seats.writer;
    resender = number_of seats.resender;
    shelf_reader = number_of shelf_seats.reader;
    shelf_writer = number_of shelf_seats.writer;
    steps = ran.read.steps;
    turns = ran.wrote.turns;
    written = joined.written;
    ticks = ran.resent.turns;
    delivery = ran.served.part;
    started = joined.started;
    left = ran.leaves.steps;
  }

  over_is : joined.reader.state.over ≡ read_end (first_token setup) deeds_of
  over_is =
      read_end-is dials_of dial_faults arrivals_of faults (setting_of setup base)
      (first_token setup) (crew_of plan.setting plan.token link session seats shelf_seats).reader
      joined.reader spawned new_spawned ran.read is.setting (ap first_state is.token)

  resent_is : joined.resender.over ≡ (resent_by ran.resent.turns).over
  resent_is =
      resent_over-is (record { end = seats.resender; over = false }) joined.resender
      joined.gave_up spawned new_spawned ran.resent

  given_is : joined.gave_up ≡ (resent_by ran.resent.turns).gave_up
  given_is =
      gave_up-is (record { end = seats.resender; over = false }) joined.resender joined.gave_up
      spawned new_spawned ran.resent

  ended_is : joined.ended ≡ ran.served.part.ended
  ended_is = ran.ended ∙ sym ran.served.ended

  refusals_is : joined.refusals ≡ refusals_by ran.served.part
  refusals_is = ran.refusals ∙ ran.served.refusals

  -- what the deliverer did with the session, and what was done behind the join
  pub SessionPart-of :
      SessionPart stands out refused ran.served.part joined.started ran.leaves.steps session
      joined.service.session spawned new_spawned
  SessionPart-of = record {
    fits = ran.served.fits;
    started =
        subst
        (λ (b : Bool). UnlessStarted b ran.served.part.steps spawned new_spawned)
        (sym ran.started) ran.served.started;
    idle =
        λ (not : joined.started ≡ false).
        ran.served.ended ∙ ran.served.idle (sym ran.started ∙ not);
    ran =
        λ (none : has_stopped (refusals_by ran.served.part) ≡ false).
        ran.served.ran (ap has_stopped ran.served.refusals ∙ none);
    cause =
        λ (wanted : (refusals_by ran.served.part).no_thread ≡ true).
        ran.served.cause (ap (λ (r : Refusals). r.no_thread) ran.served.refusals ∙ wanted);
    left =
        subst (λ (e : Option DeliverEnd). IsLeft e ran.leaves.steps) (sym ran.served.ended)
        ran.leaves.left;
    account =
        λ (a : Account C) (so : stands session a).
        ran.leaves.account (account_after ran.served.part a) (ran.served.account a so);
    none_out = ran.leaves.none_out;
    refusal =
        λ (so : (delivered_by ran.served.part.steps).begun ≡ true).
        ran.leaves.was_refused
        ∙ ap (or_else (left_by ran.leaves.steps).refused) (ran.served.was_refused so);
  }

  -- the parts as the seats have them
  abbrev parts_with : Bool → Option ReadEnd → Option DeliverEnd
      → List (ℕ × List (EndCall × EndAnswer))
  parts_with resent read ended =
      (number_of plan.main, early_closes joined.written resent read ended)
      ∷ (number_of seats.reader, flat_map reader_calls ran.read.steps ++ reader_closing read)
      ∷ (number_of seats.writer, flat_map end_calls ran.wrote.turns ++ closing_of joined.written)
      ∷ (number_of seats.resender, flat_map resend_calls ran.resent.turns)
      ∷ (served_calls deeds_of ++ (number_of plan.main, closing ∷ []) ∷ [])

  -- how the workers ended is what they did
  outcome_is : (agreed : Bool)
      → outcome_of (ends_after joined agreed) ≡ outcome_by (first_token setup) deeds_of agreed
  outcome_is agreed =
      λ i. outcome_of
      (record {
        writer = joined.written;
        reader = over_is i;
        resent = resent_is i;
        gave_up = given_is i;
        started = joined.started;
        delivered = end_with (ran.leaves.refusal i) (ended_is i);
        refusals = refusals_is i;
        agreed = agreed;
      })

  pub IsEndRun-of : (agreed : S → Bool) (h : List (Entry EndCall EndAnswer))
      (k : List (Entry ShelfCall ShelfAnswer))
      → IsClosing (seats_after joined) (shelf_seats_after joined shelf_seats.main) h k
      → IsEndRun dials_of dial_faults arrivals_of faults departures send_faults stands out
      refused agreed setup base link (link_after joined) session joined.service.session spawned
      new_spawned h k
      (outcome_of (ends_after joined (agreed joined.service.session)))
  IsEndRun-of agreed h k closed =
      let token : List ℕ = first_token setup in
      let crew = crew_of plan.setting plan.token link session seats shelf_seats in
      let agrees : Bool = agreed joined.service.session in
      let refusal : Option SessionFault = refused joined.service.session in
      let read =
      ReaderPart-of dials_of dial_faults arrivals_of faults (setting_of setup base) token
      crew.reader joined.reader spawned new_spawned ran.read is.setting
      (ap first_state is.token) in
      let wrote =
      WriterPart-of departures send_faults setup.side crew.writer joined.writer
      joined.written spawned new_spawned ran.wrote (ap (λ s. s.side) is.setting) refl in
      let resent =
      ResenderPart-of crew.resender joined.resender joined.gave_up spawned new_spawned
      ran.resent in
      let served = SessionPart-of in
      let legal : IsLegalFor setup.window (calls_of h) =
      subst (λ (w : ℕ). IsLegalFor w (calls_of h))
      (closed_setting dials_of dial_faults arrivals_of faults departures send_faults stands
      out begun refused setup base plan link session seats shelf_seats joined spawned
      new_spawned is split shelf_split ran h k closed)
      closed.legal in
      let last =
      closed_last dials_of dial_faults arrivals_of faults departures send_faults stands out
      begun refused setup base plan link session seats shelf_seats joined spawned new_spawned
      is split shelf_split ran h k closed in
      let made : IsMadeOf h (end_parts token deeds_of) =
      subst
      (λ ended. IsMadeOf h
      (parts_with (resent_by ran.resent.turns).over (read_end token deeds_of) ended))
      ended_is
      (subst
      (λ read. IsMadeOf h
      (parts_with (resent_by ran.resent.turns).over read joined.ended))
      over_is
      (subst
      (λ resent. IsMadeOf h
      (parts_with resent joined.reader.state.over joined.ended))
      resent_is
      (closed_made dials_of dial_faults arrivals_of faults departures send_faults stands out
      begun refused setup base plan link session seats shelf_seats joined spawned new_spawned
      is split shelf_split ran h k closed))) in
      let shelf_made : IsMadeOf k (shelf_parts deeds_of) =
      closed_shelf_made dials_of dial_faults arrivals_of faults departures send_faults stands
      out begun refused setup base plan link session seats shelf_seats joined spawned
      new_spawned is split shelf_split ran h k closed in
      let outcome = outcome_is agrees in
      record {
        deeds = deeds_of;
        legal = legal;
        shelf_legal = closed.shelf_legal;
        last = last;
        made = made;
        shelf_made = shelf_made;
        above_main =
            subst (λ (n : ℕ). n < number_of seats.reader) split.kept.same_number
            split.first_above.later;
        above_reader = split.second_above.later;
        above_writer = split.third_above.later;
        above_resender =
            subst (λ (n : ℕ). number_of seats.resender < n) (sym ran.served.number)
            split.fourth_above.later;
        shelf_above = shelf_split.second_above.later;
        shelf_above_writer =
            subst (λ (n : ℕ). number_of shelf_seats.writer < n) (sym ran.served.shelf_number)
            shelf_split.third_above.later;
        read = read;
        wrote = wrote;
        resent = resent;
        served = served;
        given =
            given_of (setting_of setup base) setup.side token deeds_of setup.window h k spawned
            new_spawned refusal agrees read.may wrote.may wrote.ended read.started wrote.started
            resent.started served.started served.fits served.cause
            served.left served.refusal legal last made shelf_made;
        outcome = outcome;
        cause =
            subst (HasCause token deeds_of h k spawned new_spawned refusal agrees) (sym outcome)
            (HasCause-of (setting_of setup base) setup.side token deeds_of setup.window h k
            spawned new_spawned refusal agrees read.may wrote.may wrote.ended read.started
            wrote.started resent.started served.started served.fits
            served.cause served.left served.refusal legal last made shelf_made);
      }

module _ {D N U S C : Type 0} (dials_of : D → Option (List Dial)) (dial_faults : D → ℕ)
    (arrivals_of : N → Option Arrivals) (faults : N → ℕ) (departures : U → Option Departures)
    (send_faults : U → ℕ) (stands : S → Account C → Type 0) (out : S → List ℕ)
    (refused : S → Option SessionFault) (agreed : S → Bool)
    (setup : Setup) (base : List ℕ) (link : Link D N U) (session : S) (spawned : ℕ)
    (h : List (Entry EndCall EndAnswer)) (k : List (Entry ShelfCall ShelfAnswer)) where
  -- a run is known by its link, its session, its spawner's count and its outcome
  pub IsEndRun-same : (one other : Link D N U) (first second : S) (n m : ℕ)
      (came went : Outcome)
      → other ≡ one
      → second ≡ first
      → m ≡ n
      → went ≡ came
      → IsEndRun dials_of dial_faults arrivals_of faults departures send_faults stands out refused
      agreed setup base link one session first spawned n h k came
      → IsEndRun dials_of dial_faults arrivals_of faults departures send_faults stands out refused
      agreed setup base link other session second spawned m h k went
  IsEndRun-same one other first second n m came went same served count outcome run =
      subst
      (λ (o : Outcome). IsEndRun dials_of dial_faults arrivals_of faults departures send_faults
      stands out refused agreed setup base link other session second spawned m h k o)
      (sym outcome)
      (subst
      (λ (c : ℕ). IsEndRun dials_of dial_faults arrivals_of faults departures send_faults stands
      out refused agreed setup base link other session second spawned c h k came)
      (sym count)
      (subst
      (λ (s : S). IsEndRun dials_of dial_faults arrivals_of faults departures send_faults stands
      out refused agreed setup base link other session s spawned n h k came)
      (sym served)
      (subst
      (λ (l : Link D N U). IsEndRun dials_of dial_faults arrivals_of faults departures
      send_faults stands out refused agreed setup base link l session first spawned n h k came)
      (sym same) run)))

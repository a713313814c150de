-- The seats of a run: those of its locks before and behind the workers' calls, and whole at its
-- end.
use Rattle.std.proofs.Common.{◌≡◌, ℕ, Option, List, [], ◌∷◌, ◌++◌, ap, ◌∙◌, subst}
use Rattle.std.specs.Prelude.{Bool}
use Rattle.std.specs.List.{flat_map}
use Rattle.chan_io.specs.LinksIn.{Arrivals}
use Rattle.chan_io.specs.LinksOut.{Departures}
use Rattle.chan_io.specs.declared.dial.Dial.{Dial}
use Rattle.chan_io.specs.declared.link.Link.{Link}
use Rattle.channel_core.specs.declared.call.EndAnswer.{EndAnswer}
use Rattle.channel_core.specs.declared.call.EndCall.{EndCall}
use Rattle.turn_lock.specs.Histories.{entries_of, entry}
use Rattle.turn_lock.specs.Seats.{number_of, setting_of as seat_setting}
use Rattle.turn_lock.specs.declared.view.Entry.{Entry}
use Rattle.session_run.specs.declared.shelf_call.ShelfAnswer.{ShelfAnswer}
use Rattle.session_run.specs.declared.shelf_call.ShelfCall.{ShelfCall}
use Rattle.session_workers.specs.ReaderRuns.{reader_closing}
use Rattle.session_workers.specs.Reading.{reader_calls, reader_shelf_calls}
use Rattle.session_workers.specs.Resends.{resend_calls}
use Rattle.session_workers.specs.Writing.{end_calls, shelf_calls}
use Rattle.session_feeds.specs.Sessions.{Account}
use Rattle.session_feeds.specs.declared.session.SessionFault.{SessionFault}
use Rattle.session_crews.specs.Gathers.{Gathers}
use Rattle.session_delivery.specs.Deliveries.{delivery_calls, delivery_shelf_calls}
use Rattle.session_end.specs.declared.crew.Crew.{Crew}
use Rattle.session_end.specs.declared.crew.Joined.{Joined}
use Rattle.session_end.specs.declared.plan.Plan.{Plan}
use Rattle.session_end.specs.declared.seats.EndSeats.{EndSeats}
use Rattle.session_end.specs.declared.seats.ShelfSeats.{ShelfSeats}
use Rattle.session_end.specs.declared.setup.Setup.{Setup}
use Rattle.session_end.specs.Closings.{AreEndSeats, AreShelfSeats, IsClosing}
use Rattle.session_end.specs.Crews.{CrewRan, crew_of}
use Rattle.session_end.specs.Deeds.{early_closes}
use Rattle.session_end.specs.Leftovers.{left_calls, left_shelf_calls}
use Rattle.session_end.specs.Parts.{IsMadeOf, entries_in}
use Rattle.session_end.specs.Plans.{IsPlanOf}
use Rattle.session_end.specs.Ran.{closing_of}
use Rattle.session_end.specs.Seats.{IsSplitInFive, IsSplitInFour}
use Rattle.session_end.specs.Settling.{seats_after, shelf_seats_after}
use Rattle.session_end.specs.Starts.{closing}
use Rattle.session_end.proofs.JoinLemmas.{Gathers-then, five_mine, five_number, five_setting, five_whole, four_mine, four_whole}

-- what the workers did, known of the crew that they were
pub CrewRan-same : {D N U S C W : Type 0} (dials_of : D → Option (List Dial)) (dial_faults : D → ℕ)
    (arrivals_of : N → Option Arrivals) (faults : N → ℕ) (departures : U → Option Departures)
    (send_faults : U → ℕ) (stands : S → Account C → Type 0) (out : S → List ℕ)
    (begun : S → Bool) (refused : S → Option SessionFault) (crew other : Crew D N U S)
    (joined : Joined D N U S W) (spawned new_spawned : ℕ)
    → crew ≡ other
    → CrewRan dials_of dial_faults arrivals_of faults departures send_faults stands out begun
    refused crew joined spawned new_spawned
    → CrewRan dials_of dial_faults arrivals_of faults departures send_faults stands out begun
    refused other joined spawned new_spawned
CrewRan-same dials_of dial_faults arrivals_of faults departures send_faults stands out begun
    refused crew other joined spawned new_spawned same ran =
    subst
    (λ c. CrewRan dials_of dial_faults arrivals_of faults departures send_faults stands out begun
    refused c joined spawned new_spawned)
    same ran

module _ {D N U S C W : Type 0} (dials_of : D → Option (List Dial)) (dial_faults : D → ℕ)
    (arrivals_of : N → Option Arrivals) (faults : N → ℕ) (departures : U → Option Departures)
    (send_faults : U → ℕ) (stands : S → Account C → Type 0) (out : S → List ℕ)
    (begun : S → Bool) (refused : S → Option SessionFault)
    (setup : Setup) (base : List ℕ) (plan : Plan) (link : Link D N U) (session : S)
    (seats : EndSeats) (shelf_seats : ShelfSeats) (joined : Joined D N U S W)
    (spawned new_spawned : ℕ)
    (is : IsPlanOf setup base plan)
    (split : IsSplitInFive plan.main seats.main seats.reader seats.writer seats.resender
    seats.deliverer)
    (shelf_split : IsSplitInFour plan.shelf_main shelf_seats.main shelf_seats.reader
    shelf_seats.writer shelf_seats.deliverer)
    (ran : CrewRan dials_of dial_faults arrivals_of faults departures send_faults stands out begun
    refused (crew_of plan.setting plan.token link session seats shelf_seats) joined spawned
    new_spawned) where
  -- the calls of the main seat, of the link reader, of the link writer and of the resend worker
  abbrev main_calls : List (EndCall × EndAnswer)
  main_calls =
      early_closes joined.written joined.resender.over joined.reader.state.over joined.ended

  abbrev read_calls : List (EndCall × EndAnswer)
  read_calls =
      flat_map reader_calls ran.read.steps ++ reader_closing joined.reader.state.over

  abbrev write_calls : List (EndCall × EndAnswer)
  write_calls = flat_map end_calls ran.wrote.turns ++ closing_of joined.written

  abbrev resend_all : List (EndCall × EndAnswer)
  resend_all = flat_map resend_calls ran.resent.turns

  -- those of the deliverer, of the workers of feeders, and behind the join
  abbrev serve_parts : List (ℕ × List (EndCall × EndAnswer))
  serve_parts =
      delivery_calls ran.served.part
      ++ (ran.served.part.number, flat_map left_calls ran.leaves.steps) ∷ []

  abbrev serve_shelf_parts : List (ℕ × List (ShelfCall × ShelfAnswer))
  serve_shelf_parts =
      delivery_shelf_calls ran.served.part
      ++ (ran.served.part.shelf_number, flat_map left_shelf_calls ran.leaves.steps) ∷ []

  -- the calls of the end, as the seats have them
  abbrev pub seat_parts : List (ℕ × List (EndCall × EndAnswer))
  seat_parts =
      (number_of plan.main, main_calls)
      ∷ (number_of seats.reader, read_calls)
      ∷ (number_of seats.writer, write_calls)
      ∷ (number_of seats.resender, resend_all)
      ∷ (serve_parts ++ (number_of plan.main, closing ∷ []) ∷ [])

  -- and those of the shelf
  abbrev pub shelf_seat_parts : List (ℕ × List (ShelfCall × ShelfAnswer))
  shelf_seat_parts =
      (number_of shelf_seats.reader, flat_map reader_shelf_calls ran.read.steps)
      ∷ (number_of shelf_seats.writer, flat_map shelf_calls ran.wrote.turns)
      ∷ serve_shelf_parts

  serve_made : Gathers seats.deliverer (entries_in serve_parts) [] joined.service.end
  serve_made =
      Gathers-then seats.deliverer ran.mid.service.end joined.service.end
      (delivery_calls ran.served.part) ran.served.part.number
      (flat_map left_calls ran.leaves.steps) ran.served.number ran.served.end_made
      ran.leaves.end

  serve_shelf_made :
      Gathers shelf_seats.deliverer (entries_in serve_shelf_parts) [] joined.service.shelf
  serve_shelf_made =
      Gathers-then shelf_seats.deliverer ran.mid.service.shelf joined.service.shelf
      (delivery_shelf_calls ran.served.part) ran.served.part.shelf_number
      (flat_map left_shelf_calls ran.leaves.steps) ran.served.shelf_number
      ran.served.shelf_made ran.leaves.shelf

  -- the seats that the workers leave are all those of the two locks
  pub AreEndSeats-of : AreEndSeats plan.shared.ends (seats_after joined)
  AreEndSeats-of = record {
    main = ran.calls.same_seat.same_lock ∙ split.kept.same_lock ∙ is.end.of_lock;
    reader =
        ran.read.reads.end.same_seat.same_lock
        ∙ split.first_above.same_lock
        ∙ is.end.of_lock;
    writer =
        ran.wrote.calls.same_seat.same_lock ∙ split.second_above.same_lock ∙ is.end.of_lock;
    resender =
        ran.resent.end.same_seat.same_lock ∙ split.third_above.same_lock ∙ is.end.of_lock;
    deliverer = serve_made.same_lock ∙ split.fourth_above.same_lock ∙ is.end.of_lock;
    whole =
        five_whole plan.main seats.main seats.reader seats.writer seats.resender seats.deliverer
        joined.main joined.reader.end joined.writer.end joined.resender.end joined.service.end
        main_calls read_calls write_calls resend_all serve_parts split ran.calls
        ran.read.reads.end ran.wrote.calls ran.resent.end serve_made is.end.whole_share;
  }

  pub AreShelfSeats-of :
      AreShelfSeats plan.shared.shelf (shelf_seats_after joined shelf_seats.main)
  AreShelfSeats-of = record {
    main = shelf_split.kept.same_lock ∙ is.shelf.of_lock;
    reader =
        ran.read.reads.shelf.same_seat.same_lock
        ∙ shelf_split.first_above.same_lock
        ∙ is.shelf.of_lock;
    writer =
        ran.wrote.shelf.same_seat.same_lock
        ∙ shelf_split.second_above.same_lock
        ∙ is.shelf.of_lock;
    deliverer =
        serve_shelf_made.same_lock ∙ shelf_split.third_above.same_lock ∙ is.shelf.of_lock;
    whole =
        four_whole plan.shelf_main shelf_seats.main shelf_seats.reader shelf_seats.writer
        shelf_seats.deliverer joined.reader.shelf joined.writer.shelf joined.service.shelf
        (flat_map reader_shelf_calls ran.read.steps) (flat_map shelf_calls ran.wrote.turns)
        serve_shelf_parts shelf_split ran.read.reads.shelf ran.wrote.shelf serve_shelf_made
        is.shelf.whole_share;
  }

  module _ (h : List (Entry EndCall EndAnswer)) (k : List (Entry ShelfCall ShelfAnswer))
      (closed : IsClosing (seats_after joined) (shelf_seats_after joined shelf_seats.main) h k)
    where
      -- the seat that closed the end has the window of the run
      pub closed_setting : seat_setting closed.closed ≡ setup.window
      closed_setting =
          five_setting plan.main seats.main seats.reader seats.writer seats.resender
          seats.deliverer joined.main joined.reader.end joined.writer.end joined.resender.end
          joined.service.end main_calls read_calls write_calls resend_all serve_parts split
          ran.calls ran.read.reads.end ran.wrote.calls ran.resent.end serve_made closed.all
          closed.closed (closing ∷ []) closed.joined closed.adds
          ∙ is.end.has_setting

      -- its last call was the close
      pub closed_last : (earlier : List (Entry EndCall EndAnswer))
          × (h ≡ earlier ++ entry (number_of plan.main) EndCall.Close EndAnswer.Done ∷ [])
      closed_last =
          let number =
          five_number plan.main seats.main seats.reader seats.writer seats.resender
          seats.deliverer joined.main joined.reader.end joined.writer.end joined.resender.end
          joined.service.end main_calls read_calls write_calls resend_all serve_parts split
          ran.calls ran.read.reads.end ran.wrote.calls ran.resent.end serve_made closed.all
          closed.closed (closing ∷ []) closed.joined closed.adds in (
            closed.ends.0,
            closed.seen
                ∙ closed.ends.1
                ∙ ap (λ (n : ℕ). closed.ends.0 ++ entry n EndCall.Close EndAnswer.Done ∷ []) number,
          )

      -- the histories are made of those calls
      pub closed_made : IsMadeOf h seat_parts
      closed_made q =
          closed.own q
          ∙ ap (entries_of q)
          (five_mine plan.main seats.main seats.reader seats.writer seats.resender seats.deliverer
          joined.main joined.reader.end joined.writer.end joined.resender.end joined.service.end
          main_calls read_calls write_calls resend_all serve_parts split ran.calls
          ran.read.reads.end ran.wrote.calls ran.resent.end serve_made closed.all closed.closed
          (closing ∷ []) closed.joined closed.adds is.end.none_made)

      pub closed_shelf_made : IsMadeOf k shelf_seat_parts
      closed_shelf_made q =
          closed.shelf_own q
          ∙ ap (entries_of q)
          (four_mine plan.shelf_main shelf_seats.main shelf_seats.reader shelf_seats.writer
          shelf_seats.deliverer joined.reader.shelf joined.writer.shelf joined.service.shelf
          (flat_map reader_shelf_calls ran.read.steps) (flat_map shelf_calls ran.wrote.turns)
          serve_shelf_parts shelf_split ran.read.reads.shelf ran.wrote.shelf serve_shelf_made
          closed.shelf_all closed.shelf_joined is.shelf.none_made)

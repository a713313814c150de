-- What a worker did with its seats, from before its start to after its join.
use Rattle.std.specs.Prelude.{◌≡◌, ℕ, Bool, true, false, Option, Some, None, List, [], ◌++◌, is_some}
use Rattle.std.specs.List.{All, flat_map, fold, sum_by}
use Rattle.chan_io.specs.Faults.{Rises}
use Rattle.chan_io.specs.LinksIn.{Arrivals}
use Rattle.chan_io.specs.LinksOut.{Departures}
use Rattle.chan_io.specs.declared.dial.Dial.{Dial}
use Rattle.channel_core.specs.declared.call.EndAnswer.{EndAnswer}
use Rattle.channel_core.specs.declared.call.EndCall.{EndCall}
use Rattle.turn_lock.specs.Runs.{AllFit}
use Rattle.turn_lock.specs.Seats.{number_of}
use Rattle.session_run.specs.Adds.{AddsCalls}
use Rattle.session_workers.specs.declared.link_reader.LinkReader.{LinkReader}
use Rattle.session_workers.specs.declared.link_writer.LinkWriter.{LinkWriter}
use Rattle.session_workers.specs.declared.resender.Resender.{Resender}
use Rattle.session_workers.specs.declared.worker_end.WorkerEnd.{WorkerEnd}
use Rattle.session_workers.specs.ReaderRuns.{Reads, reader_closing}
use Rattle.session_workers.specs.Reading.{ReaderStep}
use Rattle.session_workers.specs.ResendRuns.{MayResend, none_resent, resent_after}
use Rattle.session_workers.specs.Resends.{ResendTurn, resend_calls}
use Rattle.session_workers.specs.WriterRuns.{MayTurn, Progress, at_first, closing_calls, progress, wanted_memory}
use Rattle.session_workers.specs.Writing.{CountsFailures, Departs, WriterTurn, end_calls, failures, messages_in, send_in, shelf_calls}
use Rattle.session_feeds.specs.Sessions.{Account}
use Rattle.session_feeds.specs.declared.session.SessionFault.{SessionFault}
use Rattle.session_crews.specs.Crews.{has_stopped}
use Rattle.session_crews.specs.FeedTurns.{WasStarted}
use Rattle.session_crews.specs.Gathers.{Gathers}
use Rattle.session_crews.specs.Parts.{entries_in}
use Rattle.session_delivery.specs.Deliveries.{DelivererPart, IsDelivererPart, account_after, delivery_calls, delivery_shelf_calls}
use Rattle.session_delivery.specs.Delivering.{delivered_by}
use Rattle.session_end.specs.declared.delivering.AfterDeliverer.{AfterDeliverer}
use Rattle.session_end.specs.declared.delivering.Service.{Service}
use Rattle.session_end.specs.Refusals.{refusals_by}
use Rattle.session_end.specs.Starts.{UnlessStarted}

module _ {D N : Type 0} (dials_of : D → Option (List Dial)) (dial_faults : D → ℕ)
    (arrivals_of : N → Option Arrivals) (faults : N → ℕ) where
  -- the link reader made these steps, to its end; or it was not started, and made none
  pub record ReaderRan (old new : LinkReader D N) (before after : ℕ) : Type 0 where
    pub steps : List ReaderStep
    pub reads :
        Reads dials_of dial_faults arrivals_of faults old steps (reader_closing new.state.over)
        new
    pub started : UnlessStarted (is_some new.state.over) steps before after

-- the resend worker made these turns, to its end; or it was not started, and made none
pub record ResenderRan (old new : Resender) (gave_up : Option ℕ) (before after : ℕ) : Type 0 where
  pub turns : List ResendTurn
  pub may : AllFit resent_after MayResend none_resent turns
  pub progress :
      record { over = new.over; gave_up = gave_up } ≡ fold resent_after none_resent turns
  pub end : AddsCalls old.end (flat_map resend_calls turns) new.end
  pub started : UnlessStarted new.over turns before after

-- the calls of a link writer behind its last turn
abbrev pub closing_of : Option WorkerEnd → List (EndCall × EndAnswer)
closing_of None = []
closing_of (Some end) = closing_calls end

-- the writer's last turn was made, and memory was wanted in it exactly where the writer ended so
abbrev pub IsEndedBy : Option WorkerEnd → Progress → Type 0
IsEndedBy None p = Unit {0}
IsEndedBy (Some end) p = (p.over ≡ true) × (p.starved ≡ wanted_memory end)

module _ {U : Type 0} (departures : U → Option Departures) (faults : U → ℕ) where
  -- the link writer made these turns, to its end; or it was not started, and made none. Either way
  -- its link is shut
  pub record WriterRan (old new : LinkWriter U) (end : Option WorkerEnd) (before after : ℕ)
      : Type 0 where
    pub turns : List WriterTurn
    pub may : AllFit (progress old.side) (MayTurn old.side) (at_first old.told) turns
    pub ended : IsEndedBy end (fold (progress old.side) (at_first old.told) turns)
    pub calls : AddsCalls old.end (flat_map end_calls turns ++ closing_of end) new.end
    pub shelf : AddsCalls old.shelf (flat_map shelf_calls turns) new.shelf
    pub sends :
        Departs (flat_map (messages_in old.side) turns) true (departures old.output)
        (departures new.output)
    pub counted :
        CountsFailures (sum_by (λ turn. failures (send_in turn)) turns) (faults old.output)
        (faults new.output)
    pub started : UnlessStarted (is_some end) turns before after

module _ {S C W : Type 0} (stands : S → Account C → Type 0) (out : S → List ℕ)
    (begun : S → Bool) (refused : S → Option SessionFault) where
  -- the deliverer served the session to its end, and the workers of feeders ended; or it was not
  -- started, and did nothing
  pub record DelivererRan (old : Service S) (new : AfterDeliverer S W) (before after : ℕ)
      : Type 0 where
    pub part : DelivererPart
    pub fits : IsDelivererPart part
    pub number : part.number ≡ number_of old.end
    pub shelf_number : part.shelf_number ≡ number_of old.shelf
    pub ended : part.ended ≡ new.ended
    pub end_made : Gathers old.end (entries_in (delivery_calls part)) [] new.service.end
    pub shelf_made :
        Gathers old.shelf (entries_in (delivery_shelf_calls part)) [] new.service.shelf
    pub account :
        (a : Account C)
        → stands old.session a
        → stands new.service.session (account_after part a)
    pub none_out : out new.service.session ≡ []
    pub was_begun : begun new.service.session ≡ (delivered_by part.steps).begun
    pub was_refused :
        (delivered_by part.steps).begun ≡ true
        → refused new.service.session ≡ (delivered_by part.steps).refused
    pub refusals : new.refusals ≡ refusals_by part
    pub ran : has_stopped new.refusals ≡ false → All WasStarted part.feeders
    pub cause : new.refusals.no_thread ≡ true → Rises before after
    pub started : UnlessStarted new.started part.steps before after
    pub idle : new.started ≡ false → new.ended ≡ None

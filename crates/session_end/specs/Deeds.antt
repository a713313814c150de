-- What the workers of a run did, and with which seats.
use Rattle.std.specs.Prelude.{ℕ, Bool, Option, List, [], ◌∷◌, ◌++◌, is_some}
use Rattle.std.specs.List.{flat_map}
use Rattle.channel_core.specs.declared.call.EndAnswer.{EndAnswer}
use Rattle.channel_core.specs.declared.call.EndCall.{EndCall}
use Rattle.session_run.specs.declared.shelf_call.ShelfAnswer.{ShelfAnswer}
use Rattle.session_run.specs.declared.shelf_call.ShelfCall.{ShelfCall}
use Rattle.session_workers.specs.declared.read_state.ReadEnd.{ReadEnd}
use Rattle.session_workers.specs.declared.worker_end.WorkerEnd.{WorkerEnd}
use Rattle.session_workers.specs.ReaderLaws.{state_after}
use Rattle.session_workers.specs.ReaderRuns.{reader_closing}
use Rattle.session_workers.specs.Reading.{ReaderStep, reader_calls, reader_shelf_calls}
use Rattle.session_workers.specs.Resends.{ResendTurn, resend_calls}
use Rattle.session_workers.specs.Writing.{WriterTurn, end_calls, shelf_calls}
use Rattle.session_delivery.specs.Deliveries.{DelivererPart, delivery_calls, delivery_shelf_calls}
use Rattle.session_delivery.specs.declared.deliver_end.DeliverEnd.{DeliverEnd}
use Rattle.session_end.specs.declared.ends.Ends.{Ends}
use Rattle.session_end.specs.declared.outcome.Outcome.{Outcome}
use Rattle.session_end.specs.Leftovers.{LeftStep, end_with, left_by, left_calls, left_shelf_calls}
use Rattle.session_end.specs.Outcomes.{outcome_of}
use Rattle.session_end.specs.Ran.{closing_of}
use Rattle.session_end.specs.Refusals.{refusals_by}
use Rattle.session_end.specs.Starts.{closing, closing_unless}
use Rattle.session_end.specs.WorkerParts.{resent_by}

-- what the workers of a run did, and with which seats
pub record Deeds : Type 0 where
  -- the numbers of the seats on the lock over the end
  pub main : ℕ
  pub reader : ℕ
  pub writer : ℕ
  pub resender : ℕ
  -- those of the seats on the lock over the shelf
  pub shelf_reader : ℕ
  pub shelf_writer : ℕ
  -- what the workers did, and how the link writer ended; none where it was not started
  pub steps : List ReaderStep
  pub turns : List WriterTurn
  pub written : Option WorkerEnd
  pub ticks : List ResendTurn
  -- the deliverer with the workers of feeders, and whether it was started
  pub delivery : DelivererPart
  pub started : Bool
  -- what was done behind the join with what was left on the shelf
  pub left : List LeftStep

-- how the link reader ended; none where it was not started
abbrev pub read_end : List ℕ → Deeds → Option ReadEnd
read_end token d = (state_after token d.steps).over

-- the closes that were made for the workers that were not started, or did nothing
abbrev pub early_closes : Option WorkerEnd → Bool → Option ReadEnd → Option DeliverEnd
    → List (EndCall × EndAnswer)
early_closes written resent read delivered =
    closing_unless (is_some written)
    ++ (closing_unless resent
    ++ (closing_unless (is_some read) ++ closing_unless (is_some delivered)))

-- the calls of the end that the deliverer, the workers of feeders and then its seat made
abbrev pub served_calls : Deeds → List (ℕ × List (EndCall × EndAnswer))
served_calls d =
    delivery_calls d.delivery ++ (d.delivery.number, flat_map left_calls d.left) ∷ []

-- the calls of the end: those closes, the calls of each worker, and one close at last
abbrev pub end_parts : List ℕ → Deeds → List (ℕ × List (EndCall × EndAnswer))
end_parts token d = (
  d.main,
  early_closes d.written (resent_by d.ticks).over (read_end token d) d.delivery.ended,
)
    ∷ (d.reader, flat_map reader_calls d.steps ++ reader_closing (read_end token d))
    ∷ (d.writer, flat_map end_calls d.turns ++ closing_of d.written)
    ∷ (d.resender, flat_map resend_calls d.ticks)
    ∷ (served_calls d ++ (d.main, closing ∷ []) ∷ [])

-- the calls of the shelf
abbrev pub shelf_parts : Deeds → List (ℕ × List (ShelfCall × ShelfAnswer))
shelf_parts d =
    (d.shelf_reader, flat_map reader_shelf_calls d.steps)
    ∷ (d.shelf_writer, flat_map shelf_calls d.turns)
    ∷ (delivery_shelf_calls d.delivery
    ++ (d.delivery.shelf_number, flat_map left_shelf_calls d.left) ∷ [])

-- how the workers ended, with a session that is agreed on or not
abbrev pub ends_of : List ℕ → Deeds → Bool → Ends
ends_of token d agreed = record {
  writer = d.written;
  reader = read_end token d;
  resent = (resent_by d.ticks).over;
  gave_up = (resent_by d.ticks).gave_up;
  started = d.started;
  delivered = end_with (left_by d.left).refused d.delivery.ended;
  refusals = refusals_by d.delivery;
  agreed = agreed;
}

-- the outcome of what the workers did
abbrev pub outcome_by : List ℕ → Deeds → Bool → Outcome
outcome_by token d agreed = outcome_of (ends_of token d agreed)

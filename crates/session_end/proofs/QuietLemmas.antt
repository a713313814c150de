-- Where no worker was refused, no call wanted memory.
use Rattle.std.proofs.Common.{◌≡◌, ℕ, Bool, true, false, Option, Some, None, List, [], ◌∷◌, ◌++◌, map, refl, ◌∙◌, subst}
use Rattle.std.specs.List.{flat_map, fold, list_any}
use Rattle.chan_values.specs.declared.side.Side.{Side}
use Rattle.channel_core.specs.declared.call.EndAnswer.{EndAnswer}
use Rattle.channel_core.specs.declared.call.EndCall.{EndCall}
use Rattle.turn_lock.specs.Runs.{AllFit}
use Rattle.turn_lock.specs.declared.view.Entry.{Entry}
use Rattle.session_run.specs.declared.shelf_call.ShelfAnswer.{ShelfAnswer}
use Rattle.session_run.specs.declared.shelf_call.ShelfCall.{ShelfCall}
use Rattle.session_workers.specs.declared.link_setting.LinkSetting.{LinkSetting}
use Rattle.session_workers.specs.declared.read_state.ReadEnd.{ReadEnd}
use Rattle.session_workers.specs.declared.worker_end.WorkerEnd.{WorkerEnd}
use Rattle.session_workers.specs.ReaderLaws.{AreSteps}
use Rattle.session_workers.specs.ReaderRuns.{reader_closing}
use Rattle.session_workers.specs.ReaderSteps.{first_state}
use Rattle.session_workers.specs.Reading.{reader_calls, reader_shelf_calls}
use Rattle.session_workers.specs.Resends.{ResendTurn, resend_calls}
use Rattle.session_workers.specs.WriterRuns.{MayTurn, at_first, progress}
use Rattle.session_workers.specs.Writing.{end_calls, shelf_calls}
use Rattle.session_crews.specs.FeedTurns.{part_shelf_calls}
use Rattle.session_delivery.specs.Delivering.{DeliverStep, Led, asks, asks_in_vain, begins, finds_none, finishing, led_shelf_calls, noting_deliverer, refuses, step_shelf_calls, takes, treats}
use Rattle.session_delivery.specs.Deliveries.{IsDelivererPart, delivery_shelf_calls}
use Rattle.session_delivery.specs.declared.deliver_end.DeliverEnd.{DeliverEnd}
use Rattle.session_end.specs.Causes.{is_shelf_wanting, is_wanting}
use Rattle.session_end.specs.Deeds.{Deeds, early_closes, end_parts, read_end, served_calls, shelf_parts}
use Rattle.session_end.specs.Leftovers.{LeftStep, ends, left_shelf_calls, refuses as left_refuses, serves}
use Rattle.session_end.specs.Parts.{IsMadeOf, entries_in}
use Rattle.session_end.specs.Ran.{IsEndedBy, closing_of}
use Rattle.session_end.specs.Starts.{closing}
use Rattle.session_end.specs.WorkerParts.{resent_by}
use Rattle.session_end.proofs.CloseLemmas.{early_none, reader_none, writer_none}
use Rattle.session_end.proofs.DeliveryLemmas.{served_none_at_all}
use Rattle.session_end.proofs.FeederEndLemmas.{AreUnrefused, unrefused_shelves}
use Rattle.session_end.proofs.HistoryLemmas.{none_append, none_each, none_in, none_in_both, none_in_four, not_true, same_any}
use Rattle.session_end.proofs.MemoryLemmas.{reader_shelf_wants, reader_wants, shelf_wanting, wanting, writer_shelf_none, writer_wants}

abbrev wanting_entry : Entry EndCall EndAnswer → Bool
wanting_entry e = is_wanting e.answer

abbrev shelf_entry : Entry ShelfCall ShelfAnswer → Bool
shelf_entry e = is_shelf_wanting e.answer

tick_none : (turn : ResendTurn) → list_any wanting (resend_calls turn) ≡ false
tick_none turn = refl

-- ---- the shelf

finishing_none : (led : Led) → list_any shelf_wanting (led_shelf_calls led) ≡ false
finishing_none (treats t) = by t.finish
  where
    by : (b : Bool) → list_any shelf_wanting (finishing b) ≡ false
    by true = refl
    by false = refl
finishing_none (refuses fault) = refl

step_none : (step : DeliverStep) → list_any shelf_wanting (step_shelf_calls step) ≡ false
step_none (begins led) = finishing_none led
step_none (asks_in_vain fault) = refl
step_none (asks ready look made) = refl
step_none (takes parcel led) = finishing_none led
step_none finds_none = refl

noting_none : (ended : Option DeliverEnd)
    → list_any shelf_wanting (noting_deliverer ended) ≡ false
noting_none None = refl
noting_none (Some DeliverEnd.Closed) = refl
noting_none (Some (DeliverEnd.Fault fault)) = refl
noting_none (Some DeliverEnd.NoMemory) = refl
noting_none (Some DeliverEnd.NoThread) = refl

left_none : (step : LeftStep) → list_any shelf_wanting (left_shelf_calls step) ≡ false
left_none (serves parcel a) = refl
left_none (left_refuses parcel fault) = refl
left_none ends = refl

-- the deliverer and the workers of feeders wanted none on the shelf
shelf_served : (d : Deeds) → IsDelivererPart d.delivery → AreUnrefused d.delivery.feeders
    → list_any shelf_entry
    (entries_in
    (delivery_shelf_calls d.delivery
    ++ (d.delivery.shelf_number, flat_map left_shelf_calls d.left) ∷ []))
    ≡ false
shelf_served d fits unrefused =
    none_in_both shelf_entry (delivery_shelf_calls d.delivery)
    ((d.delivery.shelf_number, flat_map left_shelf_calls d.left) ∷ [])
    (none_in shelf_entry d.delivery.shelf_number
    (flat_map step_shelf_calls d.delivery.steps ++ noting_deliverer d.delivery.ended)
    (map part_shelf_calls d.delivery.feeders)
    (none_append shelf_wanting (flat_map step_shelf_calls d.delivery.steps)
    (noting_deliverer d.delivery.ended)
    (none_each shelf_wanting step_shelf_calls d.delivery.steps step_none)
    (noting_none d.delivery.ended))
    (unrefused_shelves d.delivery.feeders fits.fits unrefused))
    (none_in shelf_entry d.delivery.shelf_number (flat_map left_shelf_calls d.left) []
    (none_each shelf_wanting left_shelf_calls d.left left_none) refl)

module _ (setting : LinkSetting) (side : Side) (token : List ℕ) (d : Deeds)
    (h : List (Entry EndCall EndAnswer)) (k : List (Entry ShelfCall ShelfAnswer))
    (steps : AreSteps setting token d.steps)
    (turns : AllFit (progress side) (MayTurn side) (at_first 0) d.turns)
    (ended : IsEndedBy d.written (fold (progress side) (at_first 0) d.turns))
    (made : IsMadeOf h (end_parts token d)) (shelf_made : IsMadeOf k (shelf_parts d))
    (fits : IsDelivererPart d.delivery) (unrefused : AreUnrefused d.delivery.feeders)
    (written : d.written ≡ Some WorkerEnd.Closed)
    (read : read_end token d ≡ Some ReadEnd.Closed) where
  reader_quiet : list_any wanting (flat_map reader_calls d.steps) ≡ false
  reader_quiet =
      not_true (list_any wanting (flat_map reader_calls d.steps))
      (λ yes. let over = reader_wants setting (first_state token) d.steps steps yes in
      absurd (cc))

  reader_shelf_quiet : list_any shelf_wanting (flat_map reader_shelf_calls d.steps) ≡ false
  reader_shelf_quiet =
      not_true (list_any shelf_wanting (flat_map reader_shelf_calls d.steps))
      (λ yes. let over = reader_shelf_wants setting (first_state token) d.steps steps yes in
      absurd (cc))

  writer_quiet : list_any wanting (flat_map end_calls d.turns) ≡ false
  writer_quiet =
      not_true (list_any wanting (flat_map end_calls d.turns))
      (λ yes. let starved = writer_wants side (at_first 0) d.turns turns yes in
      let closed =
      subst (λ e. IsEndedBy e (fold (progress side) (at_first 0) d.turns)) written ended in
      let fed = closed.1 in
      absurd (cc))

  -- no call of the end wanted memory
  pub none_wanting : list_any wanting_entry h ≡ false
  none_wanting =
      same_any wanting_entry h (entries_in (end_parts token d)) made
      ∙ none_in_four wanting_entry d.main d.reader d.writer d.resender
      (early_closes d.written (resent_by d.ticks).over (read_end token d) d.delivery.ended)
      (flat_map reader_calls d.steps ++ reader_closing (read_end token d))
      (flat_map end_calls d.turns ++ closing_of d.written)
      (flat_map resend_calls d.ticks)
      (served_calls d ++ (d.main, closing ∷ []) ∷ [])
      (early_none wanting refl d.written (resent_by d.ticks).over (read_end token d)
      d.delivery.ended)
      (none_append wanting (flat_map reader_calls d.steps) (reader_closing (read_end token d))
      reader_quiet (reader_none wanting refl (read_end token d)))
      (none_append wanting (flat_map end_calls d.turns) (closing_of d.written) writer_quiet
      (writer_none wanting refl d.written))
      (none_each wanting resend_calls d.ticks tick_none)
      (none_in_both wanting_entry (served_calls d) ((d.main, closing ∷ []) ∷ [])
      (served_none_at_all wanting (λ last item id now put. refl) (λ look. refl) refl d)
      (none_in wanting_entry d.main (closing ∷ []) [] refl refl))

  -- nor did one of the shelf
  pub none_shelf_wanting : list_any shelf_entry k ≡ false
  none_shelf_wanting =
      same_any shelf_entry k (entries_in (shelf_parts d)) shelf_made
      ∙ none_in shelf_entry d.shelf_reader (flat_map reader_shelf_calls d.steps)
      ((d.shelf_writer, flat_map shelf_calls d.turns)
      ∷ (delivery_shelf_calls d.delivery
      ++ (d.delivery.shelf_number, flat_map left_shelf_calls d.left) ∷ []))
      reader_shelf_quiet
      (none_in shelf_entry d.shelf_writer (flat_map shelf_calls d.turns)
      (delivery_shelf_calls d.delivery
      ++ (d.delivery.shelf_number, flat_map left_shelf_calls d.left) ∷ [])
      (writer_shelf_none d.turns) (shelf_served d fits unrefused))

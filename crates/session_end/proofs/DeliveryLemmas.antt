-- What the deliverer and the workers of feeders have of calls of a kind.
use Rattle.std.proofs.Common.{◌≡◌, ℕ, Bool, false, Option, Some, None, List, [], ◌∷◌, ◌++◌, map, refl}
use Rattle.std.specs.List.{flat_map, list_any}
use Rattle.chan_values.specs.declared.item.Item.{Item}
use Rattle.channel_core.specs.declared.answer.Look.{Look}
use Rattle.channel_core.specs.declared.answer.Put.{Put}
use Rattle.channel_core.specs.declared.call.EndAnswer.{EndAnswer}
use Rattle.channel_core.specs.declared.call.EndCall.{EndCall}
use Rattle.turn_lock.specs.declared.view.Entry.{Entry}
use Rattle.session_feeds.specs.Puts.{Trial, full_call, put_call, trial_calls}
use Rattle.session_crews.specs.FeedTurns.{FeedPart, FeedTurn, closing as feed_closing, comes, fails, gives, looking, part_calls, refused, starts, starves, turn_calls, waits}
use Rattle.session_crews.specs.declared.feed_end.FeedEnd.{FeedEnd}
use Rattle.session_delivery.specs.Delivering.{DeliverStep, asks, asks_in_vain, begins, closing_deliverer, finds_none, refuses, step_calls, takes, treats}
use Rattle.session_delivery.specs.Deliveries.{delivery_calls}
use Rattle.session_delivery.specs.declared.deliver_end.DeliverEnd.{DeliverEnd}
use Rattle.session_end.specs.Deeds.{Deeds, served_calls}
use Rattle.session_end.specs.Leftovers.{LeftStep, ends, left_calls, refuses as left_refuses, serves}
use Rattle.session_end.specs.Parts.{entries_in}
use Rattle.session_end.specs.Starts.{closing}
use Rattle.session_end.proofs.HistoryLemmas.{none_append, none_each, none_in, none_in_both, or_none}

-- a test that passes no put and no look
module _ (t : EndCall × EndAnswer → Bool)
    (puts : (last : Bool) (item : Item) (id : List ℕ) (now : ℕ) (put : Put)
    → t (put_call last item id now, EndAnswer.Put put) ≡ false)
    (looks : (look : Look) → t (looking look) ≡ false) where
  abbrev entry_passes : Entry EndCall EndAnswer → Bool
  entry_passes e = t (e.call, e.answer)

  full_none : (last : Bool) (item : Item) (full : List (List ℕ × ℕ))
      → list_any t (map (full_call last item) full) ≡ false
  full_none last item [] = refl
  full_none last item (f ∷ full) =
      or_none (t (full_call last item f)) (list_any t (map (full_call last item) full))
      (puts last item f.0 f.1 (Put.Full item)) (full_none last item full)

  pub trial_none : (x : Trial) → list_any t (trial_calls x) ≡ false
  trial_none x =
      none_append t (map (full_call x.as_last x.item) x.full)
      ((put_call x.as_last x.item x.id x.now, EndAnswer.Put x.answer) ∷ [])
      (full_none x.as_last x.item x.full)
      (or_none (t (put_call x.as_last x.item x.id x.now, EndAnswer.Put x.answer)) false
      (puts x.as_last x.item x.id x.now x.answer) refl)

  look_none : (look : Look) → list_any t (looking look ∷ []) ≡ false
  look_none look = or_none (t (looking look)) false (looks look) refl

  step_none : (step : DeliverStep) → list_any t (step_calls step) ≡ false
  step_none (begins (treats x)) = none_each t trial_calls x.trials trial_none
  step_none (begins (refuses fault)) = refl
  step_none (asks_in_vain fault) = refl
  step_none (asks ready look made) = look_none look
  step_none (takes parcel (treats x)) = none_each t trial_calls x.trials trial_none
  step_none (takes parcel (refuses fault)) = refl
  step_none finds_none = refl

  turn_none : (turn : FeedTurn) → list_any t (turn_calls turn) ≡ false
  turn_none (gives x) = trial_none x
  turn_none (starts mark look) = look_none look
  turn_none (refused mark starved) = refl
  turn_none (waits look) = look_none look
  turn_none (comes added) = refl
  turn_none fails = refl
  turn_none starves = refl

  left_none : (step : LeftStep) → list_any t (left_calls step) ≡ false
  left_none (serves parcel a) = none_each t trial_calls a.trials trial_none
  left_none (left_refuses parcel fault) = refl
  left_none ends = refl

  -- it passes none of the closes of these workers
  abbrev pub NoneCloses : List FeedPart → Type 0
  NoneCloses [] = Unit {0}
  NoneCloses (f ∷ fs) = (list_any t (feed_closing f.ended) ≡ false) × NoneCloses fs

  feeders_none : (fs : List FeedPart) → NoneCloses fs
      → list_any entry_passes (entries_in (map part_calls fs)) ≡ false
  feeders_none [] none = refl
  feeders_none (f ∷ fs) none =
      none_in entry_passes f.number (flat_map turn_calls f.turns ++ feed_closing f.ended)
      (map part_calls fs)
      (none_append t (flat_map turn_calls f.turns) (feed_closing f.ended)
      (none_each t turn_calls f.turns turn_none) none.0)
      (feeders_none fs none.1)

  -- nor those of the deliverer: it passes none of the calls of these and of the seat behind the
  -- join
  pub served_none : (d : Deeds)
      → list_any t (closing_deliverer d.delivery.ended) ≡ false
      → NoneCloses d.delivery.feeders
      → list_any entry_passes (entries_in (served_calls d)) ≡ false
  served_none d none others =
      none_in_both entry_passes (delivery_calls d.delivery)
      ((d.delivery.number, flat_map left_calls d.left) ∷ [])
      (none_in entry_passes d.delivery.number
      (flat_map step_calls d.delivery.steps ++ closing_deliverer d.delivery.ended)
      (map part_calls d.delivery.feeders)
      (none_append t (flat_map step_calls d.delivery.steps)
      (closing_deliverer d.delivery.ended)
      (none_each t step_calls d.delivery.steps step_none) none)
      (feeders_none d.delivery.feeders others))
      (none_in entry_passes d.delivery.number (flat_map left_calls d.left) []
      (none_each t left_calls d.left left_none) refl)

  -- where it passes no close, it passes none of theirs
  module _ (none : t closing ≡ false) where
    close_none : list_any t (closing ∷ []) ≡ false
    close_none = or_none (t closing) false none refl

    feed_none : (ended : Option FeedEnd) → list_any t (feed_closing ended) ≡ false
    feed_none None = refl
    feed_none (Some FeedEnd.Over) = refl
    feed_none (Some FeedEnd.Stopped) = refl
    feed_none (Some FeedEnd.Failed) = close_none
    feed_none (Some FeedEnd.NoMemory) = close_none
    feed_none (Some FeedEnd.NoThread) = close_none

    deliverer_none : (ended : Option DeliverEnd) → list_any t (closing_deliverer ended) ≡ false
    deliverer_none None = refl
    deliverer_none (Some DeliverEnd.Closed) = refl
    deliverer_none (Some (DeliverEnd.Fault fault)) = close_none
    deliverer_none (Some DeliverEnd.NoMemory) = close_none
    deliverer_none (Some DeliverEnd.NoThread) = close_none

    all_none : (fs : List FeedPart) → NoneCloses fs
    all_none [] = tt
    all_none (f ∷ fs) = (feed_none f.ended, all_none fs)

    pub served_none_at_all : (d : Deeds)
        → list_any entry_passes (entries_in (served_calls d)) ≡ false
    served_none_at_all d =
        served_none d (deliverer_none d.delivery.ended) (all_none d.delivery.feeders)

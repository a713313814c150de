-- What the deliverer does, step by step.
use Rattle.std.specs.Prelude.{◌≡◌, Bool, true, false, ◌||◌, Option, Some, None, ℕ, List, [], ◌∷◌, if◌then◌else◌}
use Rattle.std.specs.List.{flat_map, fold}
use Rattle.chan_values.specs.declared.item.Item.{Item}
use Rattle.channel_core.specs.declared.answer.Look.{Look}
use Rattle.channel_core.specs.declared.call.EndAnswer.{EndAnswer}
use Rattle.channel_core.specs.declared.call.EndCall.{EndCall}
use Rattle.session_run.specs.declared.parcel.Parcel.{Parcel}
use Rattle.session_run.specs.declared.shelf_call.ShelfAnswer.{ShelfAnswer}
use Rattle.session_run.specs.declared.shelf_call.ShelfCall.{ShelfCall}
use Rattle.session_feeds.specs.Puts.{PutsPrefix, ToPut, Trial, stopped_by, to_put, trial_calls}
use Rattle.session_feeds.specs.declared.session.SessionFault.{SessionFault}
use Rattle.session_crews.specs.FeedTurns.{looking}
use Rattle.session_delivery.specs.declared.deliver_end.DeliverEnd.{DeliverEnd}
use Rattle.session_delivery.specs.Starts.{Starts, all, end_of_starts, marks_begun, marks_left}

-- a verdict, and how it was carried out: first the puts, then the finish, then the starts
pub record Treated : Type 0 where
  pub puts : List Item
  pub last : Bool
  pub finish : Bool
  pub trials : List Trial
  pub starts : Starts

-- what a call of the session led to
pub data Led : Type 0 where
  -- its verdict was carried out
  treats : Treated → Led
  -- it was refused
  refuses : SessionFault → Led

-- one step
pub data DeliverStep : Type 0 where
  -- the session was begun
  begins : Led → DeliverStep
  -- it was asked whether it is ready, and was refused
  asks_in_vain : SessionFault → DeliverStep
  -- it was, or was not; the end was looked at, and the feeders that this made were started
  asks : Bool → Look → Starts → DeliverStep
  -- the first parcel was taken off the shelf and given to the session
  takes : Parcel → Led → DeliverStep
  -- there was no parcel
  finds_none : DeliverStep

-- the calls of the end at which a verdict is carried out
abbrev pub led_calls : Led → List (EndCall × EndAnswer)
led_calls (treats t) = flat_map trial_calls t.trials
led_calls (refuses fault) = []

-- it is noted that the session is to finish, where its verdict says so
abbrev pub finishing : Bool → List (ShelfCall × ShelfAnswer)
finishing true = (ShelfCall.Finish false, ShelfAnswer.Done) ∷ []
finishing false = []

abbrev pub led_shelf_calls : Led → List (ShelfCall × ShelfAnswer)
led_shelf_calls (treats t) = finishing t.finish
led_shelf_calls (refuses fault) = []

-- its calls of the end
abbrev pub step_calls : DeliverStep → List (EndCall × EndAnswer)
step_calls (begins led) = led_calls led
step_calls (asks_in_vain fault) = []
step_calls (asks ready look starts) = looking look ∷ []
step_calls (takes parcel led) = led_calls led
step_calls finds_none = []

-- the first parcel was taken, if there was one
abbrev pub taking : Option Parcel → ShelfCall × ShelfAnswer
taking parcel = (ShelfCall.First, ShelfAnswer.First parcel)

-- its calls of the shelf
abbrev pub step_shelf_calls : DeliverStep → List (ShelfCall × ShelfAnswer)
step_shelf_calls (begins led) = led_shelf_calls led
step_shelf_calls (asks_in_vain fault) = []
step_shelf_calls (asks ready look starts) = []
step_shelf_calls (takes parcel led) = taking (Some parcel) ∷ led_shelf_calls led
step_shelf_calls finds_none = taking None ∷ []

-- the parcels that the session took in it
abbrev pub parcels_in : DeliverStep → List Parcel
parcels_in (takes parcel led) = parcel ∷ []
parcels_in step = []

-- the items that the session gave in it
abbrev pub led_items : Led → List Item
led_items (treats t) = t.puts
led_items (refuses fault) = []

abbrev pub items_in : DeliverStep → List Item
items_in (begins led) = led_items led
items_in (takes parcel led) = led_items led
items_in step = []

-- the same, each with whether it was to be put in as the last
abbrev pub led_to_put : Led → List ToPut
led_to_put (treats t) = to_put t.last t.puts
led_to_put (refuses fault) = []

abbrev pub to_put_in : DeliverStep → List ToPut
to_put_in (begins led) = led_to_put led
to_put_in (takes parcel led) = led_to_put led
to_put_in step = []

-- no starts
abbrev pub no_starts : Starts
no_starts = all []

-- the starts in it
abbrev pub led_starts : Led → Starts
led_starts (treats t) = t.starts
led_starts (refuses fault) = no_starts

abbrev pub starts_in : DeliverStep → Starts
starts_in (begins led) = led_starts led
starts_in (asks ready look starts) = starts
starts_in (takes parcel led) = led_starts led
starts_in step = no_starts

-- the marks of the feeders for which seats were split off in it, and of those that were left
abbrev pub begun_in : DeliverStep → List ℕ
begun_in step = marks_begun (starts_in step)

abbrev pub left_in : DeliverStep → List ℕ
left_in step = marks_left (starts_in step)

-- how a deliverer ends that met this refusal of the session
abbrev pub end_of_fault : SessionFault → DeliverEnd
end_of_fault SessionFault.NoMemory = DeliverEnd.NoMemory
end_of_fault fault = DeliverEnd.Fault fault

-- how it ends after such a call, if it does
abbrev pub end_of_led : Led → Option DeliverEnd
end_of_led (treats t) = end_of_starts t.starts
end_of_led (refuses fault) = Some (end_of_fault fault)

-- the refusal, if it was refused
abbrev pub refusal_of_led : Led → Option SessionFault
refusal_of_led (treats t) = None
refusal_of_led (refuses fault) = Some fault

-- what counts of the steps so far
pub record DeliverState : Type 0 where
  -- whether the session was begun
  pub begun : Bool
  -- whether a parcel may be taken now: the session is ready, or the end was seen closed
  pub may_take : Bool
  -- whether the end was seen closed when the session was last asked
  pub closed : Bool
  -- whether a put was stopped
  pub stopped : Bool
  -- which refusal the session answered, if it did
  pub refused : Option SessionFault
  -- how the deliverer ended, if it did
  pub ended : Option DeliverEnd

-- before the first step
abbrev pub at_first_delivery : DeliverState
at_first_delivery = record {
  begun = false;
  may_take = false;
  closed = false;
  stopped = false;
  refused = None;
  ended = None;
}

-- whether a put was stopped by now
abbrev pub stopped_after : Bool → Led → Bool
stopped_after stopped (treats t) = stopped || fold stopped_by false t.trials
stopped_after stopped (refuses fault) = stopped

-- after one step more
abbrev pub deliver_after : DeliverState → DeliverStep → DeliverState
deliver_after s (begins led) = record {
  begun = true;
  may_take = s.may_take;
  closed = s.closed;
  stopped = stopped_after s.stopped led;
  refused = refusal_of_led led;
  ended = end_of_led led;
}
deliver_after s (asks_in_vain fault) = record {
  begun = s.begun;
  may_take = s.may_take;
  closed = s.closed;
  stopped = s.stopped;
  refused = Some fault;
  ended = Some (end_of_fault fault);
}
deliver_after s (asks ready look starts) = record {
  begun = s.begun;
  may_take = ready || look.closed;
  closed = look.closed;
  stopped = s.stopped;
  refused = None;
  ended = end_of_starts starts;
}
deliver_after s (takes parcel led) = record {
  begun = s.begun;
  may_take = false;
  closed = s.closed;
  stopped = stopped_after s.stopped led;
  refused = refusal_of_led led;
  ended = end_of_led led;
}
deliver_after s finds_none = record {
  begun = s.begun;
  may_take = false;
  closed = s.closed;
  stopped = s.stopped;
  refused = None;
  ended = if s.closed then Some DeliverEnd.Closed else None;
}

-- what these steps come to
abbrev pub delivered_by : List DeliverStep → DeliverState
delivered_by steps = fold deliver_after at_first_delivery steps

-- the items of a verdict are put in, in order, up to the first that is stopped; none once one was
pub record IsPut (stopped : Bool) (t : Treated) : Type 0 where
  pub tried :
      stopped ≡ false
      → PutsPrefix (to_put t.last t.puts) t.trials (fold stopped_by false t.trials)
  pub skipped : stopped ≡ true → t.trials ≡ []

abbrev pub IsLed : Bool → Led → Type 0
IsLed stopped (treats t) = IsPut stopped t
IsLed stopped (refuses fault) = Unit {0}

-- the session is begun first, and once; it is asked whether it is ready before each parcel
abbrev pub IsNext : DeliverState → DeliverStep → Type 0
IsNext s (begins led) = (s.begun ≡ false) × IsLed s.stopped led
IsNext s (asks_in_vain fault) = (s.begun ≡ true) × (s.may_take ≡ false)
IsNext s (asks ready look starts) = (s.begun ≡ true) × (s.may_take ≡ false)
IsNext s (takes parcel led) = (s.begun ≡ true) × (s.may_take ≡ true) × IsLed s.stopped led
IsNext s finds_none = (s.begun ≡ true) × (s.may_take ≡ true)

-- a step that may come: none comes after the last
abbrev pub MayDeliver : DeliverState → DeliverStep → Type 0
MayDeliver s step = (s.ended ≡ None) × IsNext s step

-- the calls at its end: a refusal closes the end, and a fault is noted before that
abbrev pub closing_deliverer : Option DeliverEnd → List (EndCall × EndAnswer)
closing_deliverer None = []
closing_deliverer (Some DeliverEnd.Closed) = []
closing_deliverer (Some end) = (EndCall.Close, EndAnswer.Done) ∷ []

abbrev pub noting_deliverer : Option DeliverEnd → List (ShelfCall × ShelfAnswer)
noting_deliverer (Some (DeliverEnd.Fault fault)) =
    (ShelfCall.Finish true, ShelfAnswer.Done) ∷ []
noting_deliverer end = []

-- What is done behind the join of all workers with the parcels that are left on the shelf.
use Rattle.std.specs.Prelude.{◌≡◌, Bool, true, false, ◌||◌, Option, Some, None, ℕ, List, [], ◌∷◌, ◌++◌, map}
use Rattle.std.specs.List.{flat_map, fold}
use Rattle.chan_values.specs.declared.item.Item.{Item}
use Rattle.channel_core.specs.declared.call.EndAnswer.{EndAnswer}
use Rattle.channel_core.specs.declared.call.EndCall.{EndCall}
use Rattle.turn_lock.specs.Runs.{AllFit}
use Rattle.session_run.specs.declared.parcel.Parcel.{Parcel}
use Rattle.session_run.specs.declared.shelf_call.ShelfAnswer.{ShelfAnswer}
use Rattle.session_run.specs.declared.shelf_call.ShelfCall.{ShelfCall}
use Rattle.session_feeds.specs.Puts.{PutsPrefix, ToPut, Trial, stopped_by, to_put, trial_calls}
use Rattle.session_feeds.specs.Sessions.{Account}
use Rattle.session_feeds.specs.declared.session.SessionFault.{SessionFault}
use Rattle.session_delivery.specs.Delivering.{end_of_fault, taking}
use Rattle.session_delivery.specs.declared.deliver_end.DeliverEnd.{DeliverEnd}

-- a verdict, and how it was carried out: its items were put in, and its feeders, which have these
-- marks, given back
pub record Answered : Type 0 where
  pub puts : List Item
  pub last : Bool
  pub trials : List Trial
  pub marks : List ℕ

-- one step
pub data LeftStep : Type 0 where
  -- the first parcel was given to the session, and its verdict carried out
  serves : Parcel → Answered → LeftStep
  -- it was given to the session, and refused
  refuses : Parcel → SessionFault → LeftStep
  -- there was no parcel
  ends : LeftStep

-- its calls of the end
abbrev pub left_calls : LeftStep → List (EndCall × EndAnswer)
left_calls (serves parcel a) = flat_map trial_calls a.trials
left_calls step = []

-- its calls of the shelf
abbrev pub left_shelf_calls : LeftStep → List (ShelfCall × ShelfAnswer)
left_shelf_calls (serves parcel a) = taking (Some parcel) ∷ []
left_shelf_calls (refuses parcel fault) = taking (Some parcel) ∷ []
left_shelf_calls ends = taking None ∷ []

-- the parcel that the session took in it
abbrev pub left_parcels : LeftStep → List Parcel
left_parcels (serves parcel a) = parcel ∷ []
left_parcels (refuses parcel fault) = parcel ∷ []
left_parcels ends = []

-- the items that the session gave in it
abbrev pub left_items : LeftStep → List Item
left_items (serves parcel a) = a.puts
left_items step = []

-- the same, each with whether it was to be put in as the last
abbrev pub left_to_put : LeftStep → List ToPut
left_to_put (serves parcel a) = to_put a.last a.puts
left_to_put step = []

-- the marks of the feeders that were given back in it
abbrev pub left_marks : LeftStep → List ℕ
left_marks (serves parcel a) = a.marks
left_marks step = []

-- what counts of the steps so far
pub record LeftState : Type 0 where
  -- whether a put was stopped
  pub stopped : Bool
  -- which refusal the session answered, if it did
  pub refused : Option SessionFault
  -- whether the last step was made
  pub over : Bool

-- before the first step
abbrev pub at_first_left : LeftState
at_first_left = record { stopped = false; refused = None; over = false }

-- after one step more
abbrev pub left_after : LeftState → LeftStep → LeftState
left_after s (serves parcel a) = record {
  stopped = s.stopped || fold stopped_by false a.trials;
  refused = None;
  over = false;
}
left_after s (refuses parcel fault) =
    record { stopped = s.stopped; refused = Some fault; over = true }
left_after s ends = record { stopped = s.stopped; refused = None; over = true }

-- what these steps come to
abbrev pub left_by : List LeftStep → LeftState
left_by steps = fold left_after at_first_left steps

-- the items of a verdict are put in, in order, up to the first that is stopped; none once one was
pub record IsAnswered (stopped : Bool) (a : Answered) : Type 0 where
  pub tried :
      stopped ≡ false
      → PutsPrefix (to_put a.last a.puts) a.trials (fold stopped_by false a.trials)
  pub skipped : stopped ≡ true → a.trials ≡ []

abbrev pub IsCarriedOut : Bool → LeftStep → Type 0
IsCarriedOut stopped (serves parcel a) = IsAnswered stopped a
IsCarriedOut stopped step = Unit {0}

-- a step that may come: none comes after the last
abbrev pub MayServe : LeftState → LeftStep → Type 0
MayServe s step = (s.over ≡ false) × IsCarriedOut s.stopped step

-- all is served where the deliverer had found the end closed, up to a refusal of the session;
-- where the deliverer was refused or not started, nothing is
abbrev pub IsServed : Option DeliverEnd → List LeftStep → Type 0
IsServed (Some DeliverEnd.Closed) steps = (left_by steps).over ≡ true
IsServed ended steps = steps ≡ []

-- how the deliverer ended, where this refusal behind the join counts as its own
abbrev pub end_with : Option SessionFault → Option DeliverEnd → Option DeliverEnd
end_with (Some fault) ended = Some (end_of_fault fault)
end_with None ended = ended

-- an account of the session after these steps: the feeders that were given back gave nothing
abbrev pub account_left : {C : Type 0} → List LeftStep → Account C → Account C
account_left steps a = record {
  contents = a.contents;
  taken = a.taken ++ flat_map left_parcels steps;
  given = a.given ++ flat_map left_items steps;
  back = a.back ++ map (λ mark. (mark, None)) (flat_map left_marks steps);
}

-- the steps are such as may be made behind a deliverer that ended so
pub record IsLeft (ended : Option DeliverEnd) (steps : List LeftStep) : Type 0 where
  pub may : AllFit left_after MayServe at_first_left steps
  pub served : IsServed ended steps

-- What holds of all that a deliverer does.
use Rattle.std.specs.Prelude.{◌≡◌, true, false, Option, Some, List, [], ◌∷◌, ◌++◌}
use Rattle.std.specs.List.{flat_map}
use Rattle.turn_lock.specs.Runs.{AllFit}
use Rattle.session_run.specs.Shelf.{parcels_taken}
use Rattle.session_feeds.specs.Puts.{ToPut, items_put}
use Rattle.session_delivery.specs.Delivering.{DeliverStep, MayDeliver, at_first_delivery, deliver_after, delivered_by, finds_none, noting_deliverer, parcels_in, step_calls, step_shelf_calls, to_put_in}
use Rattle.session_delivery.specs.declared.deliver_end.DeliverEnd.{DeliverEnd}

-- the parcels that a deliverer took off the shelf are those that it gave the session, in order
abbrev pub ParcelsAreServed : Type 0
ParcelsAreServed = (steps : List DeliverStep) (ended : Option DeliverEnd)
    → parcels_taken (flat_map step_shelf_calls steps ++ noting_deliverer ended)
    ≡ flat_map parcels_in steps

-- what a deliverer put in is the first of what the verdicts asked for, in order, and all of it
-- unless a put was stopped
abbrev pub VerdictsArePut : Type 0
VerdictsArePut = (steps : List DeliverStep)
    → AllFit deliver_after MayDeliver at_first_delivery steps
    → (left : List ToPut)
    × (flat_map to_put_in steps ≡ items_put (flat_map step_calls steps) ++ left)
    × ((delivered_by steps).stopped ≡ false → left ≡ [])

-- a deliverer ends at a closed end only where its last step found no parcel, and the end was seen
-- closed before it
abbrev pub ClosedIsSeen : Type 0
ClosedIsSeen = (steps : List DeliverStep)
    → AllFit deliver_after MayDeliver at_first_delivery steps
    → (delivered_by steps).ended ≡ Some DeliverEnd.Closed
    → (earlier : List DeliverStep)
    × (steps ≡ earlier ++ finds_none ∷ [])
    × ((delivered_by earlier).closed ≡ true)

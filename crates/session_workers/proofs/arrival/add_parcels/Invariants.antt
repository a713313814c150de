use Rattle.std.proofs.Common.{◌≡◌, List, ◌++◌, map}
use Rattle.std.specs.Vec.Iter.{into_iter_items}
use Rattle.chan_values.specs.declared.item.Item.{Item}
use Rattle.session_run.specs.Adds.{AddsCalls}
use Rattle.session_workers.specs.Reading.{added_call}
use Rattle.session_workers.proofs.ReaderLemmas.{parcel_of}
use Rattle.session_workers.proofs.arrival.add_parcels.Given as goal

abbrev pub invariant-loop-item : goal.invariant-loop-item
invariant-loop-item g l =
    (goal.iterator-loop-item g).can_next l.item-iterator
    × (goal.iterator-loop-item g).is_finite l.item-iterator
    × (done : List Item)
    × (into_iter_items l.initial.item-iterator ≡ done ++ into_iter_items l.item-iterator)
    × AddsCalls l.initial.seat (map added_call (map parcel_of done)) l.seat

use Rattle.turn_lock.specs.Seats.{IsSeatOf}
use Rattle.session_delivery.proofs.tests.serving.serve.Given as goal

abbrev pub invariant-loop-parcel : goal.invariant-loop-parcel
invariant-loop-parcel g l =
    (goal.iterator-loop-parcel g).can_next l.parcel-iterator
    × (goal.iterator-loop-parcel g).is_finite l.parcel-iterator
    × IsSeatOf l.shelf l.inbox

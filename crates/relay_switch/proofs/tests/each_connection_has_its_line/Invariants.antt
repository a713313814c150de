use Rattle.turn_lock.specs.Seats.{IsSeatOf}
use Rattle.relay_switch.proofs.tests.each_connection_has_its_line.Given as goal

abbrev pub invariant-loop-event : goal.invariant-loop-event
invariant-loop-event g l =
    (goal.iterator-loop-event g).can_next l.event-iterator
    × (goal.iterator-loop-event g).is_finite l.event-iterator
    × IsSeatOf l.lock l.seat

abbrev pub invariant-loop-conn : goal.invariant-loop-conn
invariant-loop-conn g l = IsSeatOf l.lock l.seat

use Rattle.turn_lock.specs.Seats.{IsSeatOf}
use Rattle.relay_desk.proofs.tests.an_opening_with_a_token_of_the_register_is_let_in.Given as goal

abbrev pub invariant-loop-first : goal.invariant-loop-first
invariant-loop-first g l =
    (goal.iterator-loop-first g).can_next l.first-iterator
    × (goal.iterator-loop-first g).is_finite l.first-iterator
    × IsSeatOf l.desk l.seat

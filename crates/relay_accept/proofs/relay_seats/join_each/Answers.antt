use Rattle.std.proofs.Common.{◌-◌, ◌∙◌, sym, ap, slice_index_or, arith}
use Rattle.relay_accept.specs.Seats.{locks_of}
use Rattle.relay_accept.proofs.SeatLemmas.{last_seat, same_locks_set, seat_in_place}
use Rattle.relay_accept.proofs.relay_seats.join_each.Goals as goal

pub join-requires-clause-into : goal.join-requires-clause-into
join-requires-clause-into c =
    seat_in_place c.loop-place.seats c.args.locks.now (c.loop-place.place - 1)
    c.index-seats-place.result c.index-locks-place.result
    (let within = c.loop-place.invariant.2 in let some = c.loop-place-test.true in omega arith)
    c.loop-place.invariant.0 c.index-locks-place.is

pub join-requires-clause-from : goal.join-requires-clause-from
join-requires-clause-from c =
    (last_seat c.pop.new.self.items c.in-Some.other c.args.locks.now c.loop-place.place
    c.index-locks-place.result c.loop-place-test.true c.loop-place.invariant.2
    (ap locks_of (sym c.in-Some.ensures.items) ∙ c.loop-place.invariant.1)
    c.index-locks-place.is).1

pub loop-place-preserved : goal.loop-place-preserved
loop-place-preserved c = (
  same_locks_set c.loop-place.seats (c.loop-place.place - 1) c.index-seats-place.result
      record {
        place =
            (slice_index_or c.loop-place.seats (c.loop-place.place - 1)
            c.index-seats-place.result).place;
        seat = c.join.new.into;
      }
      c.join.ensures.joined.same_lock
      ∙ c.loop-place.invariant.0,
  (last_seat c.pop.new.self.items c.in-Some.other c.args.locks.now c.loop-place.place
      c.index-locks-place.result c.loop-place-test.true c.loop-place.invariant.2
      (ap locks_of (sym c.in-Some.ensures.items) ∙ c.loop-place.invariant.1)
      c.index-locks-place.is).0,
  (let within = c.loop-place.invariant.2 in omega arith),
)

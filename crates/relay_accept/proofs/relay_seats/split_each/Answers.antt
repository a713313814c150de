use Rattle.std.proofs.Common.{◌≤◌, ◌++◌, [], ◌∷◌, ◌∙◌, refl, sym, ap, subst, arith}
use Rattle.std.proofs.lemmas.List.{length-map, take_all}
use Rattle.relay_accept.specs.Seats.{locks_in, locks_of}
use Rattle.relay_accept.proofs.SeatLemmas.{next_lock, one_more, same_locks_set, seat_in_place}
use Rattle.relay_accept.proofs.relay_seats.split_each.Goals as goal

pub loop-place-init : goal.loop-place-init
loop-place-init c = (c.requires, ap locks_of c.new-others.ensures.items, omega arith, refl)

pub split_one-requires : goal.split_one-requires
split_one-requires c =
    seat_in_place c.loop-place.seats c.args.locks.now c.loop-place.place c.index-seats-place.result
    c.index-locks-place.result c.loop-place-test.true c.loop-place.invariant.0
    c.index-locks-place.is

pub returns-in_err-push-clause-same : goal.returns-in_err-push-clause-same
returns-in_err-push-clause-same c =
    same_locks_set c.loop-place.seats c.loop-place.place c.index-seats-place.result
    c.split_one.new.seat c.split_one.ensures.kept.same_lock
    ∙ c.loop-place.invariant.0
    ∙ sym c.requires

pub loop-place-preserved : goal.loop-place-preserved
loop-place-preserved c = (
  same_locks_set c.loop-place.seats c.loop-place.place c.index-seats-place.result
      c.split_one.new.seat c.split_one.ensures.kept.same_lock
      ∙ c.loop-place.invariant.0,
  ap locks_of c.in_ok-push.ensures.items
      ∙ one_more c.loop-place.others.items c.split_one.result
      ∙ (λ i. c.loop-place.invariant.1 i ++ (c.split_one.ensures.given.same_lock
      ∙ seat_in_place c.loop-place.seats c.args.locks.now c.loop-place.place
      c.index-seats-place.result c.index-locks-place.result c.loop-place-test.true
      c.loop-place.invariant.0 c.index-locks-place.is) i ∷ [])
      ∙ sym (next_lock c.args.locks.now c.loop-place.place c.index-locks-place.result
      c.loop-place-test.true c.index-locks-place.is),
  (let within = c.loop-place-test.true in omega arith),
  refl,
)

pub returns-clause-same : goal.returns-clause-same
returns-clause-same c = c.loop-place.invariant.0 ∙ sym c.requires

pub returns-clause-others : goal.returns-clause-others
returns-clause-others c =
    c.loop-place.invariant.1
    ∙ take_all c.loop-place.place (locks_in c.args.locks.now)
    (subst (λ n. n ≤ c.loop-place.place) (sym (length-map c.args.locks.now _)) c.loop-place-test.false)
    ∙ sym c.requires

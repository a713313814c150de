use Rattle.std.proofs.Common.{◌<◌, sym, ap, ◌∙◌, subst, slice_index_or}
use Rattle.relay_accept.proofs.SeatLemmas.{as_many, same_locks_set, seat_in_place}
use Rattle.relay_accept.proofs.let_in.let_in.Goals as goal

pub bounds-seats-place : goal.bounds-seats-place
bounds-seats-place g c =
    subst (λ n. c.place_of-place.result < n)
    (c.args.ctx.now.paired
    ∙ sym (as_many c.args.seats.now c.args.ctx.now.switches.now c.requires.switches))
    c.place_of-place.ensures

pub let_in_at-requires-clause-rest : goal.let_in_at-requires-clause-rest
let_in_at-requires-clause-rest g c κs within =
    seat_in_place c.args.seats.now c.args.ctx.now.switches.now c.place_of-place.result
    c.index-seats-place.result c.index-ctx-place.result
    (subst (λ n. c.place_of-place.result < n) c.args.ctx.now.paired c.place_of-place.ensures)
    c.requires.switches c.index-ctx-place.is
    ∙ ap (λ l. l.table.shared.table_id) c.index-ctx-place.is

pub returns-clause-switches : goal.returns-clause-switches
returns-clause-switches g c =
    same_locks_set c.args.seats.now c.place_of-place.result c.index-seats-place.result
    record {
      place =
          (slice_index_or c.args.seats.now c.place_of-place.result
          c.index-seats-place.result).place;
      seat = c.let_in_at.new.rest;
    }
    c.let_in_at.ensures.rest

use Rattle.std.proofs.Common.{◌∙◌, ap, sym, subst}
use Rattle.turn_lock.specs.Receipts.{history_of}
use Rattle.session_crews.specs.Seats.{ShelfSeat}
use Rattle.session_end.specs.declared.seats.EndSeats.{EndSeats}
use Rattle.session_end.specs.declared.seats.ShelfSeats.{ShelfSeats}
use Rattle.session_end.specs.Closings.{AreEndSeats, AreShelfSeats, IsClosing}
use Rattle.session_end.specs.Outcomes.{outcome_of}
use Rattle.session_end.specs.Settling.{shelf_seats_after}
use Rattle.session_end.proofs.EndRunLemmas.{IsEndRun-of, IsEndRun-same}
use Rattle.session_end.proofs.RunSeatLemmas.{AreEndSeats-of, AreShelfSeats-of, CrewRan-same}
use Rattle.session_end.proofs.run.run_plan.Goals as goal

pub finish-requires-clause-ends : goal.finish-requires-clause-ends
finish-requires-clause-ends g c =
    let ran =
    CrewRan-same _ _ _ _ _ _ _ _ _ _ _ _ _ _ _ c.new-crew.ensures.crew
    c.in_threads-joined.ensures in
    subst (λ (s : EndSeats). AreEndSeats c.args.plan.shared.ends s)
    (sym c.settle.ensures.seats)
    (AreEndSeats-of _ _ _ _ _ _ _ _ _ _ c.requires.plan.0 c.requires.plan.1 c.args.plan
    c.args.link c.args.session c.split-seats.result c.split-shelf_seats.result
    c.in_threads-joined.result _ _ c.requires.plan.2 c.split-seats.ensures
    c.split-shelf_seats.ensures ran)

pub finish-requires-clause-shelf : goal.finish-requires-clause-shelf
finish-requires-clause-shelf g c =
    let ran =
    CrewRan-same _ _ _ _ _ _ _ _ _ _ _ _ _ _ _ c.new-crew.ensures.crew
    c.in_threads-joined.ensures in
    subst (λ (s : ShelfSeats). AreShelfSeats c.args.plan.shared.shelf s)
    (sym c.settle.ensures.shelf_seats)
    (subst
    (λ (m : ShelfSeat).
    AreShelfSeats c.args.plan.shared.shelf (shelf_seats_after c.in_threads-joined.result m))
    (sym c.new-crew.ensures.main)
    (AreShelfSeats-of _ _ _ _ _ _ _ _ _ _ c.requires.plan.0 c.requires.plan.1 c.args.plan
    c.args.link c.args.session c.split-seats.result c.split-shelf_seats.result
    c.in_threads-joined.result _ _ c.requires.plan.2 c.split-seats.ensures
    c.split-shelf_seats.ensures ran))

pub returns : goal.returns
returns g c setup base is =
    let joined = c.in_threads-joined.result in
    let h = history_of c.finish.result.ends in
    let k = history_of c.finish.result.shelf in
    let settle = c.settle.ensures in
    let ran =
    CrewRan-same _ _ _ _ _ _ _ _ _ _ _ _ _ _ _ c.new-crew.ensures.crew
    c.in_threads-joined.ensures in
    let closing =
    subst (λ (s : EndSeats). IsClosing s (shelf_seats_after joined
    c.split-shelf_seats.result.main) h k)
    settle.seats
    (subst (λ (s : ShelfSeats). IsClosing c.settle.result.seats s h k)
    (settle.shelf_seats
    ∙ ap (λ (m : ShelfSeat). shelf_seats_after joined m) c.new-crew.ensures.main)
    c.finish.ensures.closing) in
    IsEndRun-same _ _ _ _ _ _ _ _ _ _ _ _ _ _ _ _ _ _ _ _ _ _ _ _ _
    (c.finish.ensures.link ∙ settle.link)
    (c.finish.ensures.session ∙ settle.session)
    (ap (λ w. g.W.Spawner.faults w) (c.finish.ensures.spawner ∙ settle.spawner))
    (c.finish.ensures.outcome ∙ ap outcome_of settle.ends)
    (IsEndRun-of _ _ _ _ _ _ _ _ _ _ setup base c.args.plan c.args.link c.args.session
    c.split-seats.result c.split-shelf_seats.result joined _ _ is c.split-seats.ensures
    c.split-shelf_seats.ensures ran g.S.Session.agreed h k closing)

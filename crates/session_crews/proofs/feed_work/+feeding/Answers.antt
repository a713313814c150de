use denote.Param.Send.{sendable}
use Rattle.std.proofs.Common.{◌≡◌, true, false, Some, None, [], ◌∷◌, ◌++◌, ◌<◌, refl, sym, ap, ◌∙◌, subst, inl}
use Rattle.std.specs.List.{All}
use Rattle.turn_lock.specs.Seats.{IsSeatOf}
use Rattle.session_crews.specs.Crews.{IsOut, has_stopped}
use Rattle.session_crews.specs.FeedTurns.{end_of_look, refused, starts, starves}
use Rattle.session_crews.proofs.CrewLemmas.{IsCrew-refused, IsCrew-start}
use Rattle.session_crews.proofs.Crossing.{FeedDone-send, FeedStart-send}
use Rattle.session_crews.proofs.FeedLemmas.{alone_has_thread, refused_cause}
use Rattle.session_crews.proofs.WorkLemmas.{Fed-of, Joins-out, Joins-part, Refusing-start, Working-first, Working-on, Working-start, Working-starved, Working-turn, crew_before, true_not_false}
use Rattle.session_crews.proofs.feed_work.+feeding.Goals as goal

pub run_feeder-loop-init : goal.run_feeder-loop-init
run_feeder-loop-init g t c = (
  c.args.start.end_lock,
  c.args.start.shelf_lock,
  [],
  Working-first g.F.Feeder.told g.W.Spawner.faults c.args.start.ctx.ends.now
      c.args.start.ctx.shelf.now c.args.start.end c.args.start.shelf c.args.start.feeder
      c.new.result.items c.new.ensures.items c.args.start.end_lock c.args.start.shelf_lock
      c.requires,
)

pub run_feeder-feed_turn-requires-clause-on : goal.run_feeder-feed_turn-requires-clause-on
run_feeder-feed_turn-requires-clause-on g t c κs within =
    let m = c.loop.invariant in
    Working-on g.F.Feeder.told g.W.Spawner.faults _ _ _ _ _ m.2 _ _ _ _ m.3

pub run_feeder-loop-preserved : goal.run_feeder-loop-preserved
run_feeder-loop-preserved g t c =
    let m = c.loop.invariant in
    let w = c.in-On.ensures.goes _ _ _ m.2 m.3 in
    (w.1.crew.end_lock, w.1.crew.shelf_lock, m.2 ++ w.0 ∷ [], w.1)

pub run_feeder-own_done-done-requires-after_bounds : goal.run_feeder-own_done-done-requires-after_bounds
run_feeder-own_done-done-requires-after_bounds g t c κs within =
    (c.in-Ends.ensures.goes _ _ _ c.loop.invariant.2 c.loop.invariant.3).1.crew.end_lock

pub run_feeder-gather-requires-clause-lock : goal.run_feeder-gather-requires-clause-lock
run_feeder-gather-requires-clause-lock g t c κs within =
    c.own_done-done.ensures.end.same_seat.same_lock
    ∙ (c.in-Ends.ensures.goes _ _ _ c.loop.invariant.2 c.loop.invariant.3).1.crew.end_lock

pub run_feeder-gather-requires-clause-shelf_lock : goal.run_feeder-gather-requires-clause-shelf_lock
run_feeder-gather-requires-clause-shelf_lock g t c κs within =
    subst (IsSeatOf c.args.start.ctx.shelf.now) (sym c.own_done-done.ensures.shelf)
    (c.in-Ends.ensures.goes _ _ _ c.loop.invariant.2 c.loop.invariant.3).1.crew.shelf_lock

pub run_feeder-gather-requires-clause-out : goal.run_feeder-gather-requires-clause-out
run_feeder-gather-requires-clause-out g t c κs within =
    subst (All (IsOut g.F.Feeder.told g.W.Spawner.faults _ _)) (sym c.own_done-done.ensures.running)
    (c.in-Ends.ensures.goes _ _ _ c.loop.invariant.2 c.loop.invariant.3).1.crew.out

pub run_feeder-returns-in-Ends : goal.run_feeder-returns-in-Ends
run_feeder-returns-in-Ends g t c =
    let told = g.F.Feeder.told in
    let faults = g.W.Spawner.faults in
    let s = c.args.start in
    let m = c.loop.invariant in
    let w = c.in-Ends.ensures.goes _ _ _ m.2 m.3 in
    let d = c.own_done-done.ensures in
    let j = c.gather.ensures.joins _ _
    (Joins-out told faults _ _ _ _ _ d.running
    (Joins-part told faults s.end s.shelf s.feeder _ _ _ _ _ _ _ w.1.turned w.1.crew.end_made
    w.1.crew.shelf_made w.1.crew.started d.end d.shelf d.feeders d.refusals (λ is. refl)
    (λ is. subst (λ x. 0 < faults x) (sym d.spawner) (c.in-Ends.ensures.cause is)))) in
    Fed-of told faults s.end s.shelf s.feeder _ _ _ j.0 _ j.1
    (λ is. absurd (true_not_false (sym d.started ∙ sym c.gather.ensures.started ∙ is)))

pub run_feeder-own_done-done-requires-in-Refused-after_bounds : goal.run_feeder-own_done-done-requires-in-Refused-after_bounds
run_feeder-own_done-done-requires-in-Refused-after_bounds g t c κs within =
    (c.in-Refused.ensures.goes _ _ _ c.loop.invariant.2 c.loop.invariant.3).1.crew.end_lock

pub run_feeder-absorb-requires-clause-lock : goal.run_feeder-absorb-requires-clause-lock
run_feeder-absorb-requires-clause-lock g t c κs within =
    c.own_done-done-in-Refused.ensures.end.same_seat.same_lock
    ∙ (c.in-Refused.ensures.goes _ _ _ c.loop.invariant.2 c.loop.invariant.3).1.crew.end_lock

pub run_feeder-absorb-requires-clause-shelf_lock : goal.run_feeder-absorb-requires-clause-shelf_lock
run_feeder-absorb-requires-clause-shelf_lock g t c κs within =
    subst (IsSeatOf c.args.start.ctx.shelf.now) (sym c.own_done-done-in-Refused.ensures.shelf)
    (c.in-Refused.ensures.goes _ _ _ c.loop.invariant.2 c.loop.invariant.3).1.crew.shelf_lock

pub run_feeder-absorb-requires-clause-other_lock : goal.run_feeder-absorb-requires-clause-other_lock
run_feeder-absorb-requires-clause-other_lock g t c κs within =
    let w = c.in-Refused.ensures.goes _ _ _ c.loop.invariant.2 c.loop.invariant.3 in
    w.1.crew.fed.joins.end_made.same_lock ∙ w.1.crew.back_end_lock

pub run_feeder-absorb-requires-clause-other_shelf_lock : goal.run_feeder-absorb-requires-clause-other_shelf_lock
run_feeder-absorb-requires-clause-other_shelf_lock g t c κs within =
    let w = c.in-Refused.ensures.goes _ _ _ c.loop.invariant.2 c.loop.invariant.3 in
    w.1.crew.fed.joins.shelf_made.same_lock ∙ w.1.crew.back_shelf_lock

pub run_feeder-gather-requires-in-Refused-clause-lock : goal.run_feeder-gather-requires-in-Refused-clause-lock
run_feeder-gather-requires-in-Refused-clause-lock g t c κs within =
    c.absorb.ensures.same_lock
    ∙ c.own_done-done-in-Refused.ensures.end.same_seat.same_lock
    ∙ (c.in-Refused.ensures.goes _ _ _ c.loop.invariant.2 c.loop.invariant.3).1.crew.end_lock

pub run_feeder-gather-requires-in-Refused-clause-shelf_lock : goal.run_feeder-gather-requires-in-Refused-clause-shelf_lock
run_feeder-gather-requires-in-Refused-clause-shelf_lock g t c κs within =
    c.absorb.ensures.same_shelf_lock
    ∙ subst (IsSeatOf c.args.start.ctx.shelf.now) (sym c.own_done-done-in-Refused.ensures.shelf)
    (c.in-Refused.ensures.goes _ _ _ c.loop.invariant.2 c.loop.invariant.3).1.crew.shelf_lock

pub run_feeder-gather-requires-in-Refused-clause-out : goal.run_feeder-gather-requires-in-Refused-clause-out
run_feeder-gather-requires-in-Refused-clause-out g t c κs within =
    subst (All (IsOut g.F.Feeder.told g.W.Spawner.faults _ _))
    (sym c.own_done-done-in-Refused.ensures.running)
    (c.in-Refused.ensures.goes _ _ _ c.loop.invariant.2 c.loop.invariant.3).1.crew.out

pub run_feeder-returns-in-Refused : goal.run_feeder-returns-in-Refused
run_feeder-returns-in-Refused g t c =
    let told = g.F.Feeder.told in
    let faults = g.W.Spawner.faults in
    let s = c.args.start in
    let m = c.loop.invariant in
    let w = c.in-Refused.ensures.goes _ _ _ m.2 m.3 in
    let hb = w.1.crew in
    let d = c.own_done-done-in-Refused.ensures in
    let a = c.absorb.ensures.joins _ _ _ hb.promise hb.is_new hb.fed
    (inl (ap has_stopped d.refusals ∙ w.1.stopped))
    (Joins-part told faults s.end s.shelf s.feeder _ _ _ _ _ _ _ w.1.turned hb.end_made
    hb.shelf_made hb.started d.end d.shelf d.feeders d.refusals (λ is. refl)
    (λ is. subst (λ x. 0 < faults x) (sym d.spawner) (c.in-Refused.ensures.cause is))) in
    let j = c.gather-in-Refused.ensures.joins _ _ (Joins-out told faults _ _ _ _ _ d.running a) in
    Fed-of told faults s.end s.shelf s.feeder _ _ _ (hb.fed.own ∷ hb.fed.others ++ j.0) _ j.1
    (λ is. absurd
    (true_not_false
    (sym d.started
    ∙ sym c.absorb.ensures.started
    ∙ sym c.gather-in-Refused.ensures.started
    ∙ is)))

pub feed_turn-returns-in_default-clause-goes : goal.feed_turn-returns-in_default-clause-goes
feed_turn-returns-in_default-clause-goes g t c end0 shelf0 feeder0 turns so = (
  starves,
  Working-starved g.F.Feeder.told g.W.Spawner.faults _ _ end0 shelf0 feeder0 turns _ _ _ _ so _
      c.make_room.ensures.items,
)

pub feed_turn-returns-in-Goes-clause-goes : goal.feed_turn-returns-in-Goes-clause-goes
feed_turn-returns-in-Goes-clause-goes g t c end0 shelf0 feeder0 turns so =
    let m = c.in-Goes.ensures in (
      m.turn,
      Working-turn g.F.Feeder.told g.W.Spawner.faults _ _ end0 shelf0 feeder0 turns _ _ _ _ so _ _ _
          _ None c.make_room.ensures.items m,
    )

pub feed_turn-returns-in-Ends-clause-goes : goal.feed_turn-returns-in-Ends-clause-goes
feed_turn-returns-in-Ends-clause-goes g t c end0 shelf0 feeder0 turns so =
    let m = c.in-Ends.ensures in (
      m.turn,
      Working-turn g.F.Feeder.told g.W.Spawner.faults _ _ end0 shelf0 feeder0 turns _ _ _ _ so _ _ _
          _ (Some c.in-Ends.ending) c.make_room.ensures.items m,
    )

pub feed_turn-returns-in-Ends-clause-cause : goal.feed_turn-returns-in-Ends-clause-cause
feed_turn-returns-in-Ends-clause-cause g t c is =
    let m = c.in-Ends.ensures in absurd (alone_has_thread m.turn m.alone (m.ends ∙ is))

pub feed_turn-returns-in-Err-clause-goes : goal.feed_turn-returns-in-Err-clause-goes
feed_turn-returns-in-Err-clause-goes g t c end0 shelf0 feeder0 turns so =
    let told = g.F.Feeder.told in
    let faults = g.W.Spawner.faults in
    let gave = c.in-Another.ensures in
    let before = crew_before told faults _ _ end0 shelf0 feeder0 turns _ _ _ _ so _ _ _ _ gave _
    c.make_room.ensures.items in (
      refused (told c.in-Another.other).mark c.in-Err.starved,
      Refusing-start told faults _ _ end0 shelf0 feeder0 turns _ _ _ _ so _ _ _ _ gave _ _ _ _
          c.in-Err.starved _ (c.in-Err.ensures.starts _ _ _ _ _ before) c.refused_end.ensures,
    )

pub feed_turn-returns-in-Err-clause-cause : goal.feed_turn-returns-in-Err-clause-cause
feed_turn-returns-in-Err-clause-cause g t c is =
    refused_cause c.in-Err.starved _ _ c.in-Err.ensures.failed
    (ap Some (sym c.refused_end.ensures) ∙ is)

pub feed_turn-returns-then-look-clause-goes : goal.feed_turn-returns-then-look-clause-goes
feed_turn-returns-then-look-clause-goes g t c end0 shelf0 feeder0 turns so =
    let told = g.F.Feeder.told in
    let faults = g.W.Spawner.faults in
    let gave = c.in-Another.ensures in
    let before = crew_before told faults _ _ end0 shelf0 feeder0 turns _ _ _ _ so _ _ _ _ gave _
    c.make_room.ensures.items in (
      starts (told c.in-Another.other).mark c.look.result,
      Working-start told faults _ _ end0 shelf0 feeder0 turns _ _ _ _ so _ _ _ _ gave _ _ _ _
          c.look.result _ (c.in-Ok.ensures.starts _ _ _ _ _ before) c.look.ensures
          (ap end_of_look c.if-look.true),
    )

pub feed_turn-returns-clause-goes : goal.feed_turn-returns-clause-goes
feed_turn-returns-clause-goes g t c end0 shelf0 feeder0 turns so =
    let told = g.F.Feeder.told in
    let faults = g.W.Spawner.faults in
    let gave = c.in-Another.ensures in
    let before = crew_before told faults _ _ end0 shelf0 feeder0 turns _ _ _ _ so _ _ _ _ gave _
    c.make_room.ensures.items in (
      starts (told c.in-Another.other).mark c.look.result,
      Working-start told faults _ _ end0 shelf0 feeder0 turns _ _ _ _ so _ _ _ _ gave _ _ _ _
          c.look.result _ (c.in-Ok.ensures.starts _ _ _ _ _ before) c.look.ensures
          (ap end_of_look c.if-look.false),
    )

pub start_in_crew-returns-in-Ok-start_feeder-clause-starts : goal.start_in_crew-returns-in-Ok-start_feeder-clause-starts
start_in_crew-returns-in-Ok-start_feeder-clause-starts g t c end0 shelf0 calls shelf_calls marks so =
    IsCrew-start g.F.Feeder.told g.W.Spawner.faults _ _ end0 shelf0 calls shelf_calls marks _ _ _ so
    _ _ _ _ _ c.new-kept.result c.split.ensures.kept c.in-Ok.ensures.given c.split-2.ensures.kept
    c.in-Ok-split.ensures.given c.new-kept.ensures.end c.new-kept.ensures.shelf
    c.new-kept.ensures.feeder _ _ c.in-Ok-start_feeder.ensures.started c.push_reserved.ensures.items

pub start_in_crew-returns-in-Err-clause-starts : goal.start_in_crew-returns-in-Err-clause-starts
start_in_crew-returns-in-Err-clause-starts g t c end0 shelf0 calls shelf_calls marks so =
    IsCrew-refused g.F.Feeder.told g.W.Spawner.faults _ _ end0 shelf0 calls shelf_calls marks _ _ _
    so _ _ _ _ _ c.new-kept.result c.split.ensures.kept c.in-Ok.ensures.given c.split-2.ensures.kept
    c.in-Ok-split.ensures.given c.new-kept.ensures.end c.new-kept.ensures.shelf
    c.new-kept.ensures.feeder _ _ refl c.in-Err.ensures.back

-- the bounds of W, F, R, C and G stand in `requires-raw`, which search reaches only where it is
-- bound last
pub start_feeder-start_call-requires-send-T : goal.start_feeder-start_call-requires-send-T
start_feeder-start_call-requires-send-T g t c κs within =
    let raw = c.requires-raw in search (sendable, FeedDone-send, raw) depth 30

pub start_feeder-start_call-requires-send-F : goal.start_feeder-start_call-requires-send-F
start_feeder-start_call-requires-send-F g t c κs within =
    let raw = c.requires-raw in search (sendable, FeedStart-send, raw) depth 30

pub start_feeder-returns-in-Ok-clause-started : goal.start_feeder-returns-in-Ok-clause-started
start_feeder-returns-in-Ok-clause-started g t c =
    record {
      promise = c.new-promise.result;
      is_call = c.in-Ok.ensures.started;
      end = c.new-promise.ensures.end;
      shelf = c.new-promise.ensures.shelf;
      feeder = c.new-promise.ensures.feeder;
    }

use Rattle.std.proofs.Common.{◌++◌, ◌∷◌, [], ◌∙◌, refl, sym, ap, subst}
use Rattle.std.specs.Prelude.{is_some}
use Rattle.session_delivery.specs.DeliverSteps.{Serving}
use Rattle.session_delivery.proofs.ListLemmas.{None-from_is_some}
use Rattle.session_delivery.proofs.ServingLemmas.{On-from_none, Serving-first, Serving-more}
use Rattle.session_delivery.proofs.deliver_work.run_deliverer.Goals as goal

pub loop-init : goal.loop-init
loop-init g c = (
  [],
  Serving-first _ _ _ _ _ _ _ _ _ c.new.ensures.items refl refl refl refl
      c.requires.new c.requires.none_out c.args.start.end_lock c.args.start.shelf_lock,
)

pub step-answer-requires-clause-lock : goal.step-answer-requires-clause-lock
step-answer-requires-clause-lock g c κs within = c.loop.invariant.1.crew.end_lock

pub step-answer-requires-clause-shelf_lock : goal.step-answer-requires-clause-shelf_lock
step-answer-requires-clause-shelf_lock g c κs within = c.loop.invariant.1.crew.shelf_lock

pub step-answer-requires-clause-begun : goal.step-answer-requires-clause-begun
step-answer-requires-clause-begun g c κs within = c.loop.invariant.1.was_begun

pub step-answer-requires-clause-on : goal.step-answer-requires-clause-on
step-answer-requires-clause-on g c κs within is =
    c.loop.invariant.1.was_refused is ∙ c.loop.invariant.1.on refl

pub loop-preserved : goal.loop-preserved
loop-preserved g c =
    let m = c.loop.invariant in
    let s = c.step-answer.ensures in
    let none = c.ended.ensures in (
      m.0 ++ s.0 ∷ [],
      subst
          (λ a. Serving g.S.F.Feeder.told g.W.Spawner.faults c.args.start.ctx.ends.now
          c.args.start.ctx.shelf.now g.S.Session.stands g.S.Session.out g.S.Session.begun
          g.S.Session.refused c.args.start.session c.args.start.end c.args.start.shelf
          (m.0 ++ s.0 ∷ []) c.step-answer.new.self a)
          (On-from_none c.step-answer.result
          (sym none
          ∙ None-from_is_some c.ended.result (sym c.is_some.ensures ∙ c.if-is_some.false)))
          (Serving-more _ _ _ _ _ _ _ _ _ _ _ m.0 _ _ s.0 _ m.1 s.1),
    )

pub finish-requires-clause-serving : goal.finish-requires-clause-serving
finish-requires-clause-serving g c κs within =
    let m = c.loop.invariant in
    let s = c.step-answer.ensures in (
      c.args.start.session,
      c.args.start.end,
      c.args.start.shelf,
      m.0 ++ s.0 ∷ [],
      Serving-more _ _ _ _ _ _ _ _ _ _ _ m.0 _ _ s.0 _ m.1 s.1,
    )

pub finish-requires-clause-last : goal.finish-requires-clause-last
finish-requires-clause-last g c κs within =
    ap is_some (sym c.ended.ensures) ∙ (sym c.is_some.ensures ∙ c.if-is_some.true)

pub returns-then-is_some : goal.returns-then-is_some
returns-then-is_some g c =
    let m = c.loop.invariant in
    let s = c.step-answer.ensures in
    c.finish.ensures _ _ _ _ (Serving-more _ _ _ _ _ _ _ _ _ _ _ m.0 _ _ s.0 _ m.1 s.1)

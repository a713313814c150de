use Rattle.std.proofs.Common.{◌∙◌, ◌∷◌, ◌++◌, [], ap, refl, sym}
use Rattle.session_end.specs.Services.{state_of}
use Rattle.session_end.proofs.LeftoverLemmas.{Leaves-all, Serving-first, Serving-more, on_unrefused}
use Rattle.session_end.proofs.delivering.Service.serve.Goals as goal

pub loop-init : goal.loop-init
loop-init g c = (
  [],
  Serving-first g.S.Session.stands g.S.Session.out g.S.Session.begun g.S.Session.refused
      c.args.self.now _ refl c.requires.none_out c.requires.begun c.requires.on,
  refl,
  refl,
)

pub loop-preserved : goal.loop-preserved
loop-preserved g c =
    let m = c.loop.invariant in
    let s = c.step.ensures in (
      m.0 ++ s.0 ∷ [],
      Serving-more g.S.Session.stands g.S.Session.out g.S.Session.begun g.S.Session.refused
          c.args.self.now c.loop.self c.step.new.self c.loop.progress c.step.new.progress m.0
          s.0 m.1 s.1,
      ap (λ p. p.refused) s.1.state
          ∙ on_unrefused (state_of c.loop.progress) s.0
          (sym (ap (λ p. p.over) s.1.state) ∙ c.if-progress.false),
      c.if-progress.false,
    )

pub returns-then-progress : goal.returns-then-progress
returns-then-progress g c =
    let m = c.loop.invariant in
    let s = c.step.ensures in
    Leaves-all g.S.Session.stands g.S.Session.out g.S.Session.begun g.S.Session.refused
    c.args.self.now c.step.new.self c.step.new.progress (m.0 ++ s.0 ∷ []) c.requires.on
    c.if-progress.true
    (Serving-more g.S.Session.stands g.S.Session.out g.S.Session.begun g.S.Session.refused
    c.args.self.now c.loop.self c.step.new.self c.loop.progress c.step.new.progress m.0 s.0 m.1
    s.1)

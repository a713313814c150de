use Rattle.std.proofs.Common.{◌∙◌, ◌++◌, ◌∷◌, [], map, refl, sym, ap, subst, append_assoc}
use Rattle.std.proofs.lemmas.List.{append-nil}
use Rattle.session_feeds.specs.Marks.{ComesBack, times}
use Rattle.session_feeds.specs.Sessions.{AllCameBack}
use Rattle.session_crews.proofs.MarkLemmas.{ComesBack-next, ComesBack-out}
use Rattle.session_delivery.proofs.BackLemmas.{AllCameBack-more, AllCameBack-none}
use Rattle.session_delivery.proofs.giving_back.give_back.Goals as goal

pub loop-init : goal.loop-init
loop-init g c = ([], refl, AllCameBack-none _, (λ left all. all), refl, refl)

pub back-requires : goal.back-requires
back-requires g c =
    let m = c.loop.invariant in
    let told = g.S.F.Feeder.told in
    ComesBack-out _ (told c.in-Some-take_first.feeder) _ c.requires.0
    (subst (λ l. ComesBack (times (g.S.Session.out c.loop.session)) l c.requires.0)
    (ap (map told) c.in-Some-take_first.ensures) (m.3 c.requires.0 c.requires.1))

pub loop-preserved : goal.loop-preserved
loop-preserved g c =
    let m = c.loop.invariant in
    let told = g.S.F.Feeder.told in
    let f = told c.in-Some-take_first.feeder in
    let now = ap (map told) c.in-Some-take_first.ensures in (
      m.0 ++ f ∷ [],
      m.1 ∙ ap (λ l. m.0 ++ l) now ∙ sym (append_assoc m.0 (f ∷ []) _),
      AllCameBack-more (g.S.Session.stands c.args.session.now)
          (g.S.Session.stands c.loop.session) (g.S.Session.stands c.back.new.self) m.0 f m.2
          c.back.ensures.stands,
      (λ left all.
          ComesBack-next _ _ f _ left
          (subst (λ l. ComesBack (times (g.S.Session.out c.loop.session)) l left) now
          (m.3 left all)) c.back.ensures.out),
      c.back.ensures.begun ∙ m.4,
      c.back.ensures.refused ∙ m.5,
    )

pub returns-in-None-take_first-clause-out : goal.returns-in-None-take_first-clause-out
returns-in-None-take_first-clause-out g c left all =
    subst (λ l. ComesBack (times (g.S.Session.out c.loop.session)) l left)
    (ap (map g.S.F.Feeder.told) c.in-None-take_first.ensures) (c.loop.invariant.3 left all)

pub returns-in-None-take_first-clause-stands : goal.returns-in-None-take_first-clause-stands
returns-in-None-take_first-clause-stands g c =
    let m = c.loop.invariant in
    let told = g.S.F.Feeder.told in
    subst
    (λ l. AllCameBack (g.S.Session.stands c.args.session.now) l
    (g.S.Session.stands c.loop.session))
    (sym
    (m.1 ∙ ap (λ l. m.0 ++ map told l) c.in-None-take_first.ensures ∙ append-nil m.0))
    m.2

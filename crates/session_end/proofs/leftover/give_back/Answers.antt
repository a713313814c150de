use Rattle.std.proofs.Common.{◌∙◌, ◌++◌, ◌∷◌, [], map, refl, sym, ap, subst, append_assoc, arith}
use Rattle.std.specs.Vec.{vec_len}
use Rattle.std.proofs.lemmas.Bool.{eqb-true}
use Rattle.std.proofs.lemmas.List.{append-nil, nil_from_length}
use Rattle.session_feeds.specs.Marks.{ComesBack, times}
use Rattle.session_feeds.specs.Sessions.{AllCameBack}
use Rattle.session_crews.proofs.MarkLemmas.{ComesBack-next, ComesBack-out}
use Rattle.session_delivery.proofs.BackLemmas.{AllCameBack-more, AllCameBack-none}
use Rattle.session_delivery.proofs.ListLemmas.{first_out}
use Rattle.session_end.proofs.leftover.give_back.Goals as goal

pub loop-session-init : goal.loop-session-init
loop-session-init g c = ([], refl, AllCameBack-none _, (λ after all. all), refl, refl)

pub back-requires : goal.back-requires
back-requires g c =
    let m = c.loop-session.invariant in
    let told = g.S.F.Feeder.told in
    let front = first_out c.loop-session.feeders.items c.remove.new.self.items c.remove.result
    (omega (arith, c.remove.ensures.len, c.loop-session.feeders.ok.0))
    c.remove.ensures.value c.remove.ensures.by_index.2 in
    ComesBack-out _ (told c.remove.result) _ c.requires.0
    (subst (λ l. ComesBack (times (g.S.Session.out c.loop-session.session)) l c.requires.0)
    (ap (map told) front) (m.3 c.requires.0 c.requires.1))

pub loop-session-preserved : goal.loop-session-preserved
loop-session-preserved g c =
    let m = c.loop-session.invariant in
    let told = g.S.F.Feeder.told in
    let f = told c.remove.result in
    let front = first_out c.loop-session.feeders.items c.remove.new.self.items c.remove.result
    (omega (arith, c.remove.ensures.len, c.loop-session.feeders.ok.0))
    c.remove.ensures.value c.remove.ensures.by_index.2 in
    let now = ap (map told) front in (
      m.0 ++ f ∷ [],
      m.1 ∙ ap (λ l. m.0 ++ l) now ∙ sym (append_assoc m.0 (f ∷ []) _),
      AllCameBack-more (g.S.Session.stands c.args.session.now)
          (g.S.Session.stands c.loop-session.session) (g.S.Session.stands c.back.new.self) m.0 f
          m.2 c.back.ensures.stands,
      (λ after all.
          ComesBack-next _ _ f _ after
          (subst (λ l. ComesBack (times (g.S.Session.out c.loop-session.session)) l after) now
          (m.3 after all)) c.back.ensures.out),
      c.back.ensures.begun ∙ m.4,
      c.back.ensures.refused ∙ m.5,
    )

pub returns-clause-out : goal.returns-clause-out
returns-clause-out g c after all =
    let zero = eqb-true (vec_len c.loop-session.feeders) 0
    (sym c.is_empty.ensures ∙ c.loop-session-test.false) in
    let none = nil_from_length c.loop-session.feeders.items
    (omega (arith, zero, c.loop-session.feeders.ok.0)) in
    subst (λ l. ComesBack (times (g.S.Session.out c.loop-session.session)) l after)
    (ap (map g.S.F.Feeder.told) none) (c.loop-session.invariant.3 after all)

pub returns-clause-stands : goal.returns-clause-stands
returns-clause-stands g c =
    let m = c.loop-session.invariant in
    let told = g.S.F.Feeder.told in
    let zero = eqb-true (vec_len c.loop-session.feeders) 0
    (sym c.is_empty.ensures ∙ c.loop-session-test.false) in
    let none = nil_from_length c.loop-session.feeders.items
    (omega (arith, zero, c.loop-session.feeders.ok.0)) in
    subst
    (λ l. AllCameBack (g.S.Session.stands c.args.session.now) l
    (g.S.Session.stands c.loop-session.session))
    (sym (m.1 ∙ ap (λ l. m.0 ++ map told l) none ∙ append-nil m.0)) m.2

pub returns-clause-begun : goal.returns-clause-begun
returns-clause-begun g c = c.loop-session.invariant.4

pub returns-clause-refused : goal.returns-clause-refused
returns-clause-refused g c = c.loop-session.invariant.5

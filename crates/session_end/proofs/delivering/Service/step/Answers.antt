use Rattle.std.proofs.Common.{◌∙◌, ◌∷◌, ◌++◌, [], ap, refl, subst}
use Rattle.session_run.specs.Adds.{AddsCalls}
use Rattle.session_delivery.specs.Delivering.{taking}
use Rattle.session_end.specs.Leftovers.{refuses, serves}
use Rattle.session_end.proofs.LeftoverLemmas.{Serves-refused, Serves-served}
use Rattle.session_end.proofs.delivering.Service.step.Goals as goal

pub returns-in-Ok : goal.returns-in-Ok
returns-in-Ok g c = (
  serves c.in-Some.parcel c.answer.ensures.0,
  Serves-served g.S.Session.stands g.S.Session.out g.S.Session.begun g.S.Session.refused
      g.S.F.Feeder.told c.args.self.now _ c.args.progress.now c.in-Some.parcel c.in-Ok.verdict
      c.answer.ensures.0 c.answer.new.self c.answer.new.progress c.requires.goes_on
      c.requires.unrefused refl
      (subst (λ p. AddsCalls c.args.self.now.shelf (taking p ∷ []) c.first.new.seat)
      c.in-Some.is c.first.ensures)
      c.in-Ok.ensures.begun c.in-Ok.ensures.refused c.in-Ok.ensures.stands c.answer.ensures.1,
)

pub returns-in-Err : goal.returns-in-Err
returns-in-Err g c = (
  refuses c.in-Some.parcel c.in-Err.fault,
  Serves-refused g.S.Session.stands g.S.Session.out g.S.Session.begun g.S.Session.refused
      c.args.self.now c.args.progress.now c.in-Some.parcel c.in-Err.fault _ _
      c.requires.goes_on refl refl
      (subst (λ p. AddsCalls c.args.self.now.shelf (taking p ∷ []) c.first.new.seat)
      c.in-Some.is c.first.ensures)
      c.in-Err.ensures.stands
      (c.in-Err.ensures.out ∙ ap (λ l. l ++ []) c.requires.none_out)
      c.in-Err.ensures.begun c.in-Err.ensures.refused,
)

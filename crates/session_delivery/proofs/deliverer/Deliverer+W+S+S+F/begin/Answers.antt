use Rattle.std.proofs.Common.{[], refl}
use Rattle.session_run.proofs.AddsLemmas.{AddsCalls-none}
use Rattle.session_delivery.specs.Delivering.{begins, refuses, treats}
use Rattle.session_delivery.proofs.StartLemmas.{fault_cause}
use Rattle.session_delivery.proofs.StepLemmas.{CrewGoes-calls, Delivers-refused, Delivers-treats}
use Rattle.session_delivery.proofs.deliverer.Deliverer+W+S+S+F.begin.Goals as goal

pub returns-in-Ok : goal.returns-in-Ok
returns-in-Ok g c =
    let b = c.in-Ok.ensures in
    let t = c.treat.ensures in (
      begins (treats t.0),
      Delivers-treats _ _ _ _ _ _ _ _ _ _ _ _ _ _ _ t.1 (refl, (c.requires.new, t.1.is_put)) refl
          b.begun b.refused b.stands refl b.out refl t.1.crew,
    )

pub returns-in-Err : goal.returns-in-Err
returns-in-Err g c =
    let b = c.in-Err.ensures in (
      begins (refuses c.in-Err.fault),
      Delivers-refused _ _ _ _ _ _ _ _ _ _ _ c.in-Err.fault _ c.end_of_fault.ensures
          (refl, (c.requires.new, tt)) refl b.begun b.refused b.stands b.out refl
          (CrewGoes-calls _ _ _ _ c.args.self.now.crew c.args.self.now.crew [] []
          (AddsCalls-none _) (AddsCalls-none _) refl)
          (fault_cause c.in-Err.fault),
    )

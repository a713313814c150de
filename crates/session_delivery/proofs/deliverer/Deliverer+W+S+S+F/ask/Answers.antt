use Rattle.std.proofs.Common.{[], refl}
use Rattle.session_run.proofs.AddsLemmas.{AddsCalls-none}
use Rattle.session_delivery.specs.Delivering.{asks, asks_in_vain}
use Rattle.session_delivery.proofs.StartLemmas.{fault_cause}
use Rattle.session_delivery.proofs.StepLemmas.{CrewGoes-calls, Delivers-asks, Delivers-refused, Gives-stays}
use Rattle.session_delivery.proofs.deliverer.Deliverer+W+S+S+F.ask.Goals as goal

pub returns-in-Err : goal.returns-in-Err
returns-in-Err g c =
    let b = c.in-Err.ensures in (
      asks_in_vain c.in-Err.fault,
      Delivers-refused _ _ _ _ _ _ _ _ _ _ _ c.in-Err.fault _ c.end_of_fault.ensures
          (refl, (c.requires.later, c.requires.waits)) refl b.begun b.refused
          (Gives-stays _ _ b.stands) b.out refl
          (CrewGoes-calls _ _ _ _ c.args.self.now.crew c.args.self.now.crew [] []
          (AddsCalls-none _) (AddsCalls-none _) refl)
          (fault_cause c.in-Err.fault),
    )

pub returns : goal.returns
returns g c =
    let b = c.in-Ok.ensures in
    let s = c.start_all.ensures in (
      asks c.in-Ok.made.0 c.look.result s.0,
      Delivers-asks _ _ _ _ _ _ _ _ _ _ _ c.in-Ok.made.0 c.look.result s.0 _ _ s.1
          (refl, (c.requires.later, c.requires.waits)) refl b.begun b.refused b.stands b.out
          c.look.ensures (AddsCalls-none _) refl,
    )

use Rattle.std.proofs.Common.{false, Option, Some, None, [], ◌∷◌, refl, sym, ap}
use Rattle.std.specs.Prelude.{if◌then◌else◌}
use Rattle.session_run.proofs.AddsLemmas.{AddsCalls-none}
use Rattle.session_delivery.specs.Delivering.{finds_none, refuses, takes, taking, treats}
use Rattle.session_delivery.specs.DeliverSteps.{state_of}
use Rattle.session_delivery.specs.declared.deliver_end.DeliverEnd.{DeliverEnd}
use Rattle.session_delivery.specs.declared.delivered.Delivered.{Delivered}
use Rattle.session_delivery.proofs.StartLemmas.{fault_cause}
use Rattle.session_delivery.proofs.StepLemmas.{CrewGoes-before, CrewGoes-calls, Delivers-finds_none, Delivers-refused, Delivers-treats}
use Rattle.session_delivery.proofs.deliverer.Deliverer+W+S+S+F.take.Goals as goal

pub returns-in-Ok : goal.returns-in-Ok
returns-in-Ok g c =
    let b = c.in-Ok.ensures in
    let t = c.treat.ensures in
    let old = c.args.self.now.crew in (
      takes c.in-Some.parcel (treats t.0),
      Delivers-treats _ _ _ _ _ _ _ _ _ _ _ _ _ _ _ t.1
          (refl, (c.requires.later, c.requires.may, t.1.is_put)) refl b.begun b.refused b.stands
          refl b.out refl
          (CrewGoes-before _ _ _ _ old (record old { shelf = c.first.new.seat }) []
          (taking (Some c.in-Some.parcel) ∷ []) (AddsCalls-none _) c.in-Some.ensures refl _ _ _
          c.treat.new.self.crew c.treat.result t.1.crew),
    )

pub returns-in-Err : goal.returns-in-Err
returns-in-Err g c =
    let b = c.in-Err.ensures in
    let old = c.args.self.now.crew in (
      takes c.in-Some.parcel (refuses c.in-Err.fault),
      Delivers-refused _ _ _ _ _ _ _ _ _ _ _ c.in-Err.fault _ c.end_of_fault.ensures
          (refl, (c.requires.later, c.requires.may, tt)) refl b.begun b.refused b.stands b.out refl
          (CrewGoes-calls _ _ _ _ old (record old { shelf = c.first.new.seat }) []
          (taking (Some c.in-Some.parcel) ∷ []) (AddsCalls-none _) c.in-Some.ensures refl)
          (fault_cause c.in-Err.fault),
    )

pub returns-then-self : goal.returns-then-self
returns-then-self g c =
    let old = c.args.self.now in (
      finds_none,
      Delivers-finds_none _ _ _ _ _ _ _ _ _ _ (Delivered.Ends DeliverEnd.Closed)
          (refl, (c.requires.later, c.requires.may))
          (ap (λ (o : Option DeliverEnd). state_of (record old { may_take = false }) None o)
          (sym (ap (λ b. if b then Some DeliverEnd.Closed else None) c.if-self.true)))
          refl c.requires.begun c.requires.on refl
          (CrewGoes-calls _ _ _ _ old.crew (record old.crew { shelf = c.first.new.seat }) []
          (taking None ∷ []) (AddsCalls-none _) c.in-None.ensures refl)
          (λ is. absurd (cc)),
    )

pub returns-else-self : goal.returns-else-self
returns-else-self g c =
    let old = c.args.self.now in (
      finds_none,
      Delivers-finds_none _ _ _ _ _ _ _ _ _ _ Delivered.On
          (refl, (c.requires.later, c.requires.may))
          (ap (λ (o : Option DeliverEnd). state_of (record old { may_take = false }) None o)
          (sym (ap (λ b. if b then Some DeliverEnd.Closed else None) c.if-self.false)))
          refl c.requires.begun c.requires.on refl
          (CrewGoes-calls _ _ _ _ old.crew (record old.crew { shelf = c.first.new.seat }) []
          (taking None ∷ []) (AddsCalls-none _) c.in-None.ensures refl)
          (λ is. absurd (cc)),
    )

use Rattle.std.proofs.Common.{◌≡◌, Some, inl, inr, subst, sym}
use Rattle.chan_values.specs.declared.side.Side.{Side}
use Rattle.chan_values.specs.Sides.{other}
use Rattle.channel_core.specs.Wire.{message_of}
use Rattle.channel_core.specs.declared.message.Outgoing.{Outgoing}
use Rattle.channel_core.proofs.ArrivalLemmas.{IsEncodable-message_of}
use Rattle.session_audit.specs.Journal.{IsEmission}
use Rattle.session_audit.proofs.EndLemmas.{if_ok}
use Rattle.session_audit.proofs.emitted.spelled.Goals as goal

pub returns-in-Some-clause-only : goal.returns-in-Some-clause-only
returns-in-Some-clause-only c =
    if_ok c.compared.result _ _ c.compared.ensures.only
    (λ found only out heard is.
    let side = other c.args.hearer in
    elim (c.in-Ok.ensures.again (message_of side out) (IsEncodable-message_of side out is.0.0 is.0.1) is.1) [
      | inl e ↦
          let same : c.in-Ok.message ≡ message_of side out = cc in
          let some = c.in-Some.ensures.only side out is.0.0 heard same in
          let it : c.in-Some.out ≡ out = cc in
          let mine : IsEmission side c.args.bytes.now c.in-Some.out
          = subst (λ (o : Outgoing). IsEmission side c.args.bytes.now o) (sym it) is in
          let sent : IsEmission c.other.result c.args.bytes.now c.in-Some.out
          = subst
          (λ (s : Side). IsEmission s c.args.bytes.now c.in-Some.out) (sym c.other.ensures) mine in
          subst (λ (o : Outgoing). found ≡ Some o) it (only sent)
      | inr e ↦ absurd (cc)
    ])

pub returns-in-None-clause-only : goal.returns-in-None-clause-only
returns-in-None-clause-only c out heard is =
    let side = other c.args.hearer in
    elim (c.in-Ok.ensures.again (message_of side out) (IsEncodable-message_of side out is.0.0 is.0.1) is.1) [
      | inl e ↦
          let same : c.in-Ok.message ≡ message_of side out = cc in
          let some = c.in-None.ensures.only side out is.0.0 heard same in cc
      | inr e ↦ absurd (cc)
    ]

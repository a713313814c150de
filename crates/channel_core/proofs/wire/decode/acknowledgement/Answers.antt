use Rattle.std.proofs.Common.{◌≡◌, ◌∙◌, inl, inr, ap, Err}
use Rattle.std.proofs.lemmas.Result.{err_from_is_err_and}
use Rattle.json_members.specs.declared.body_fault.BodyFault.TheVariants as BodyFault
use Rattle.channel_core.specs.Arrival.{refusal_of_body}
use Rattle.channel_core.specs.Wire.{ack_body}
use Rattle.channel_core.proofs.ArrivalLemmas.{IsWritableAck-ack_body, never_negative, magnitude}
use Rattle.channel_core.proofs.wire.decode.acknowledgement.Goals as goal

pub returns-in_err-ack-clause-written : goal.returns-in_err-ack-clause-written
returns-in_err-ack-clause-written c = λ side seq id small long bytes is.
    let err = err_from_is_err_and c.from_residual.result c.from_residual.ensures.1 in
    elim (c.in_err-ack.ensures.written (ack_body side seq id)
    (IsWritableAck-ack_body side seq id small long bytes) is) [
      | inl e ↦ absurd (cc)
      | inr e ↦
          let memory : c.in_err-ack.field-0.0 ≡ BodyFault.NoMemory = cc in
          inr (err.1 ∙ ap Err (err.2 ∙ ap refusal_of_body memory))
    ]

pub returns-then-ack-lt0-clause-written : goal.returns-then-ack-lt0-clause-written
returns-then-ack-lt0-clause-written c = λ side seq id small long bytes is.
    elim (c.in_ok-ack.ensures.written (ack_body side seq id)
    (IsWritableAck-ack_body side seq id small long bytes) is) [
      | inl e ↦
          let same : c.in_ok-ack.ack ≡ ack_body side seq id = cc in
          absurd (never_negative c.in_ok-ack.ack.seq seq
          (ap (λ ack. ack.seq) same) small c.if-ack-lt0.true)
      | inr e ↦ absurd (cc)
    ]

pub returns-clause-written : goal.returns-clause-written
returns-clause-written c = λ side seq id small long bytes is.
    elim (c.in_ok-ack.ensures.written (ack_body side seq id)
    (IsWritableAck-ack_body side seq id small long bytes) is) [
      | inl e ↦
          let same : c.in_ok-ack.ack ≡ ack_body side seq id = cc in
          let number = magnitude c.in_ok-ack.ack.seq seq (ap (λ ack. ack.seq) same) small in
          inl (cc)
      | inr e ↦ absurd (cc)
    ]

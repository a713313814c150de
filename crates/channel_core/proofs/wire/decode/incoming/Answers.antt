use Rattle.std.proofs.Common.{◌≡◌, refl, ◌∙◌, inl, inr, ap, Err, ◌<◌, All, arith}
use Rattle.std.proofs.lemmas.Result.{err_from_is_err_and}
use Rattle.std.proofs.lemmas.List.Elements.{All-from_get_or}
use Rattle.chan_values.specs.Sides.{other}
use Rattle.agent_message.specs.declared.refusal.Refusal.TheVariants as Refusal
use Rattle.channel_core.specs.Arrival.{refusal_of}
use Rattle.channel_core.specs.Wire.{message_of}
use Rattle.channel_core.proofs.ArrivalLemmas.{IsAnswer-heard, IsAnswer-refused, IsEncodable-message_of, heard_again}
use Rattle.channel_core.proofs.wire.decode.incoming.Goals as goal

pub returns-in_err-message-clause-answer : goal.returns-in_err-message-clause-answer
returns-in_err-message-clause-answer c =
    let err = err_from_is_err_and c.from_residual.result c.from_residual.ensures.1 in
    IsAnswer-refused c.args.side c.args.bytes.now _ _ c.in_err-message.ensures.only _ refl
    (err.1 ∙ ap Err err.2) c.in_err-message.ensures.refused

pub returns-in_err-message-clause-inverse : goal.returns-in_err-message-clause-inverse
returns-in_err-message-clause-inverse c = λ out can fits is.
    let err = err_from_is_err_and c.from_residual.result c.from_residual.ensures.1 in
    elim (c.in_err-message.ensures.again (message_of (other c.args.side) out)
    (IsEncodable-message_of _ out can fits) is) [
      | inl e ↦ absurd (cc)
      | inr e ↦
          let memory : c.in_err-message.field-0.0 ≡ Refusal.NoMemory = cc in
          inr (err.1 ∙ ap Err (err.2 ∙ ap refusal_of memory))
    ]

pub returns-clause-answer : goal.returns-clause-answer
returns-clause-answer c =
    IsAnswer-heard c.args.side c.args.bytes.now _ _ c.in_ok-message.ensures.only _ refl
    c.in_ok-message.ensures.read c.hear.ensures.answer

pub returns-clause-inverse : goal.returns-clause-inverse
returns-clause-inverse c = λ out can fits is.
    let small : All (λ byte. byte < 256) c.args.bytes.now =
    All-from_get_or (λ byte. byte < 256) c.args.bytes.now 0
    (λ i within. omega (arith, c.type_inv.bytes i)) in
    elim (c.in_ok-message.ensures.again (message_of (other c.args.side) out)
    (IsEncodable-message_of _ out can fits) is) [
      | inl e ↦
          let same : c.in_ok-message.message ≡ message_of (other c.args.side) out = cc in
          heard_again c.args.side c.args.bytes.now c.in_ok-message.message c.hear.result small
          c.hear.ensures.answer c.hear.ensures.written out can fits is same
      | inr e ↦ absurd (cc)
    ]

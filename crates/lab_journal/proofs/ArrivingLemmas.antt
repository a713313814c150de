-- What an end emits is heard at the other as what it is.
use Rattle.std.proofs.Common.{◌≡◌, ℕ, ◌+◌, ◌<◌, Bool, true, false, cond, eqb, Ok, List, inl, inr, refl, sym, ap, subst, ◌∙◌}
use Rattle.chan_values.specs.declared.side.Side.{Side}
use Rattle.chan_values.specs.Sides.{other}
use Rattle.agent_message.proofs.Spelling.{Decodes-canonical}
use Rattle.json_bodies.specs.Ack.{IsAckBody, ack_text}
use Rattle.json_bodies.proofs.AckLemmas.{IsSpelled-writable, ack_form}
use Rattle.json_bodies.proofs.ReadingLemmas.{body_of-written}
use Rattle.channel_core.specs.Arrival.{Arrives}
use Rattle.channel_core.specs.Exchange.{incoming_of}
use Rattle.channel_core.specs.Wire.{ack_body, ack_message, data_name, encoding, has_fin, stream_message}
use Rattle.channel_core.specs.declared.message.Outgoing.{Outgoing}
use Rattle.channel_core.proofs.ArrivalLemmas.{IsEncodable-message_of, IsWritableAck-ack_body}
use Rattle.channel_core.proofs.WorldLemmas.{other-other}
use Rattle.session_audit.specs.Journal.{IsSendable}
use Rattle.lab_journal.proofs.IdLemmas.{HasId}

-- the flags of a stream message have FIN where it is the last
has_fin-flags : (first last : Bool) → has_fin (cond first 1 0 + cond last 2 0) ≡ last
has_fin-flags true true = refl
has_fin-flags true false = refl
has_fin-flags false true = refl
has_fin-flags false false = refl

-- the name of a stream message is the one that the other side listens to
named : (side : Side) → data_name side ≡ data_name (other (other side))
named side = ap data_name (sym (other-other side))

pub Arrives-encoding : (side : Side) (out : Outgoing) → IsSendable side out → HasId out
    → Arrives (other side) (encoding side out) (Ok (incoming_of out))
Arrives-encoding side (Outgoing.Stream sent) sendable ids =
    let out = Outgoing.Stream sent in
    let m = stream_message side sent in
    inl (
      m,
      Decodes-canonical m (IsEncodable-message_of side out sendable.0 sendable.1),
      inl (named side, (refl, refl, refl, has_fin-flags (eqb sent.seq 0) sent.last)),
    )
Arrives-encoding side (Outgoing.Ack seq id date) sendable ids =
    let out = Outgoing.Ack seq id date in
    let m = ack_message side seq id date in
    let body = ack_body side seq id in
    let writable = IsWritableAck-ack_body side seq id sendable.0.0 sendable.1.id ids in
    let spelled : IsAckBody (ack_text body) body =
    body_of-written ack_form body (ack_text body) (IsSpelled-writable body writable) tt refl in
    inl (
      m,
      Decodes-canonical m (IsEncodable-message_of side out sendable.0 sendable.1),
      inr (inl (refl, (body, spelled, refl))),
    )

-- and so at this end of what the other emits
pub Arrives-emission : (side : Side) (out : Outgoing) → IsSendable (other side) out → HasId out
    → Arrives side (encoding (other side) out) (Ok (incoming_of out))
Arrives-emission side out sendable ids =
    subst (λ (s : Side). Arrives s (encoding (other side) out) (Ok (incoming_of out)))
    (other-other side)
    (Arrives-encoding (other side) out sendable ids)

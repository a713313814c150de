-- The body of an acknowledgement fits into a message.
use Rattle.std.proofs.Common.{List, ℕ, ◌^◌, ◌<◌, ◌≤◌, pos, length, FitsSigned, arith}
use Rattle.std.specs.Int.{w64}
use Rattle.chan_values.specs.declared.side.Side.{Side}
use Rattle.chan_values.specs.declared.side.Side.TheVariants.{Plugin, Agent}
use Rattle.chan_values.specs.Sides.{other}
use Rattle.json_bodies.proofs.LengthLemmas.{length-ack_text}
use Rattle.json_bodies.specs.Ack.{ack_text}
use Rattle.channel_core.specs.Wire.{ack_body, data_name, message_of, CanBeEncoded}
use Rattle.channel_core.specs.declared.message.Outgoing.{Outgoing}

-- the number of an acknowledgement is in its range
pub fits_signed : (seq : ℕ) → seq < 2 ^ 63 → FitsSigned w64 (pos seq)
fits_signed seq small = record { sfits = small }

length-data_name : (side : Side) → length (data_name side) ≤ 18
length-data_name Plugin = omega arith
length-data_name Agent = omega arith

-- the body of an acknowledgement fits
pub length-ack : (side : Side) (seq : ℕ) (id : List ℕ)
    → seq < 2 ^ 63
    → length (ack_text (ack_body side seq id)) ≤ 65536
length-ack side seq id small =
    omega (
      arith,
      length-ack_text (ack_body side seq id) (fits_signed seq small),
      length-data_name (other side),
    )

-- so does the payload of what can be encoded
pub length-payload : (side : Side) (out : Outgoing)
    → CanBeEncoded out
    → length (message_of side out).payload ≤ 65536
length-payload side (Outgoing.Stream sent) encodable = encodable.2
length-payload side (Outgoing.Ack seq id date) encodable = length-ack side seq id encodable.0

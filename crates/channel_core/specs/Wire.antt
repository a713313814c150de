-- What an end sends as bytes, by the names, flags and bodies of AWS Session Manager's data channel.
pub use Rattle.channel_core.specs.Condition.{CanBeEncoded}
use Rattle.std.specs.Prelude.{ℕ, ◌+◌, ◌/◌, ◌%◌, ◌==◌, Bool, if◌then◌else◌, pos, true, List, codes}
use Rattle.chan_values.specs.declared.side.Side.{Side}
use Rattle.chan_values.specs.declared.side.Side.TheVariants.{Plugin, Agent}
use Rattle.chan_values.specs.Sides.{other}
use Rattle.agent_message.specs.declared.message.Message.{Message}
use Rattle.agent_message.specs.Layout.{canonical}
use Rattle.json_bodies.specs.declared.ack.Ack.{Ack}
use Rattle.json_bodies.specs.Ack.{ack_text}
use Rattle.resend_queue.specs.declared.answer.Sent.{Sent}
use Rattle.channel_core.specs.declared.message.Outgoing.{Outgoing}

-- MessageType of the stream messages that a side sends
abbrev pub data_name : Side → List ℕ
data_name Plugin = codes "input_stream_data"
data_name Agent = codes "output_stream_data"

-- Flags of a stream message: SYN on the first, FIN on the last
abbrev pub stream_flags : ℕ → Bool → ℕ
stream_flags seq last = (if seq == 0 then 1 else 0) + (if last then 2 else 0)

-- whether these flags have FIN, their bit 1
abbrev pub has_fin : ℕ → Bool
has_fin flags = flags / 2 % 2 == 1

-- a stream message
abbrev pub stream_message : Side → Sent → Message
stream_message side sent = record {
  name = data_name side;
  schema = 1;
  date = sent.date;
  seq = pos sent.seq;
  flags = stream_flags sent.seq sent.last;
  id = sent.id;
  ptype = sent.item.ptype;
  payload = sent.item.payload;
}

-- the body of an acknowledgement: it names the other side's stream message
abbrev pub ack_body : Side → ℕ → List ℕ → Ack
ack_body side seq id =
    record { id = id; seq = pos seq; kind = data_name (other side); sequential = true }

-- an acknowledgement, with SYN and FIN and the id of the message acknowledged
abbrev pub ack_message : Side → ℕ → List ℕ → ℕ → Message
ack_message side seq id date = record {
  name = codes "acknowledge";
  schema = 1;
  date = date;
  seq = pos 0;
  flags = 3;
  id = id;
  ptype = 0;
  payload = ack_text (ack_body side seq id);
}

-- what an end of a side emits, as a message
abbrev pub message_of : Side → Outgoing → Message
message_of side (Outgoing.Stream sent) = stream_message side sent
message_of side (Outgoing.Ack seq id date) = ack_message side seq id date

-- the bytes of what an end of a side emits
abbrev pub encoding : Side → Outgoing → List ℕ
encoding side out = canonical (message_of side out)

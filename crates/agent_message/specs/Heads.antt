-- A message as its head and its payload.
use Rattle.std.specs.Prelude.{ℕ, List}
use Rattle.agent_message.specs.declared.message.Head.{Head}
use Rattle.agent_message.specs.declared.message.Message.{Message}

-- the message with this head and this payload
abbrev pub message_with : Head → List ℕ → Message
message_with head payload = record {
  name = head.name;
  schema = head.schema;
  date = head.date;
  seq = head.seq;
  flags = head.flags;
  id = head.id;
  ptype = head.ptype;
  payload = payload;
}

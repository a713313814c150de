-- The relay's own messages: each has the id and the moment of the step that sends it.
use Rattle.std.specs.Prelude.{ℕ, max, pos, List, [], codes, decimal}
use Rattle.agent_message.specs.declared.message.Message.{Message}
use Rattle.agent_message.specs.Layout.{canonical}
use Rattle.json_bodies.specs.declared.channel_closed.ChannelClosed.{ChannelClosed}
use Rattle.json_bodies.specs.ChannelClosed.{closed_text}
use Rattle.uuid.specs.Text.{hyphenated_text, lower}

-- a message without number, flags and payload type
abbrev pub own_message : List ℕ → List ℕ → ℕ → List ℕ → Message
own_message name id now payload =
    record {
      name = name;
      schema = 1;
      date = max now 1;
      seq = pos 0;
      flags = 0;
      id = id;
      ptype = 0;
      payload = payload;
    }

-- a pause: the end that hears it sends no stream message until a start
abbrev pub pause : List ℕ → ℕ → List ℕ
pause id now = canonical (own_message (codes "pause_publication") id now [])

-- a start
abbrev pub start : List ℕ → ℕ → List ℕ
start id now = canonical (own_message (codes "start_publication") id now [])

-- what a closing says
abbrev pub closing_body : List ℕ → List ℕ → ℕ → ChannelClosed
closing_body session id now =
    record {
      created = decimal (max now 1);
      destination = [];
      message_id = hyphenated_text lower id;
      kind = codes "channel_closed";
      output = [];
      schema = 1;
      session = session;
    }

-- a closing: the session has ended
abbrev pub closing : List ℕ → List ℕ → ℕ → List ℕ
closing session id now =
    canonical
    (own_message (codes "channel_closed") id now (closed_text (closing_body session id now)))

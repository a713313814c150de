-- What bytes are to the end that they come to, by the message that they spell and by its name.
use Rattle.std.specs.Prelude.{◌≡◌, ◌⊎◌, ◌<ℤ◌, pos, List, ℕ, codes, Result, Ok, Err}
use Rattle.chan_values.specs.declared.side.Side.{Side}
use Rattle.chan_values.specs.Sides.{other}
use Rattle.agent_message.specs.Decoding.{Decodes}
use Rattle.chan_values.specs.declared.item.Item.{Item}
use Rattle.agent_message.specs.declared.message.Message.{Message}
use Rattle.agent_message.specs.declared.refusal.Refusal.{Refusal}
use Rattle.json_bodies.specs.Ack.{IsAckBody, ack_faults}
use Rattle.json_bodies.specs.ChannelClosed.{IsClosedBody, closed_faults}
use Rattle.json_bodies.specs.Reading.{Shows}
use Rattle.json_bodies.specs.declared.ack.Ack.{Ack}
use Rattle.json_members.specs.declared.body_fault.BodyFault.{BodyFault}
use Rattle.json_bodies.specs.declared.channel_closed.ChannelClosed.{ChannelClosed}
use Rattle.channel_core.specs.Wire.{data_name, has_fin}
use Rattle.channel_core.specs.declared.message.Incoming.{Incoming}
use Rattle.channel_core.specs.declared.wire.InRefusal.{InRefusal}

-- what is heard, or why nothing is
abbrev pub Answer : Type 0
Answer = Result Incoming InRefusal

-- a fault of the message as a refusal; want of memory stays what it is
abbrev pub refusal_of : Refusal → InRefusal
refusal_of Refusal.NoMemory = InRefusal.NoMemory
refusal_of refusal = InRefusal.Message refusal

-- a fault of the body as a refusal; want of memory stays what it is
abbrev pub refusal_of_body : BodyFault → InRefusal
refusal_of_body BodyFault.NoMemory = InRefusal.NoMemory
refusal_of_body fault = InRefusal.Body fault

-- the payload of a message with its type
abbrev pub item_of : Message → Item
item_of m = record { ptype = m.ptype; payload = m.payload }

-- a stream message is heard with its number, id and item, as the last where its flags have FIN, unless
-- the number is negative
abbrev pub HearsStream : Message → Answer → Type 0
HearsStream m (Ok (Incoming.Stream seq id item last)) =
    (m.seq ≡ pos seq) × (m.id ≡ id) × (item_of m ≡ item) × (has_fin m.flags ≡ last)
HearsStream m (Err (InRefusal.Negative seq)) = (m.seq ≡ seq) × (seq <ℤ pos 0)
HearsStream m answer = ⊥

-- an acknowledgement is heard with the number in its body, unless the number is negative
abbrev pub HearsAck : List ℕ → Answer → Type 0
HearsAck payload (Ok (Incoming.Ack seq)) =
    (ack : Ack) × IsAckBody payload ack × (ack.seq ≡ pos seq)
HearsAck payload (Err (InRefusal.Negative seq)) =
    (ack : Ack) × IsAckBody payload ack × (ack.seq ≡ seq) × (seq <ℤ pos 0)
HearsAck payload (Err (InRefusal.Body fault)) = Shows ack_faults payload fault
HearsAck payload answer = ⊥

-- a closing is heard with its text for the user
abbrev pub HearsClosing : List ℕ → Answer → Type 0
HearsClosing payload (Ok (Incoming.Closing output)) =
    (closed : ChannelClosed) × IsClosedBody payload closed × (closed.output ≡ output)
HearsClosing payload (Err (InRefusal.Body fault)) = Shows closed_faults payload fault
HearsClosing payload answer = ⊥

-- the names that an end of a side listens to
abbrev pub IsHeardName : Side → List ℕ → Type 0
IsHeardName side name =
    (name ≡ data_name (other side))
    ⊎ (name ≡ codes "acknowledge")
    ⊎ (name ≡ codes "pause_publication")
    ⊎ (name ≡ codes "start_publication")
    ⊎ (name ≡ codes "channel_closed")

-- a message is heard by its name; a payload that is not looked at may be anything
abbrev pub Hears : Side → Message → Answer → Type 0
Hears side m answer =
    ((m.name ≡ data_name (other side)) × HearsStream m answer)
    ⊎ ((m.name ≡ codes "acknowledge") × HearsAck m.payload answer)
    ⊎ ((m.name ≡ codes "pause_publication") × (answer ≡ Ok Incoming.Pause))
    ⊎ ((m.name ≡ codes "start_publication") × (answer ≡ Ok Incoming.Start))
    ⊎ ((m.name ≡ codes "channel_closed") × HearsClosing m.payload answer)
    ⊎ ((¬ IsHeardName side m.name) × (answer ≡ Err (InRefusal.Wrong m.name)))

-- bytes are heard as the message that they spell, or refused for what is wrong with them
abbrev pub Arrives : Side → List ℕ → Answer → Type 0
Arrives side bytes answer =
    ((m : Message) × Decodes bytes (Ok m) × Hears side m answer)
    ⊎ ((refusal : Refusal) × Decodes bytes (Err refusal)
    × (answer ≡ Err (InRefusal.Message refusal)))

-- the answer, unless memory ran out
abbrev pub AnswerOrNoMemory : Answer → Answer → Type 0
AnswerOrNoMemory result answer = (result ≡ answer) ⊎ (result ≡ Err InRefusal.NoMemory)

-- the result is an answer of the relation, and no other is, unless memory ran out
pub record IsAnswer (Gives : Answer → Type 0) (result : Answer) : Type 0 where
  pub given : Gives result ⊎ (result ≡ Err InRefusal.NoMemory)
  pub only : (answer : Answer) → Gives answer → AnswerOrNoMemory result answer

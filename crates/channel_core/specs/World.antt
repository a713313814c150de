-- Two ends: one list of what happened at them, in order.
use Rattle.std.specs.Prelude.{ℕ, Option, Some, None, List}
use Rattle.std.specs.List.{All, Contains, filter_map}
use Rattle.chan_values.specs.declared.side.Side.{Side}
use Rattle.chan_values.specs.declared.side.Side.TheVariants.{Plugin, Agent}
use Rattle.chan_values.specs.Sides.{other}
use Rattle.channel_core.specs.declared.call.EndCall.{EndCall}
use Rattle.channel_core.specs.declared.message.Incoming.TheVariants as Incoming
use Rattle.channel_core.specs.declared.message.Outgoing.{Outgoing}
use Rattle.channel_core.specs.Call.{Entry, with_earlier}
use Rattle.channel_core.specs.History.{emissions}
use Rattle.channel_core.specs.Legal.{IsLegal, IsNoMemory}

-- an entry and the end at which it happened
pub record Event : Type 0 where
  pub side : Side
  pub entry : Entry

-- the entry, if it happened at this end
abbrev pub entry_at : Side → Side → Entry → Option Entry
entry_at Plugin Plugin entry = Some entry
entry_at Agent Agent entry = Some entry
entry_at Plugin Agent entry = None
entry_at Agent Plugin entry = None

-- what happened at one end
unfoldable pub history_of : Side → List Event → List Entry
history_of side world = filter_map (λ x. entry_at side x.side x.entry) world

-- both ends, each with the window w, answer as they should
abbrev pub IsLegalWorld : ℕ → List Event → Type 0
IsLegalWorld w world = (side : Side) → IsLegal w (history_of side world)

-- What a call hears is among the emissions of the other end: a stream message with its number,
-- MessageId and item, as the last or not, an acknowledgement with its number. What the relay sends may always come.
abbrev pub WasEmitted : List Outgoing → EndCall → Type 0
WasEmitted emissions (EndCall.Heard now (Incoming.Stream n id item last)) =
    (date : ℕ)
    × Contains
    emissions
    (Outgoing.Stream (record { seq = n; id = id; date = date; item = item; last = last }))
WasEmitted emissions (EndCall.Heard now (Incoming.Ack n)) =
    (id : List ℕ) × (date : ℕ) × Contains emissions (Outgoing.Ack n id date)
WasEmitted emissions call = Unit {0}

-- what this event hears was emitted at the other end by one of the earlier events; a call that
-- wants for memory hears nothing
abbrev pub HearsEmitted : List Event → Event → Type 0
HearsEmitted earlier x =
    ¬ IsNoMemory x.entry.call x.entry.answer
    → WasEmitted (emissions (history_of (other x.side) earlier)) x.entry.call

-- an end hears nothing of the other but what was emitted there before, once, often or never
unfoldable pub IsHonest : List Event → Type 0
IsHonest world = All (λ p. HearsEmitted p.0 p.1) (with_earlier world)

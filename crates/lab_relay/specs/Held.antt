-- What the code keeps of two ends and their relay. Its private parts alone cite this.
use Rattle.std.specs.Prelude.{◌≡◌, ◌⊎◌, ℕ, ◌^◌, ◌<◌, ◌≤◌, false, Option, Some, List, [], ◌∷◌, ◌++◌, Ok, length, map, nat_eq, slice_get}
use Rattle.std.specs.List.{All, filter_map, list_any}
use Rattle.std.specs.Option.{option_map}
use Rattle.chan_values.specs.declared.side.Side.{Side}
use Rattle.chan_values.specs.declared.side.Side.TheVariants.{Plugin, Agent}
use Rattle.chan_values.specs.Sides.{other}
use Rattle.channel_core.specs.Arrival.{Arrives}
use Rattle.channel_core.specs.declared.call.EndCall.{EndCall}
use Rattle.channel_core.specs.declared.message.Incoming.{Incoming}
use Rattle.channel_core.specs.declared.message.Outgoing.{Outgoing}
use Rattle.channel_core.specs.Exchange.{incoming_of}
use Rattle.channel_core.specs.History.{emissions}
use Rattle.channel_core.specs.Wire.{encoding}
use Rattle.channel_core.specs.World.{Event, WasEmitted, history_of}
use Rattle.relay_core.specs.declared.event.Event.{Event as RelayEvent}
use Rattle.relay_core.specs.Forwarding.{actions, openings, place, place_of}
use Rattle.relay_core.specs.Kept.{Stands}
use Rattle.lab_run.specs.Ends.{IsPair, IsSendable}
use Rattle.lab_run.specs.Steps.{id_of}
use Rattle.lab_relay.specs.declared.hub.Hub.{Hub}
use Rattle.lab_relay.specs.declared.inboxes.Inboxes.{Inboxes}
use Rattle.lab_relay.specs.declared.relayed.Relayed.{Relayed}
use Rattle.lab_relay.specs.Scene.{Letter, Scene, came, lab, last_conn, letter_to, next_conn}

-- ---- connections

-- the last connection that is noted of an end
abbrev pub noted_conn : Side → Hub → Option ℕ
noted_conn Plugin hub = hub.plugin
noted_conn Agent hub = hub.agent

-- who made each connection of the relay, and the last one of each end
pub record IsHub (es : List RelayEvent) (hub : Hub) : Type 0 where
  pub count : length hub.ends.items ≡ next_conn es
  pub places : (conn : ℕ)
      → place_of es conn ≡ option_map (place lab) (slice_get hub.ends.items conn)
  pub last : (side : Side) → noted_conn side hub ≡ last_conn es side

-- the connections of an end were let in as its own, and the next one was not let in before
pub record AreOwned (es : List RelayEvent) : Type 0 where
  pub last : (side : Side) (conn : ℕ)
      → last_conn es side ≡ Some conn → place_of es conn ≡ Some (place lab side)
  pub fresh : (conn : ℕ)
      → next_conn es ≤ conn → list_any (λ c. nat_eq c conn) (openings es) ≡ false

-- ---- messages

-- an end of this side hears this of the bytes: they are an emission of the other end, or they say it
-- by their name
abbrev pub IsHeardAs : Side → List ℕ → Incoming → Type 0
IsHeardAs side bytes says =
    ((out : Outgoing) × IsSendable (other side) out × (bytes ≡ encoding (other side) out)
    × (says ≡ incoming_of out))
    ⊎ Arrives side bytes (Ok says)

-- what a letter says was emitted at the other end, or is the relay's own
abbrev pub IsHonestLetter : List Event → Side → Letter → Type 0
IsHonestLetter world side letter =
    (now : ℕ)
    → WasEmitted (emissions (history_of (other side) world)) (EndCall.Heard now letter.says)

-- the bytes that are kept for an end
abbrev pub bytes_for : Side → Inboxes → List (List ℕ)
bytes_for Plugin inboxes = inboxes.plugin.items
bytes_for Agent inboxes = inboxes.agent.items

-- ---- all

-- what is kept is what has happened
pub record StandsFor (w : ℕ) (s : Scene) (relayed : Relayed) : Type 0 where
  pub pair : IsPair w s.world relayed.pair
  pub relay : Stands relayed.relay (came s)
  pub hub : IsHub (came s) relayed.hub
  pub owned : AreOwned (came s)
  pub inboxes : (side : Side)
      → bytes_for side relayed.inboxes ≡ map (λ l. l.bytes) (s.inbox side)
  pub honest : (side : Side) → All (IsHonestLetter s.world side) (s.inbox side)
  pub heard : (side : Side) → All (λ l. IsHeardAs side l.bytes l.says) (s.inbox side)

-- an event came to the relay, and what it sent was added to the inboxes
pub record Comes
    (es : List RelayEvent) (event : RelayEvent) (line now : ℕ) (old new : Relayed) : Type 0 where
  -- the moment has 64 bits
  pub small : now < 2 ^ 64
  pub pair : new.pair ≡ old.pair
  pub hub : new.hub ≡ old.hub
  pub relay : Stands new.relay (es ++ event ∷ [])
  pub inboxes : (says : ℕ → Incoming) (side : Side)
      → bytes_for side new.inboxes
      ≡ bytes_for side old.inboxes
      ++ map (λ l. l.bytes)
      (filter_map (letter_to (es ++ event ∷ []) says side) (actions es (id_of line) now event))

-- What the relay sent to each end, read off all that came to it.
use Rattle.std.specs.Prelude.{◌≡◌, ℕ, if◌then◌else◌, Option, Some, None, List, [], ◌++◌, Ok, map}
use Rattle.std.specs.List.{All, Contains, filter_map, flat_map}
use Rattle.chan_values.specs.declared.side.Side.{Side}
use Rattle.channel_core.specs.Arrival.{Arrives}
use Rattle.channel_core.specs.declared.call.EndCall.{EndCall}
use Rattle.channel_core.specs.Laws.{IsPrefixOf}
use Rattle.channel_core.specs.World.{history_of}
use Rattle.lab_script.specs.declared.relay_command.RelayCommand.{RelayCommand}
use Rattle.relay_core.specs.declared.action.Action.{Action}
use Rattle.relay_core.specs.declared.event.Event.{Event as RelayEvent}
use Rattle.relay_core.specs.Forwarding.{place_of}
use Rattle.relay_core.specs.Isolation.{run_from}
use Rattle.lab_relay.specs.Run.{progress}
use Rattle.lab_relay.specs.Scene.{Letter, Scene, came, is_of}

-- all that a relay does to which this came, in order
abbrev pub done : Scene → List Action
done s = flat_map (λ p. p.1) (run_from [] s.arrivals)

-- the bytes that an action sends to a connection of this end
abbrev pub message_to : List RelayEvent → Side → Action → Option (List ℕ)
message_to es side (Action.Send conn bytes) =
    if is_of side (place_of es conn) then Some bytes else None
message_to es side action = None

-- the messages that these actions send to connections of this end, in order
abbrev pub messages_to : List RelayEvent → Side → List Action → List (List ℕ)
messages_to es side told = filter_map (message_to es side) told

-- whatever this call hears is what one of these letters says
abbrev pub IsHeardOf : List Letter → EndCall → Type 0
IsHeardOf letters (EndCall.Heard now says) = Contains (map (λ l. l.says) letters) says
IsHeardOf letters call = Unit {0}

-- The inboxes after these lines
pub record AreInboxesTrue (w : ℕ) (commands : List RelayCommand) : Type 0 where
  -- an inbox has the messages that the relay's actions, at all that came to it, send to connections
  -- of its end, in that order, and no others; one that was heard stays
  pub sent :
      let s = (progress w commands).scene in
      (side : Side) → map (λ l. l.bytes) (s.inbox side) ≡ messages_to (came s) side (done s)
  -- what an end hears of a message is what its bytes say
  pub says : (side : Side)
      → All (λ l. Arrives side l.bytes (Ok l.says)) ((progress w commands).scene.inbox side)
  -- an end heard nothing but messages of its inbox
  pub heard :
      let s = (progress w commands).scene in
      (side : Side) → All (λ e. IsHeardOf (s.inbox side) e.call) (history_of side s.world)
  -- a message keeps its place, whatever lines follow
  pub stays : (rest : List RelayCommand) (side : Side)
      → IsPrefixOf ((progress w commands).scene.inbox side)
      ((progress w (commands ++ rest)).scene.inbox side)

-- Two ends that reach each other through a relay alone: what has happened, and what waits for them.
use Rattle.std.specs.Prelude.{ℕ, Bool, false, if◌then◌else◌, Option, Some, None, List, [], ◌∷◌, ◌++◌, codes, length}
use Rattle.std.specs.List.{filter_map}
use Rattle.chan_values.specs.declared.side.Side.{Side}
use Rattle.channel_core.specs.declared.message.Incoming.{Incoming}
use Rattle.channel_core.specs.World.{Event}
use Rattle.session_register.specs.Chains.{same_side}
use Rattle.relay_core.specs.declared.action.Action.{Action}
use Rattle.relay_core.specs.declared.event.Event.{Event as RelayEvent}
use Rattle.relay_core.specs.declared.place.Place.{Place}
use Rattle.relay_core.specs.Forwarding.{actions, last_opened, openings, place_of}
use Rattle.relay_core.specs.Isolation.{Arrival, events_of}
use Rattle.lab_run.specs.Steps.{id_of}

-- the session of a script
abbrev pub lab : List ℕ
lab = codes "lab"

-- a message that the relay sent to an end, and what the end hears of it
pub record Letter : Type 0 where
  pub bytes : List ℕ
  pub says : Incoming

-- what has happened
pub record Scene : Type 0 where
  -- the calls of the two ends with their answers
  pub world : List Event
  -- what came to the relay, each event with the id of its line and the moment
  pub arrivals : List Arrival
  -- the messages that the relay sent to each end, which has heard any of them or none
  pub inbox : Side → List Letter

-- before the first line neither end was called, and nothing came to the relay
abbrev pub start : Scene
start = record { world = []; arrivals = []; inbox = λ side. [] }

-- the events that came to the relay
abbrev pub came : Scene → List RelayEvent
came s = events_of s.arrivals

-- the number of the next connection: how many were made
abbrev pub next_conn : List RelayEvent → ℕ
next_conn es = length (openings es)

-- the connection that this end made last
abbrev pub last_conn : List RelayEvent → Side → Option ℕ
last_conn es side = last_opened es lab side

-- whether a connection with this place is one of this end
abbrev pub is_of : Side → Option Place → Bool
is_of side None = false
is_of side (Some p) = same_side p.role side

-- the letter that an action of the relay is to this end: a message that is sent to a connection of it
abbrev pub letter_to : List RelayEvent → (ℕ → Incoming) → Side → Action → Option Letter
letter_to es says side (Action.Send conn bytes) =
    if is_of side (place_of es conn)
    then Some (record { bytes = bytes; says = says conn })
    else None
letter_to es says side action = None

-- an event comes to the relay on a line, at this moment: what it sends is added to the inboxes of the
-- ends. What an end hears of it is told by the connection that it is sent to
abbrev pub after_event : Scene → ℕ → ℕ → RelayEvent → (ℕ → Incoming) → Scene
after_event s now line event says =
    let es = came s ++ event ∷ [] in
    let done = actions (came s) (id_of line) now event in
    record {
      world = s.world;
      arrivals = s.arrivals ++ record { event = event; id = id_of line; now = now } ∷ [];
      inbox = λ side. s.inbox side ++ filter_map (letter_to es says side) done;
    }

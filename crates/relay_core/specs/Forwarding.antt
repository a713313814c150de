-- What the relay does, read off the list of its events. Nothing else is kept.
use Rattle.std.specs.Prelude.{◌≡◌, ℕ, Bool, false, ◌&&◌, Option, Some, None, is_none, List, reverse, take_while, if◌then◌else◌, nat_eq, slice_get}
use Rattle.std.specs.List.{filter_map, list_any, IsDistinct}
use Rattle.chan_values.specs.declared.side.Side.{Side}
use Rattle.chan_values.specs.declared.side.Side.TheVariants.{Plugin, Agent}
use Rattle.session_register.specs.Chains.{same_side}
use Rattle.session_register.specs.Names.{same_name}
use Rattle.relay_core.specs.declared.action.Action.{Action}
use Rattle.relay_core.specs.declared.event.Event.{Event}
use Rattle.relay_core.specs.declared.place.Place.{Place}
use Rattle.relay_core.specs.declared.room.Room.{Room}
use Rattle.relay_core.specs.Rooms.{across, dismissals, forwards, greetings, pauses}

-- ---- sessions

-- whether this event ends the session
abbrev pub ends : List ℕ → Event → Bool
ends session (Event.EndSession s) = same_name s session
ends session event = false

-- whether some event ended the session
unfoldable pub is_ended : List Event → List ℕ → Bool
is_ended es session = list_any (ends session) es

-- the connection that this event lets in as the role of the session
abbrev pub conn_opened : List ℕ → Side → Event → Option ℕ
conn_opened session role (Event.Opened conn s r reply) =
    if same_name s session && same_side r role then Some conn else None
conn_opened session role event = None

-- the connection that was let in last as the role
unfoldable pub last_opened : List Event → List ℕ → Side → Option ℕ
last_opened es session role = slice_get (filter_map (conn_opened session role) (reverse es)) 0

-- the events after that opening, the latest first
unfoldable pub since_opened : List Event → List ℕ → Side → List Event
since_opened es session role =
    take_while (λ e. is_none (conn_opened session role e)) (reverse es)

-- whether this event is the loss of the connection
abbrev pub loses : ℕ → Event → Bool
loses conn (Event.Gone c) = nat_eq conn c
loses conn event = false

-- a connection, unless one of these events is its loss
abbrev pub unless_lost : List Event → Option ℕ → Option ℕ
unless_lost later None = None
unless_lost later (Some conn) = if list_any (loses conn) later then None else Some conn

-- the connection that was let in last as the role, unless it was lost since
unfoldable pub last_held : List Event → List ℕ → Side → Option ℕ
last_held es session role =
    unless_lost (since_opened es session role) (last_opened es session role)

-- the current connection of a role in a session: none once the session has ended
abbrev pub current : List Event → List ℕ → Side → Option ℕ
current es session role = if is_ended es session then None else last_held es session role

-- a session's room, read off the events
abbrev pub room_told : List Event → List ℕ → Room
room_told es session =
    record {
      ended = is_ended es session;
      plugin = current es session Plugin;
      agent = current es session Agent;
    }

-- ---- connections

-- the connection that this event lets in
abbrev pub opening : Event → Option ℕ
opening (Event.Opened conn session role reply) = Some conn
opening event = None

-- the connections that were let in, in order
unfoldable pub openings : List Event → List ℕ
openings es = filter_map opening es

-- no connection is let in twice
abbrev pub AreNew : List Event → Type 0
AreNew es = IsDistinct nat_eq (openings es)

-- an opening is that of a connection which no earlier event let in
abbrev pub IsNew : List Event → Event → Type 0
IsNew es (Event.Opened conn session role reply) =
    list_any (λ c. nat_eq c conn) (openings es) ≡ false
IsNew es event = Unit {0}

-- an end of a session, as a place
abbrev pub place : List ℕ → Side → Place
place session role = record { session = session; role = role }

-- where this event lets the connection in
abbrev pub place_opened : ℕ → Event → Option Place
place_opened conn (Event.Opened c session role reply) =
    if nat_eq c conn then Some (place session role) else None
place_opened conn event = None

-- where a connection was let in
unfoldable pub place_of : List Event → ℕ → Option Place
place_of es conn = slice_get (filter_map (place_opened conn) es) 0

-- the connection across from one with this place
abbrev pub peer_at : List Event → ℕ → Option Place → Option ℕ
peer_at es conn None = None
peer_at es conn (Some p) = across conn p.role (room_told es p.session)

-- the peer of a current connection: the current connection of the other role of its session
abbrev pub peer_of : List Event → ℕ → Option ℕ
peer_of es conn = peer_at es conn (place_of es conn)

-- ---- actions

-- what is done at an event after the events es, with this id at this moment
abbrev pub actions : List Event → List ℕ → ℕ → Event → List Action
actions es id now (Event.Opened conn session role reply) =
    greetings (room_told es session) session conn role reply id now
actions es id now (Event.Binary conn bytes) = forwards (peer_of es conn) bytes
actions es id now (Event.Gone conn) = pauses (peer_of es conn) id now
actions es id now (Event.EndSession session) =
    dismissals (room_told es session) session id now

-- How one event changes what the relay keeps.
use Rattle.std.specs.Prelude.{◌≡◌, ℕ, true, Option, Some, None, List, if◌then◌else◌}
use Rattle.std.specs.BTreeMap.{is_at}
use Rattle.std.specs.Cmp.Lexicographic.{slice_cmp}
use Rattle.std.specs.Ordering.{nat_cmp}
use Rattle.chan_values.specs.declared.side.Side.{Side}
use Rattle.chan_values.specs.declared.side.Side.TheVariants.{Plugin, Agent}
use Rattle.relay_core.specs.declared.place.Place.{Place}
use Rattle.relay_core.specs.declared.room.Room.{Room}
use Rattle.relay_core.specs.Forwarding.{place}
use Rattle.relay_core.specs.Rooms.{is_conn}
use Rattle.relay_core.specs.Kept.{Kept, place_in, room_in}

-- the room with a new connection in a role
abbrev pub with_holder : Side → ℕ → Room → Room
with_holder Plugin conn room = record room { plugin = Some conn }
with_holder Agent conn room = record room { agent = Some conn }

-- the room after an opening
abbrev pub opened_room : Side → ℕ → Room → Room
opened_room role conn room = if room.ended then room else with_holder role conn room

-- the room after the end of its session
abbrev pub ended_room : Room
ended_room = record { ended = true; plugin = None; agent = None }

-- a role's connection, unless it is this one
abbrev pub unless_conn : ℕ → Option ℕ → Option ℕ
unless_conn conn holder = if is_conn conn holder then None else holder

-- the room after the loss of a connection
abbrev pub cleared_room : ℕ → Room → Room
cleared_room conn room =
    record room {
      plugin = unless_conn conn room.plugin;
      agent = unless_conn conn room.agent;
    }

-- by look-ups nothing changed
pub record IsSame (old new : Kept) : Type 0 where
  pub rooms : (session : List ℕ) → room_in new.rooms session ≡ room_in old.rooms session
  pub places : (conn : ℕ) → place_in new.places conn ≡ place_in old.places conn

-- the session has this room now, and the others have theirs
abbrev pub SetsRoom : List ℕ → Room → List (List ℕ × Room) → List (List ℕ × Room) → Type 0
SetsRoom session room old new = (s : List ℕ)
    → room_in new s ≡ (if is_at (slice_cmp nat_cmp session) s then room else room_in old s)

-- the connection has this place now, or none, and the others have theirs
abbrev pub SetsPlace : ℕ → Option Place → List (ℕ × Place) → List (ℕ × Place) → Type 0
SetsPlace conn p old new = (c : ℕ)
    → place_in new c ≡ (if is_at (nat_cmp conn) c then p else place_in old c)

-- an opening
pub record Opens (conn : ℕ) (session : List ℕ) (role : Side) (old new : Kept) : Type 0 where
  pub rooms :
      SetsRoom session (opened_room role conn (room_in old.rooms session)) old.rooms new.rooms
  pub places : SetsPlace conn (Some (place session role)) old.places new.places

-- the end of a session
pub record Ends (session : List ℕ) (old new : Kept) : Type 0 where
  pub rooms : SetsRoom session ended_room old.rooms new.rooms
  pub places : (conn : ℕ) → place_in new.places conn ≡ place_in old.places conn

-- the room at this place is cleared of the connection
abbrev pub Clears : ℕ → Option Place → List (List ℕ × Room) → List (List ℕ × Room) → Type 0
Clears conn None old new = (s : List ℕ) → room_in new s ≡ room_in old s
Clears conn (Some p) old new =
    SetsRoom p.session (cleared_room conn (room_in old p.session)) old new

-- the loss of a connection
pub record Loses (conn : ℕ) (old new : Kept) : Type 0 where
  pub rooms : Clears conn (place_in old.places conn) old.rooms new.rooms
  pub places : SetsPlace conn None old.places new.places

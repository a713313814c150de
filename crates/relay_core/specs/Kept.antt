-- What the relay keeps of the events so far.
use Rattle.std.specs.Prelude.{◌≡◌, ℕ, false, Option, Some, None, unwrap_or, Result, IfOk, OnErr, List, [], ◌∷◌, ◌++◌}
use Rattle.std.specs.BTreeMap.{is_at}
use Rattle.std.specs.Cmp.Lexicographic.{slice_cmp}
use Rattle.std.specs.Map.{lookup}
use Rattle.std.specs.Ordering.{nat_cmp}
use Rattle.chan_values.specs.declared.side.Side.{Side}
use Rattle.relay_core.specs.declared.action.Action.{Action}
use Rattle.relay_core.specs.declared.event.Event.{Event}
use Rattle.relay_core.specs.declared.place.Place.{Place}
use Rattle.relay_core.specs.declared.room.Room.{Room}
use Rattle.relay_core.specs.Rooms.{across}
use Rattle.relay_core.specs.Forwarding.{IsNew, actions, current, place, place_of, room_told}

-- the rooms by session, and the places by connection
pub record Kept : Type 0 where
  pub rooms : List (List ℕ × Room)
  pub places : List (ℕ × Place)

-- a session at which nothing has happened
abbrev pub empty_room : Room
empty_room = record { ended = false; plugin = None; agent = None }

-- the room of a session
abbrev pub room_in : List (List ℕ × Room) → List ℕ → Room
room_in rooms session = unwrap_or (lookup (is_at (slice_cmp nat_cmp session)) rooms) empty_room

-- the place of a connection
abbrev pub place_in : List (ℕ × Place) → ℕ → Option Place
place_in places conn = lookup (is_at (nat_cmp conn)) places

-- the connection across from one with this place
abbrev pub peer_from : List (List ℕ × Room) → ℕ → Option Place → Option ℕ
peer_from rooms conn None = None
peer_from rooms conn (Some p) = across conn p.role (room_in rooms p.session)

-- the peer of a connection
abbrev pub peer_in : Kept → ℕ → Option ℕ
peer_in kept conn = peer_from kept.rooms conn (place_in kept.places conn)

-- What is kept is what the events tell: each session's room; of a connection no other place than
-- its own; and the place of each current connection.
pub record Stands (kept : Kept) (es : List Event) : Type 0 where
  pub rooms : (session : List ℕ) → room_in kept.rooms session ≡ room_told es session
  pub places : (conn : ℕ) (p : Place)
      → place_in kept.places conn ≡ Some p → place_of es conn ≡ Some p
  pub current : (session : List ℕ) (role : Side) (conn : ℕ)
      → current es session role ≡ Some conn
      → place_in kept.places conn ≡ Some (place session role)

-- One event more, whatever events the relay stood for: where it is new, its actions are those due
-- after them, and the relay stands for it too; at want of memory the relay stands for them alone.
abbrev pub Follows : {E : Type 0} → Kept → Event → List ℕ → ℕ
    → Result (List Action) E → Kept → Type 0
Follows old event id now answer new =
    (es : List Event) → Stands old es
    → (IsNew es event
    → IfOk answer (λ told. (told ≡ actions es id now event) × Stands new (es ++ event ∷ [])))
    × OnErr answer (Stands new es)

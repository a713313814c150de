-- What waits for the connections, each in a line of its own.
use Rattle.std.specs.Prelude.{◌≡◌, ℕ, ◌+◌, Bool, true, false, not, ◌&&◌, List, [], ◌∷◌, ◌++◌, drop, length, nat_eq, unwrap_or, if◌then◌else◌}
use Rattle.std.specs.BTreeMap.{is_at}
use Rattle.std.specs.List.{filter}
use Rattle.std.specs.Map.{lookup}
use Rattle.std.specs.Ordering.{nat_cmp}
use Rattle.relay_core.specs.declared.action.Action.{Action}

-- the connection at which this is done
abbrev pub conn_of : Action → ℕ
conn_of (Action.Text conn bytes) = conn
conn_of (Action.Send conn bytes) = conn
conn_of (Action.Drop conn) = conn

-- the bytes of a text or a message
abbrev pub weight : Action → ℕ
weight (Action.Text conn bytes) = length bytes
weight (Action.Send conn bytes) = length bytes
weight (Action.Drop conn) = 0

-- the bytes of all texts and messages
abbrev pub bytes_in : List Action → ℕ
bytes_in [] = 0
bytes_in (action ∷ rest) = weight action + bytes_in rest

-- the actions at one connection, in order
abbrev pub to_conn : ℕ → List Action → List Action
to_conn conn told = filter (λ action. nat_eq (conn_of action) conn) told

-- what waits for a connection, oldest first, and whether it is open
pub record LineState : Type 0 where
  pub waiting : List Action
  pub is_open : Bool

-- the line of a connection that was not let in
abbrev pub empty_line : LineState
empty_line = record { waiting = []; is_open = false }

-- the line of a connection that is open from then on
abbrev pub opened : LineState → LineState
opened line = record line { is_open = true }

-- the line of a connection that is not, where this says so
abbrev pub closed_if : Bool → LineState → LineState
closed_if ends line = record line { is_open = line.is_open && not ends }

-- the line without the first of what waits
abbrev pub popped : LineState → LineState
popped line = record line { waiting = drop 1 line.waiting }

-- the first of these actions stands behind what waits, and the rest is left
abbrev pub TakesOver : LineState → List Action → LineState → List Action → Type 0
TakesOver old added new rest =
    (action : Action) × (added ≡ action ∷ rest)
    × (new ≡ record old { waiting = old.waiting ++ action ∷ [] })

-- the lines by connection
abbrev pub Lines : Type 0
Lines = List (ℕ × LineState)

-- the line of a connection; one that has none is not open, and nothing waits for it
abbrev pub line_in : Lines → ℕ → LineState
line_in lines conn = unwrap_or (lookup (is_at (nat_cmp conn)) lines) empty_line

-- the connection has this line now, and the others have theirs
abbrev pub SetsLine : ℕ → LineState → Lines → Lines → Type 0
SetsLine conn line old new = (c : ℕ)
    → line_in new c ≡ (if is_at (nat_cmp conn) c then line else line_in old c)

-- by look-ups nothing changed
abbrev pub SameLines : Lines → Lines → Type 0
SameLines old new = (c : ℕ) → line_in new c ≡ line_in old c

-- the first of these actions is in the line of the connection now, and the rest is left
abbrev pub Moves : ℕ → Lines → List Action → Lines → List Action → Type 0
Moves conn old added new rest =
    (line : LineState) × TakesOver (line_in old conn) added line rest × SetsLine conn line old new

-- what waits for a connection in its line, and behind that among the actions that were added last
abbrev pub waiting_in : Lines → List Action → ℕ → List Action
waiting_in lines added conn = (line_in lines conn).waiting ++ to_conn conn added

-- the same waits for each connection, and the same connections are open
pub record WaitsSame (old : Lines) (added : List Action) (new : Lines) (rest : List Action)
    : Type 0 where
  pub waiting : (c : ℕ) → waiting_in new rest c ≡ waiting_in old added c
  pub is_open : (c : ℕ) → (line_in new c).is_open ≡ (line_in old c).is_open

-- the actions without the first one at the connection
abbrev pub without : ℕ → List Action → List Action
without conn [] = []
without conn (action ∷ rest) =
    if nat_eq (conn_of action) conn then rest else action ∷ without conn rest

-- What is done at a session, by its room: whether it has ended, and the current connections of its
-- two roles.
use Rattle.std.specs.Prelude.{ℕ, Bool, false, Option, Some, None, List, [], ◌∷◌, ◌++◌, length, if◌then◌else◌, nat_eq, nat_le}
use Rattle.chan_values.specs.declared.side.Side.{Side}
use Rattle.chan_values.specs.declared.side.Side.TheVariants.{Plugin, Agent}
use Rattle.chan_values.specs.Sides.{other}
use Rattle.relay_core.specs.declared.action.Action.{Action}
use Rattle.relay_core.specs.declared.room.Room.{Room}
use Rattle.relay_core.specs.Messages.{closing, pause, start}

-- whether it is this connection
abbrev pub is_conn : ℕ → Option ℕ → Bool
is_conn conn None = false
is_conn conn (Some other) = nat_eq other conn

-- the current connection of a role, if there is one
abbrev pub holder : Side → Room → Option ℕ
holder Plugin room = room.plugin
holder Agent room = room.agent

-- the current connection of the other role, where this one is the current one of its role
abbrev pub across : ℕ → Side → Room → Option ℕ
across conn role room =
    if is_conn conn (holder role room) then holder (other role) room else None

-- the actions at a connection, where there is one
abbrev pub at : Option ℕ → (ℕ → List Action) → List Action
at None act = []
at (Some conn) act = act conn

-- a closing, and the connection is dropped
abbrev pub dismissal : List ℕ → List ℕ → ℕ → ℕ → List Action
dismissal session id now conn =
    Action.Send conn (closing session id now) ∷ Action.Drop conn ∷ []

-- a start for the other role's connection, or a pause for the new one where there is none
abbrev pub greeting : ℕ → Option ℕ → List ℕ → ℕ → List Action
greeting conn (Some peer) id now = Action.Send peer (start id now) ∷ []
greeting conn None id now = Action.Send conn (pause id now) ∷ []

-- at an opening: the reply, and a dismissal where the session has ended; else the role's former
-- connection is dropped, and a start or a pause goes out
abbrev pub greetings : Room → List ℕ → ℕ → Side → List ℕ → List ℕ → ℕ → List Action
greetings room session conn role reply id now =
    Action.Text conn reply
    ∷ (if room.ended then dismissal session id now conn
    else at (holder role room) (λ former. Action.Drop former ∷ [])
    ++ greeting conn (holder (other role) room) id now)

-- at a binary message: the same bytes to the peer of its sender, where they are at most 65,656
abbrev pub forwards : Option ℕ → List ℕ → List Action
forwards peer bytes =
    if nat_le (length bytes) 65656 then at peer (λ conn. Action.Send conn bytes ∷ []) else []

-- at the loss of a connection: a pause to its peer
abbrev pub pauses : Option ℕ → List ℕ → ℕ → List Action
pauses peer id now = at peer (λ conn. Action.Send conn (pause id now) ∷ [])

-- at the end of a session: a dismissal for the plugin's connection, then for the agent's
abbrev pub dismissals : Room → List ℕ → List ℕ → ℕ → List Action
dismissals room session id now =
    at room.plugin (dismissal session id now) ++ at room.agent (dismissal session id now)

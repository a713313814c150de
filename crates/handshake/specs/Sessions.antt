-- Which session is asked for, which one is agreed on, and what the two sides say of it.
use Rattle.std.specs.Prelude.{ℕ, ◌+◌, ◌-◌, ◌*◌, ◌^◌, min, Bool, List, [], ◌∷◌, map, find, codes, Option, Some, None, is_some, option_map, option_and_then, if◌then◌else◌}
use Rattle.json_members.specs.Members.{same_text}
use Rattle.json_bodies.specs.Action.{session_action, bytes_of}
use Rattle.json_bodies.specs.declared.action.Action.{Action}
use Rattle.json_bodies.specs.declared.action.Action.TheVariants.{Session, Other}
use Rattle.json_bodies.specs.declared.handshake_complete.HandshakeComplete.{HandshakeComplete}
use Rattle.json_bodies.specs.declared.handshake_request.HandshakeRequest.{HandshakeRequest}
use Rattle.json_bodies.specs.declared.handshake_response.HandshakeResponse.{HandshakeResponse}
use Rattle.json_bodies.specs.declared.processed.Processed.{Processed}
use Rattle.json_bodies.specs.declared.properties.Properties.{Properties}
use Rattle.handshake.specs.declared.agreed.Agreed.{Agreed}
use Rattle.handshake.specs.declared.agreed.SessionType.{SessionType}
use Rattle.handshake.specs.declared.agreed.SessionType.TheVariants.{Standard, Port}

-- the name of a type of session
abbrev pub type_name : SessionType → List ℕ
type_name Standard = codes "Standard_Stream"
type_name Port = codes "Port"

-- the type of this name, if it is one of the two
abbrev pub session_type : List ℕ → Option SessionType
session_type name =
    if same_text name (type_name Standard) then Some Standard
    else if same_text name (type_name Port) then Some Port else None

-- ---- what the agent asks

-- the request for a session
abbrev pub request_for : Agreed → HandshakeRequest
request_for choice =
    record {
      agent_version = codes "3.3.0.0";
      actions = Session (type_name choice.session) choice.properties ∷ [];
    }

-- the bytes of the texts of properties
abbrev pub properties_bytes : Properties → ℕ
properties_bytes properties =
    bytes_of properties.local_port + bytes_of properties.port + bytes_of properties.kind

-- ---- what the client answers

-- ActionType of an action
abbrev pub action_name : Action → List ℕ
action_name (Session name properties) = session_action
action_name (Other name) = name

-- the session that an action asks for, if it is of one of the two types
abbrev pub session_asked : Action → Option Agreed
session_asked (Session name properties) =
    option_map (λ session. record { session = session; properties = properties })
    (session_type name)
session_asked (Other name) = None

-- whether an action asks for one
abbrev pub asks_session : Action → Bool
asks_session action = is_some (session_asked action)

-- what became of an action: success where it asks for such a session, else it is unsupported
abbrev pub processed : Action → Processed
processed action =
    record {
      status = if asks_session action then 1 else 3;
      name = action_name action;
      error = if asks_session action then [] else codes "Unsupported";
    }

-- the response of a client with this version
abbrev pub response_to : List ℕ → HandshakeRequest → HandshakeResponse
response_to version request =
    record { client_version = version; errors = []; actions = map processed request.actions }

-- the session that is agreed on: that of the first action with success
abbrev pub agreed_session : HandshakeRequest → Option Agreed
agreed_session request = option_and_then session_asked (find asks_session request.actions)

-- ---- what the agent makes of it

-- whether what became of an action is about a session
abbrev pub is_session_result : Processed → Bool
is_session_result done = same_text done.name session_action

-- ActionStatus of the first action that is about a session
abbrev pub session_status : HandshakeResponse → Option ℕ
session_status response =
    option_map (λ (done : Processed). done.status) (find is_session_result response.actions)

-- the end of a handshake that was begun at a moment and is done now, both in milliseconds; its
-- time is in nanoseconds
abbrev pub completion : ℕ → ℕ → HandshakeComplete
completion begun now =
    record { message = []; nanos = min ((now - begun) * 1000000) (2 ^ 63 - 1) }

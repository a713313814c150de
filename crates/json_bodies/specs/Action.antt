-- A requested action: to begin a session, with its parameters, or another one by its name.
use Rattle.std.specs.Prelude.{◌≡◌, ℕ, Bool, List, [], ◌∷◌, ◌++◌, codes, IsUtf8, IsFalse, Option, Some, Ok, IsOkAnd, length, ◌+◌, if◌then◌else◌}
use Rattle.std.specs.Option.{option_map_or}
use Rattle.std.specs.Result.{result_unwrap_or}
use Rattle.serde_json.specs.Data.{Data, string}
use Rattle.json_members.specs.Object.{Field, object_with}
use Rattle.json_bodies.specs.Properties.{GivesProperties, IsWritableProperties, properties_faults, properties_fields}
use Rattle.json_members.specs.Members.{text_at, object_at, object_or_empty_at, same_text}
use Rattle.json_bodies.specs.Reading.{fault_in, faults_within}
use Rattle.json_bodies.specs.declared.action.Action.{Action}
use Rattle.json_bodies.specs.declared.action.Action.TheVariants.{Session, Other}
use Rattle.json_members.specs.declared.member.Member.TheVariants as member
use Rattle.json_members.specs.declared.body_fault.BodyFault.{BodyFault}
use Rattle.json_bodies.specs.declared.properties.Properties.{Properties}

-- the name of the action that begins a session
abbrev pub session_action : List ℕ
session_action = codes "SessionType"

-- ---- the parameters of a session

-- the object's members give the session's type and properties
pub record GivesParameters (body : Data) (session : List ℕ) (wanted : Properties) : Type 0 where
  pub name : text_at body member.SessionType ≡ Ok session
  pub properties : IsOkAnd (object_or_empty_at body member.Properties)
      (λ object. GivesProperties object wanted)

-- the faults of the object's members, in the order of the table
abbrev pub parameters_faults : Data → List BodyFault
parameters_faults body =
    fault_in (text_at body member.SessionType)
    ++ faults_within properties_faults (object_or_empty_at body member.Properties)

-- the members that are written, in byte order
unfoldable pub parameters_fields : List ℕ → Properties → List Field
parameters_fields name properties =
    (member.Properties, Some (object_with (properties_fields properties)))
    ∷ (member.SessionType, Some (string name)) ∷ []

-- ---- the action

-- the object's members give the action
abbrev pub GivesAction : Data → Action → Type 0
GivesAction body (Session name properties) =
    (text_at body member.ActionType ≡ Ok session_action)
    × IsOkAnd (object_at body member.ActionParameters)
    (λ parameters. GivesParameters parameters name properties)
GivesAction body (Other name) =
    (text_at body member.ActionType ≡ Ok name) × IsFalse (same_text name session_action)

-- whether the object asks for a session
abbrev pub is_session : Data → Bool
is_session body =
    same_text (result_unwrap_or (text_at body member.ActionType) []) session_action

-- the faults of the object's members, in the order of the table; the parameters of another action
-- are passed over
abbrev pub action_faults : Data → List BodyFault
action_faults body =
    fault_in (text_at body member.ActionType)
    ++ (if is_session body
    then faults_within parameters_faults (object_at body member.ActionParameters) else [])

-- the members that are written, in byte order
unfoldable pub action_fields : Action → List Field
action_fields (Session name properties) =
    (member.ActionParameters, Some (object_with (parameters_fields name properties)))
    ∷ (member.ActionType, Some (string session_action)) ∷ []
action_fields (Other name) =
    (member.ActionParameters, Some (object_with []))
    ∷ (member.ActionType, Some (string name)) ∷ []

-- another action has another name
abbrev pub IsInRangeAction : Action → Type 0
IsInRangeAction (Session name properties) = Unit {0}
IsInRangeAction (Other name) = IsFalse (same_text name session_action)

-- the fields are within the ranges of their types
abbrev pub IsTypedAction : Action → Type 0
IsTypedAction (Session name properties) = IsUtf8 name × IsWritableProperties properties
IsTypedAction (Other name) = IsUtf8 name

-- the bytes of a text, if there is one
abbrev pub bytes_of : Option (List ℕ) → ℕ
bytes_of text = option_map_or length text 0

-- the bytes of the texts of an action
abbrev pub action_bytes : Action → ℕ
action_bytes (Session name properties) =
    length name + bytes_of properties.local_port + bytes_of properties.port
    + bytes_of properties.kind
action_bytes (Other name) = length name

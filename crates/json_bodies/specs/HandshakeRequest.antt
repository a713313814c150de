-- The body of a handshake request: what the agent asks the plugin to do.
use Rattle.std.specs.Prelude.{◌≡◌, ℕ, List, [], ◌∷◌, ◌++◌, map, flat_map, All, IsUtf8, Some, Ok, IsOkAnd, length, sum_by, ◌+◌}
use Rattle.std.specs.List.{AllZip}
use Rattle.serde_json.specs.Data.{Data, string}
use Rattle.serde_json.specs.Written.{compact_text}
use Rattle.json_bodies.specs.Action.{GivesAction, IsTypedAction, IsInRangeAction, action_bytes, action_faults, action_fields}
use Rattle.json_members.specs.Object.{Field, array_of, object_with}
use Rattle.json_members.specs.Members.{object_of, text_at, objects_at}
use Rattle.json_bodies.specs.Reading.{fault_in, faults_within}
use Rattle.json_members.specs.declared.member.Member.TheVariants.{AgentVersion, RequestedClientActions}
use Rattle.json_members.specs.declared.body_fault.BodyFault.{BodyFault}
use Rattle.json_bodies.specs.declared.handshake_request.HandshakeRequest.{HandshakeRequest}

-- the object's members give the request, and each object of the list its action
pub record GivesRequest (body : Data) (request : HandshakeRequest) : Type 0 where
  pub agent_version : text_at body AgentVersion ≡ Ok request.agent_version
  pub actions : IsOkAnd (objects_at body RequestedClientActions)
      (λ list. AllZip GivesAction list request.actions)

-- the faults of the object's members, in the order of the table, those of each action where the
-- list stands
abbrev pub request_faults : Data → List BodyFault
request_faults body =
    fault_in (text_at body AgentVersion)
    ++ faults_within (flat_map action_faults) (objects_at body RequestedClientActions)

-- the bytes are a body of the request
abbrev pub IsRequestBody : List ℕ → HandshakeRequest → Type 0
IsRequestBody bytes request =
    (body : Data) × (object_of bytes ≡ Ok body) × GivesRequest body request

-- the members that are written, in byte order
unfoldable pub request_fields : HandshakeRequest → List Field
request_fields request =
    (AgentVersion, Some (string request.agent_version))
    ∷ (
      RequestedClientActions,
      Some (array_of (map (λ action. object_with (action_fields action)) request.actions)),
    ) ∷ []

-- the text that is written
abbrev pub request_text : HandshakeRequest → List ℕ
request_text request = compact_text (object_with (request_fields request))

-- the actions are in the ranges of the table
abbrev pub IsInRangeRequest : HandshakeRequest → Type 0
IsInRangeRequest request = All IsInRangeAction request.actions

-- the fields are within the ranges of their types and of the table
pub record IsWritableRequest (request : HandshakeRequest) : Type 0 where
  pub agent_version : IsUtf8 request.agent_version
  pub typed : All IsTypedAction request.actions
  pub range : IsInRangeRequest request

-- the bytes of its texts
abbrev pub request_bytes : HandshakeRequest → ℕ
request_bytes request = length request.agent_version + sum_by action_bytes request.actions

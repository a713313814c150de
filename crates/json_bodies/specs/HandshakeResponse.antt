-- The body of a handshake response: what became of each action that was requested.
use Rattle.std.specs.Prelude.{◌≡◌, ℕ, List, [], ◌∷◌, ◌++◌, map, flat_map, All, IsUtf8, Some, Ok, IsOkAnd}
use Rattle.std.specs.List.{AllZip}
use Rattle.serde_json.specs.Data.{Data, string}
use Rattle.serde_json.specs.Written.{compact_text}
use Rattle.json_members.specs.Object.{Field, array_of, object_with}
use Rattle.json_bodies.specs.Processed.{GivesProcessed, IsTypedProcessed, IsInRangeProcessed, processed_faults, processed_fields}
use Rattle.json_members.specs.Members.{object_of, text_at, texts_at, objects_at}
use Rattle.json_bodies.specs.Reading.{fault_in, faults_within}
use Rattle.json_members.specs.declared.member.Member.TheVariants.{ClientVersion, Errors, ProcessedClientActions}
use Rattle.json_members.specs.declared.body_fault.BodyFault.{BodyFault}
use Rattle.json_bodies.specs.declared.handshake_response.HandshakeResponse.{HandshakeResponse}

-- the object's members give the response, and each object of the list its action
pub record GivesResponse (body : Data) (response : HandshakeResponse) : Type 0 where
  pub client_version : text_at body ClientVersion ≡ Ok response.client_version
  pub errors : texts_at body Errors ≡ Ok response.errors
  pub actions : IsOkAnd (objects_at body ProcessedClientActions)
      (λ list. AllZip GivesProcessed list response.actions)

-- the faults of the object's members, in the order of the table, those of each action where the
-- list stands
abbrev pub response_faults : Data → List BodyFault
response_faults body =
    fault_in (text_at body ClientVersion)
    ++ fault_in (texts_at body Errors)
    ++ faults_within (flat_map processed_faults) (objects_at body ProcessedClientActions)

-- the bytes are a body of the response
abbrev pub IsResponseBody : List ℕ → HandshakeResponse → Type 0
IsResponseBody bytes response =
    (body : Data) × (object_of bytes ≡ Ok body) × GivesResponse body response

-- the members that are written, in byte order
unfoldable pub response_fields : HandshakeResponse → List Field
response_fields response =
    (ClientVersion, Some (string response.client_version))
    ∷ (Errors, Some (array_of (map string response.errors)))
    ∷ (
      ProcessedClientActions,
      Some (array_of (map (λ done. object_with (processed_fields done)) response.actions)),
    ) ∷ []

-- the text that is written
abbrev pub response_text : HandshakeResponse → List ℕ
response_text response = compact_text (object_with (response_fields response))

-- the actions are in the ranges of the table
abbrev pub IsInRangeResponse : HandshakeResponse → Type 0
IsInRangeResponse response = All IsInRangeProcessed response.actions

-- the fields are within the ranges of their types and of the table
pub record IsWritableResponse (response : HandshakeResponse) : Type 0 where
  pub client_version : IsUtf8 response.client_version
  pub errors : All IsUtf8 response.errors
  pub typed : All IsTypedProcessed response.actions
  pub range : IsInRangeResponse response

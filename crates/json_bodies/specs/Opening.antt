-- The body of an opening: who opens the channel, and the token of the session.
use Rattle.std.specs.Prelude.{◌≡◌, ℕ, List, [], ◌∷◌, ◌++◌, codes, IsUtf8, option_map, IfSome, Some, Ok}
use Rattle.serde_json.specs.Data.{Data, string}
use Rattle.serde_json.specs.Written.{compact_text}
use Rattle.json_members.specs.Object.{Field, object_with}
use Rattle.json_members.specs.Members.{object_of, text_at, optional_text_at, fixed_text_at}
use Rattle.json_bodies.specs.Reading.{fault_in}
use Rattle.json_members.specs.declared.member.Member.TheVariants.{ClientId, ClientVersion, MessageSchemaVersion, RequestId, TokenValue}
use Rattle.json_members.specs.declared.body_fault.BodyFault.{BodyFault}
use Rattle.json_bodies.specs.declared.opening.Opening.{Opening}

-- the version of these bodies
abbrev pub schema_version : List ℕ
schema_version = codes "1.0"

-- the object's members give the opening
pub record GivesOpening (body : Data) (opening : Opening) : Type 0 where
  pub client_id : text_at body ClientId ≡ Ok opening.client_id
  pub client_version : optional_text_at body ClientVersion ≡ Ok opening.client_version
  pub schema : fixed_text_at schema_version body MessageSchemaVersion ≡ Ok schema_version
  pub request_id : text_at body RequestId ≡ Ok opening.request_id
  pub token : text_at body TokenValue ≡ Ok opening.token

-- the faults of the object's members, in the order of the table
abbrev pub opening_faults : Data → List BodyFault
opening_faults body =
    fault_in (text_at body ClientId)
    ++ fault_in (optional_text_at body ClientVersion)
    ++ fault_in (fixed_text_at schema_version body MessageSchemaVersion)
    ++ fault_in (text_at body RequestId)
    ++ fault_in (text_at body TokenValue)

-- the bytes are a body of the opening
abbrev pub IsOpeningBody : List ℕ → Opening → Type 0
IsOpeningBody bytes opening =
    (body : Data) × (object_of bytes ≡ Ok body) × GivesOpening body opening

-- the members that are written, in byte order
unfoldable pub opening_fields : Opening → List Field
opening_fields opening =
    (ClientId, Some (string opening.client_id))
    ∷ (ClientVersion, option_map string opening.client_version)
    ∷ (MessageSchemaVersion, Some (string schema_version))
    ∷ (RequestId, Some (string opening.request_id))
    ∷ (TokenValue, Some (string opening.token)) ∷ []

-- the text that is written
abbrev pub opening_text : Opening → List ℕ
opening_text opening = compact_text (object_with (opening_fields opening))

-- the fields are within the ranges of their types
pub record IsWritableOpening (opening : Opening) : Type 0 where
  pub client_id : IsUtf8 opening.client_id
  pub client_version : IfSome opening.client_version IsUtf8
  pub request_id : IsUtf8 opening.request_id
  pub token : IsUtf8 opening.token

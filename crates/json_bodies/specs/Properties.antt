-- The properties of a session, as they stand in the parameters of a requested action.
use Rattle.std.specs.Prelude.{◌≡◌, List, [], ◌∷◌, ◌++◌, IsUtf8, option_map, IfSome, Ok}
use Rattle.serde_json.specs.Data.{Data, string}
use Rattle.json_members.specs.Object.{Field}
use Rattle.json_members.specs.Members.{optional_text_at}
use Rattle.json_bodies.specs.Reading.{fault_in}
use Rattle.json_members.specs.declared.member.Member.TheVariants.{LocalPortNumber, PortNumber, Type_}
use Rattle.json_members.specs.declared.body_fault.BodyFault.{BodyFault}
use Rattle.json_bodies.specs.declared.properties.Properties.{Properties}

-- the object's members give the properties
pub record GivesProperties (body : Data) (properties : Properties) : Type 0 where
  pub local_port : optional_text_at body LocalPortNumber ≡ Ok properties.local_port
  pub port : optional_text_at body PortNumber ≡ Ok properties.port
  pub kind : optional_text_at body Type_ ≡ Ok properties.kind

-- the faults of the object's members, in the order of the table
abbrev pub properties_faults : Data → List BodyFault
properties_faults body =
    fault_in (optional_text_at body LocalPortNumber)
    ++ fault_in (optional_text_at body PortNumber)
    ++ fault_in (optional_text_at body Type_)

-- the members that are written, in byte order
unfoldable pub properties_fields : Properties → List Field
properties_fields properties =
    (LocalPortNumber, option_map string properties.local_port)
    ∷ (PortNumber, option_map string properties.port)
    ∷ (Type_, option_map string properties.kind) ∷ []

-- the fields are within the ranges of their types
pub record IsWritableProperties (properties : Properties) : Type 0 where
  pub local_port : IfSome properties.local_port IsUtf8
  pub port : IfSome properties.port IsUtf8
  pub kind : IfSome properties.kind IsUtf8

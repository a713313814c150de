-- The body of the end of a handshake: a text for the user, and how long the handshake took.
use Rattle.std.specs.Prelude.{◌≡◌, ◌<◌, ◌-◌, ◌^◌, ℕ, pos, List, [], ◌∷◌, ◌++◌, IsUtf8, Some, Ok}
use Rattle.serde_json.specs.Data.{Data, number, unsigned, string}
use Rattle.serde_json.specs.Written.{compact_text}
use Rattle.json_members.specs.Object.{Field, object_with}
use Rattle.json_members.specs.Members.{object_of, text_or_empty_at, whole_at}
use Rattle.json_bodies.specs.Reading.{fault_in}
use Rattle.json_members.specs.declared.member.Member.TheVariants.{CustomerMessage, HandshakeTimeToComplete}
use Rattle.json_members.specs.declared.body_fault.BodyFault.{BodyFault}
use Rattle.json_bodies.specs.declared.handshake_complete.HandshakeComplete.{HandshakeComplete}

-- the object's members give the end of the handshake
pub record GivesComplete (body : Data) (complete : HandshakeComplete) : Type 0 where
  pub message : text_or_empty_at body CustomerMessage ≡ Ok complete.message
  pub nanos : whole_at (pos 0) (pos (2 ^ 63 - 1)) body HandshakeTimeToComplete
      ≡ Ok (pos complete.nanos)

-- the faults of the object's members, in the order of the table
abbrev pub complete_faults : Data → List BodyFault
complete_faults body =
    fault_in (text_or_empty_at body CustomerMessage)
    ++ fault_in (whole_at (pos 0) (pos (2 ^ 63 - 1)) body HandshakeTimeToComplete)

-- the bytes are a body of the end of the handshake
abbrev pub IsCompleteBody : List ℕ → HandshakeComplete → Type 0
IsCompleteBody bytes complete =
    (body : Data) × (object_of bytes ≡ Ok body) × GivesComplete body complete

-- the members that are written, in byte order
unfoldable pub complete_fields : HandshakeComplete → List Field
complete_fields complete =
    (CustomerMessage, Some (string complete.message))
    ∷ (HandshakeTimeToComplete, Some (number (unsigned complete.nanos))) ∷ []

-- the text that is written
abbrev pub complete_text : HandshakeComplete → List ℕ
complete_text complete = compact_text (object_with (complete_fields complete))

-- the time is in the range of the table
abbrev pub IsInRangeComplete : HandshakeComplete → Type 0
IsInRangeComplete complete = complete.nanos < 2 ^ 63

-- the fields are within the ranges of their types and of the table
pub record IsWritableComplete (complete : HandshakeComplete) : Type 0 where
  pub message : IsUtf8 complete.message
  pub range : IsInRangeComplete complete

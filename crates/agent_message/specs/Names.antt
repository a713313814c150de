-- The MessageType of a data channel message, as bytes.
use Rattle.std.specs.Prelude.{◌≡◌, ◌≢◌, ℕ, ◌-◌, ◌<◌, ◌≤◌, Bool, ◌||◌, ◌==◌, List, [], ◌++◌, length, drop, replicate, take_while, codes, IsTrue, ◌⊎◌}
use Rattle.std.specs.Char.{is_ascii_alphanumeric}
use Rattle.std.specs.List.{list_all}

-- an ASCII letter, digit or underscore
abbrev pub is_name_byte : ℕ → Bool
is_name_byte byte = is_ascii_alphanumeric byte || byte == 95

-- 1 to 32 of them
abbrev pub IsName : List ℕ → Type 0
IsName text = (1 ≤ length text) × (length text ≤ 32) × IsTrue (list_all is_name_byte text)

-- what may stand behind a name in its field: a space, or the byte 0
abbrev pub is_filler_byte : ℕ → Bool
is_filler_byte byte = byte == 32 || byte == 0

-- the field as it is written: the name, filled up to 32 bytes with spaces
abbrev pub padded : List ℕ → List ℕ
padded name = name ++ replicate (32 - length name) 32

-- the name in a field: the longest run of name bytes at its front
abbrev pub name_of : List ℕ → List ℕ
name_of field = take_while is_name_byte field

-- the filler that follows the name
abbrev pub filler_of : List ℕ → List ℕ
filler_of field = take_while is_filler_byte (drop (length (name_of field)) field)

-- a field has no name at its front, or something else than filler behind the name, at this place
abbrev pub IsWrongAt : List ℕ → ℕ → Type 0
IsWrongAt field place =
    ((name_of field ≡ []) × (place ≡ 0))
    ⊎ ((name_of field ≢ []) × (place ≡ length (name_of field ++ filler_of field))
    × (place < length field))

-- the two names of messages whose date and digest are not judged
abbrev pub IsPublication : List ℕ → Type 0
IsPublication name = (name ≡ codes "start_publication") ⊎ (name ≡ codes "pause_publication")

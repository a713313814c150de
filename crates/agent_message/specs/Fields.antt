-- The fields of a message by their offsets, in any list of bytes.
use Rattle.std.specs.Prelude.{ℕ, ◌+◌, List, ◌++◌, drop, slice_range}
use Rattle.std.specs.Int.{Width, w32, w64, byte_len, from_be_bytes, cast_signed}
use Rattle.agent_message.specs.Names.{name_of}
use Rattle.agent_message.specs.declared.message.Message.{Message}

-- the number that stands at an offset
abbrev pub number_at : Width → ℕ → List ℕ → ℕ
number_at w offset bytes = from_be_bytes w (slice_range bytes offset (offset + byte_len w))

-- the number at the front, 116 in a message
abbrev pub header_length : List ℕ → ℕ
header_length bytes = number_at w32 0 bytes

-- the 32 bytes of the name and its filler
abbrev pub name_field : List ℕ → List ℕ
name_field bytes = slice_range bytes 4 36

-- the 32 bytes of the digest
abbrev pub digest_field : List ℕ → List ℕ
digest_field bytes = slice_range bytes 80 112

-- the length that is said of the payload
abbrev pub payload_length : List ℕ → ℕ
payload_length bytes = number_at w32 116 bytes

-- all that stands behind the length
abbrev pub payload_in : List ℕ → List ℕ
payload_in bytes = drop 120 bytes

-- the message whose fields these are
abbrev pub message_in : List ℕ → Message
message_in bytes = record {
  name = name_of (name_field bytes);
  schema = number_at w32 36 bytes;
  date = number_at w64 40 bytes;
  seq = cast_signed w64 (number_at w64 48 bytes);
  flags = number_at w64 56 bytes;
  id = slice_range bytes 72 80 ++ slice_range bytes 64 72;
  ptype = number_at w32 112 bytes;
  payload = payload_in bytes;
}

-- The binary message of AWS Session Manager's data channel, all numbers big-endian: header length,
-- MessageType, SchemaVersion, CreatedDate, SequenceNumber, Flags, MessageId (bytes 8 to 15, then
-- 0 to 7), PayloadDigest (SHA-256, FIPS 180-4), PayloadType, PayloadLength, Payload.
use Rattle.std.specs.Prelude.{◌≡◌, ℕ, ◌+◌, ◌^◌, ◌<◌, ◌≤◌, ◌⊎◌, List, [], ◌++◌, length, slice_range, IsTrue, FitsSigned}
use Rattle.std.specs.Int.{w32, w64, to_be_bytes, cast_unsigned}
use Rattle.std.specs.List.{list_all}
use Rattle.sha2.specs.Sha256.{sha256}
use Rattle.agent_message.specs.Names.{IsName, IsPublication, is_filler_byte, padded}
use Rattle.agent_message.specs.Fields.{digest_field}
use Rattle.agent_message.specs.declared.message.Message.{Message}

-- each field fits its place: a name, numbers of their widths, an id of 16 bytes
pub record IsMessage (m : Message) : Type 0 where
  pub name : IsName m.name
  pub schema : m.schema < 2 ^ 32
  pub date : m.date < 2 ^ 64
  pub seq : FitsSigned w64 m.seq
  pub flags : m.flags < 2 ^ 64
  pub id : length m.id ≡ 16
  pub ptype : m.ptype < 2 ^ 32

-- the fields side by side, with a name field and a digest
abbrev pub layout : Message → List ℕ → List ℕ → List ℕ
layout m name_field digest =
    to_be_bytes w32 116
    ++ name_field
    ++ to_be_bytes w32 m.schema
    ++ to_be_bytes w64 m.date
    ++ to_be_bytes w64 (cast_unsigned w64 m.seq)
    ++ to_be_bytes w64 m.flags
    ++ slice_range m.id 8 16
    ++ slice_range m.id 0 8
    ++ digest
    ++ to_be_bytes w32 m.ptype
    ++ to_be_bytes w32 (length m.payload)
    ++ m.payload

-- the spelling that is written: the name filled up with spaces, and the digest of the payload
abbrev pub canonical : Message → List ℕ
canonical m = layout m (padded m.name) (sha256 m.payload)

-- the bytes are the message's fields side by side and nothing more, whatever filler and digest
pub record Spells (m : Message) (bytes : List ℕ) : Type 0 where
  pub message : IsMessage m
  -- four bytes tell the length of the payload
  pub sized : length m.payload < 2 ^ 32
  -- what stands behind the name in its field
  pub filler : List ℕ
  pub filled : length m.name + length filler ≡ 32
  pub fills : IsTrue (list_all is_filler_byte filler)
  -- what stands in the field of the digest
  pub digest : List ℕ
  pub hashed : length digest ≡ 32
  pub laid_out : bytes ≡ layout m (m.name ++ filler) digest

-- what can be written: at most 65,536 bytes of payload, and a date but in the publication messages
pub record IsEncodable (m : Message) : Type 0 where
  pub message : IsMessage m
  pub sized : length m.payload ≤ 65536
  pub dated : (0 < m.date) ⊎ IsPublication m.name

-- what a reader asks besides; a publication message needs neither date nor digest
pub record IsSound (m : Message) (bytes : List ℕ) : Type 0 where
  pub sized : length m.payload ≤ 65536
  pub dated : (0 < m.date) ⊎ IsPublication m.name
  -- the digest of an empty payload is not judged
  pub hashed :
      (digest_field bytes ≡ sha256 m.payload) ⊎ (m.payload ≡ []) ⊎ IsPublication m.name

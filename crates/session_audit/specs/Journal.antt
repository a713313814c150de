-- A journal: records of what was seen of the two ends, one after another. A record is the size of
-- what follows in four bytes, big-endian, and then a byte for the end, one for the kind, and the rest.
use Rattle.std.specs.Prelude.{◌≡◌, ℕ, ◌+◌, ◌<◌, ◌≤◌, ◌⊎◌, Bool, false, List, [], ◌∷◌, ◌++◌, Ok, Err, length, nat_eq, take}
use Rattle.std.specs.Int.{w32, from_be_bytes, to_be_bytes}
use Rattle.std.specs.List.{All, filter, flat_map}
use Rattle.agent_message.specs.Layout.{IsMessage}
use Rattle.chan_values.specs.declared.side.Side.{Side}
use Rattle.chan_values.specs.declared.side.Side.TheVariants.{Plugin, Agent}
use Rattle.chan_values.specs.Sides.{other}
use Rattle.channel_core.specs.declared.message.Outgoing.{Outgoing}
use Rattle.channel_core.specs.Arrival.{Arrives}
use Rattle.channel_core.specs.Wire.{CanBeEncoded, encoding, message_of}
use Rattle.session_audit.specs.declared.act.Act.{Act}
use Rattle.session_audit.specs.declared.verdict.Why.{Why}

-- the byte that names an end: P or A
abbrev pub letter : Side → ℕ
letter Plugin = 0x50
letter Agent = 0x41

-- a message of this side that has an encoding
abbrev pub IsSendable : Side → Outgoing → Type 0
IsSendable side out = CanBeEncoded out × IsMessage (message_of side out)

-- these bytes are the encoding of the message
abbrev pub IsEmission : Side → List ℕ → Outgoing → Type 0
IsEmission side bytes out = IsSendable side out × (bytes ≡ encoding side out)

-- this record, without its size, says that the act was seen of the end of this side
abbrev pub IsRecordOf : Side → Act → List ℕ → Type 0
IsRecordOf side (Act.Emits out) r =
    IsSendable side out × (r ≡ letter side ∷ 0 ∷ encoding side out)
IsRecordOf side (Act.Hears incoming) r =
    (message : List ℕ)
    × (r ≡ letter side ∷ 1 ∷ message)
    × Arrives side message (Ok incoming)
IsRecordOf side Act.Opens r = r ≡ letter side ∷ 2 ∷ []
IsRecordOf side Act.Loses r = r ≡ letter side ∷ 3 ∷ []
IsRecordOf side Act.Closes r = r ≡ letter side ∷ 4 ∷ []

-- the bytes of a record with its size
abbrev pub framed : List ℕ → List ℕ
framed r = to_be_bytes w32 (length r) ++ r

-- the bytes of these records
abbrev pub journal : List (List ℕ) → List ℕ
journal records = flat_map framed records

-- whether a record is of the end with this letter
abbrev pub is_of : ℕ → List ℕ → Bool
is_of byte [] = false
is_of byte (b ∷ r) = nat_eq b byte

-- the records of one end, in order
abbrev pub records_at : Side → List (List ℕ) → List (List ℕ)
records_at side records = filter (is_of (letter side)) records

-- ---- faults of form

-- a size that a record may have: two bytes, and a whole message at most
abbrev pub IsSize : ℕ → Type 0
IsSize n = (2 ≤ n) × (n ≤ 65658)

-- what is wrong with the form of one whole record
abbrev pub HasFault : List ℕ → Why → Type 0
HasFault r (Why.WrongEnd byte) =
    (rest : List ℕ) × (r ≡ byte ∷ rest) × ((side : Side) → byte ≡ letter side → ⊥)
HasFault r (Why.Kind kind) =
    (side : Side) × (rest : List ℕ) × (r ≡ letter side ∷ kind ∷ rest) × (5 ≤ kind)
HasFault r (Why.Extra n) =
    (side : Side) × (kind : ℕ) × (rest : List ℕ)
    × (r ≡ letter side ∷ kind ∷ rest) × (2 ≤ kind) × (kind ≤ 4)
    × (n ≡ length rest) × (1 ≤ n)
HasFault r (Why.Message refusal) =
    (side : Side) × (message : List ℕ)
    × ((r ≡ letter side ∷ 0 ∷ message) × Arrives (other side) message (Err refusal)
    ⊎ (r ≡ letter side ∷ 1 ∷ message) × Arrives side message (Err refusal))
HasFault r why = ⊥

-- a record without a fault of form
pub record IsFormed (r : List ℕ) : Type 0 where
  pub size : IsSize (length r)
  pub faultless : (why : Why) → HasFault r why → ⊥

-- the size that these bytes begin with
abbrev pub size_in : List ℕ → ℕ
size_in bytes = from_be_bytes w32 (take 4 bytes)

-- what is wrong with the bytes that come after whole records: the size as soon as its four bytes are
-- there, then that the record is cut off, then the record
abbrev pub BeginsWithFault : List ℕ → Why → Type 0
BeginsWithFault bytes (Why.Size n) = (4 ≤ length bytes) × (n ≡ size_in bytes) × (IsSize n → ⊥)
BeginsWithFault bytes (Why.Cut have) =
    (have ≡ length bytes) × (1 ≤ have)
    × ((have < 4) ⊎ (4 ≤ have) × IsSize (size_in bytes) × (have < 4 + size_in bytes))
BeginsWithFault bytes why =
    (r rest : List ℕ) × (bytes ≡ framed r ++ rest) × IsSize (length r) × HasFault r why

-- the first fault of form in a journal, with its place
pub record IsFormFault (bytes : List ℕ) (place : ℕ) (why : Why) : Type 0 where
  pub records : List (List ℕ)
  pub rest : List ℕ
  pub split : bytes ≡ journal records ++ rest
  pub formed : All IsFormed records
  pub place_is : place ≡ length (journal records)
  pub fault : BeginsWithFault rest why

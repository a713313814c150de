-- A capture: the messages of a link one after another, each in a piece of its length and its bytes.
use Rattle.std.specs.Prelude.{◌≡◌, ℕ, ◌+◌, ◌-◌, ◌^◌, ◌<◌, ◌≤◌, ◌⊎◌, min, Option, MatchOption, Ok, Err, List, [], ◌∷◌, ◌++◌, length}
use Rattle.std.specs.Int.{w32, to_be_bytes}
use Rattle.agent_message.specs.Decoding.{Decodes}
use Rattle.agent_message.specs.Fields.{number_at}
use Rattle.agent_message.specs.declared.capture_fault.CaptureCause.{CaptureCause}
use Rattle.agent_message.specs.declared.capture_fault.CaptureCause.TheVariants.{Size, Message as Refused, Cut}
use Rattle.agent_message.specs.declared.capture_fault.CaptureFault.{CaptureFault}
use Rattle.agent_message.specs.declared.message.Message.{Message}

-- the longest message, in bytes: a header of 120 and a payload of 65,536
abbrev pub max_message : ℕ
max_message = 65656

-- one piece: the length of a message's bytes, big-endian in four, and the bytes
abbrev pub piece : List ℕ → List ℕ
piece spelled = to_be_bytes w32 (length spelled) ++ spelled

-- how many bytes the piece of a message has: 4 for the length, 120 for the header, and the payload
abbrev pub piece_length : Message → ℕ
piece_length m = 124 + length m.payload

-- the bytes are a piece for each of these messages in order, sound and whole, and then the rest
abbrev pub Pieces : List Message → List ℕ → List ℕ → Type 0
Pieces [] bytes rest = bytes ≡ rest
Pieces (m ∷ messages) bytes rest =
    (spelled : List ℕ) × (more : List ℕ)
    × (bytes ≡ piece spelled ++ more) × Decodes spelled (Ok m) × Pieces messages more rest

-- the length with which a piece begins
abbrev pub said_length : List ℕ → ℕ
said_length bytes = number_at w32 0 bytes

-- less than a piece whose length is allowed, as far as it is there
abbrev pub IsUnfinished : List ℕ → Type 0
IsUnfinished rest =
    (length rest < 4) ⊎ ((said_length rest ≤ max_message) × (length rest < 4 + said_length rest))

-- what is wrong at the front of these bytes: a length, the message of a whole piece, or their end
abbrev pub HasCause : List ℕ → CaptureCause → Type 0
HasCause rest (Size said) =
    (4 ≤ length rest) × (said ≡ said_length rest) × (max_message < said)
HasCause rest (Refused refusal) =
    (spelled : List ℕ) × (more : List ℕ)
    × (rest ≡ piece spelled ++ more) × (length spelled ≤ max_message)
    × Decodes spelled (Err refusal)
HasCause rest (Cut have) = (have ≡ length rest) × (0 < have) × IsUnfinished rest

-- where the rest of these bytes begins; 2^64 - 1 stands for each later place too
abbrev pub place_of : List ℕ → List ℕ → ℕ
place_of bytes rest = min (length bytes - length rest) (2 ^ 64 - 1)

-- the rest of these bytes shows this fault, in the piece with which it begins
abbrev pub ShowsFault : List ℕ → List ℕ → CaptureFault → Type 0
ShowsFault bytes rest fault = (fault.at ≡ place_of bytes rest) × HasCause rest fault.cause

-- a whole capture: the messages of its pieces, and then its end or its one fault
pub record IsCapture
    (bytes : List ℕ) (messages : List Message) (fault : Option CaptureFault) : Type 0 where
  pub rest : List ℕ
  pub pieces : Pieces messages bytes rest
  pub ended : MatchOption fault (rest ≡ []) (ShowsFault bytes rest)

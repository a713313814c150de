-- What is wrong with bytes that are no message.
use Rattle.std.specs.Prelude.{◌≡◌, ◌≢◌, ℕ, ◌+◌, ◌<◌, ◌≤◌, List, [], length}
use Rattle.std.specs.Int.{w64}
use Rattle.sha2.specs.Sha256.{sha256}
use Rattle.agent_message.specs.Names.{IsPublication, IsWrongAt, name_of}
use Rattle.agent_message.specs.Fields.{number_at, header_length, name_field, digest_field, payload_length, payload_in}
use Rattle.agent_message.specs.declared.refusal.Refusal.{Refusal}
use Rattle.agent_message.specs.declared.refusal.Refusal.TheVariants.{Short, HeaderLength, Name, Length, TooLong, Date, Digest, NoMemory}

-- the order in which faults are looked for
abbrev pub number_of : Refusal → ℕ
number_of (Short have) = 1
number_of (HeaderLength said) = 2
number_of (Name at) = 3
number_of (Length said have) = 4
number_of (TooLong said) = 5
number_of Date = 6
number_of (Digest said computed) = 7
number_of NoMemory = 8

-- the bytes have this fault, with these values, whatever else may be wrong with them
abbrev pub HasFault : List ℕ → Refusal → Type 0
HasFault bytes (Short have) = (have ≡ length bytes) × (have < 120)
HasFault bytes (HeaderLength said) = (said ≡ header_length bytes) × (said ≢ 116)
HasFault bytes (Name at) = (place : ℕ) × (at ≡ 4 + place) × IsWrongAt (name_field bytes) place
HasFault bytes (Length said have) =
    (said ≡ payload_length bytes) × (have ≡ length (payload_in bytes)) × (said ≢ have)
HasFault bytes (TooLong said) = (said ≡ payload_length bytes) × (65536 < said)
HasFault bytes Date =
    (number_at w64 40 bytes ≡ 0) × ¬ IsPublication (name_of (name_field bytes))
HasFault bytes (Digest said computed) =
    (said ≡ digest_field bytes) × (computed ≡ sha256 (payload_in bytes)) × (said ≢ computed)
    × (payload_in bytes ≢ []) × ¬ IsPublication (name_of (name_field bytes))
HasFault bytes NoMemory = ⊥

-- no fault of the bytes has a lower number
abbrev pub IsFaultlessBelow : ℕ → List ℕ → Type 0
IsFaultlessBelow number bytes =
    (fault : Refusal) → HasFault bytes fault → number ≤ number_of fault

-- the bytes are refused for this fault, their first
abbrev pub Refuses : List ℕ → Refusal → Type 0
Refuses bytes fault = HasFault bytes fault × IsFaultlessBelow (number_of fault) bytes

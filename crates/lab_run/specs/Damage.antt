-- What is reported of a message of which a byte of the payload was changed on its way.
use Rattle.std.specs.Prelude.{ℕ, if◌then◌else◌, nat_lt, Option, Some, None, List, length, slice_index, slice_set, bit_xor, Result, Ok, Err}
use Rattle.std.specs.Str.{bytes_eq}
use Rattle.agent_message.specs.Refusals.{number_of}
use Rattle.agent_message.specs.Sha256.{sha256}
use Rattle.agent_message.specs.declared.refusal.Refusal.TheVariants.{Digest}
use Rattle.chan_values.specs.declared.side.Side.{Side}
use Rattle.chan_values.specs.Sides.{other}
use Rattle.channel_core.specs.declared.message.Incoming.{Incoming}
use Rattle.channel_core.specs.declared.message.Outgoing.{Outgoing}
use Rattle.channel_core.specs.declared.wire.InRefusal.{InRefusal}
use Rattle.channel_core.specs.Wire.{message_of}
use Rattle.lab_script.specs.declared.outcome.Outcome.{Outcome}

-- where the payload of an encoded message begins
abbrev pub payload_start : ℕ
payload_start = 120

-- the bytes with the one at this place changed by exclusive or with 1
abbrev pub damaged : List ℕ → ℕ → List ℕ
damaged bytes place = slice_set bytes place (bit_xor (slice_index bytes place) 1)

-- what is reported of bytes that are not heard. What is wrong inside of a whole message is not
-- told.
abbrev pub outcome_of_refusal : InRefusal → Outcome
outcome_of_refusal (InRefusal.Message refusal) = Outcome.Refused (number_of refusal)
outcome_of_refusal refusal = Outcome.Passed

-- what is reported of a side's answer to bytes
abbrev pub outcome_of_answer : Result Incoming InRefusal → Outcome
outcome_of_answer (Ok incoming) = Outcome.Passed
outcome_of_answer (Err refusal) = outcome_of_refusal refusal

-- what is reported of a message that has a new payload and the digest of its old one
abbrev pub outcome_of_change : List ℕ → List ℕ → Outcome
outcome_of_change old new =
    let said = sha256 old in
    let computed = sha256 new in
    (if bytes_eq said computed
    then Outcome.Passed
    else outcome_of_refusal (InRefusal.Message (Digest said computed)))

-- what is reported of an emission with a damaged byte of its payload, if there are both
abbrev pub outcome_of_hurt : Side → ℕ → Option Outgoing → Outcome
outcome_of_hurt side place None = Outcome.Absent
outcome_of_hurt side place (Some out) =
    let payload = (message_of (other side) out).payload in
    (if nat_lt place (length payload)
    then outcome_of_change payload (damaged payload place)
    else Outcome.Absent)

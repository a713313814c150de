-- Which calls of an end may be made, and what can be encoded of what goes out.
use Rattle.std.specs.Prelude.{◌^◌, ◌<◌, ◌≤◌, length}
use Rattle.chan_values.specs.Limits.{max_payload}
use Rattle.resend_queue.specs.Queue.{IsTransmittable}
use Rattle.channel_core.specs.declared.answer.Pull.{Pull}
use Rattle.channel_core.specs.declared.call.EndCall.{EndCall}
use Rattle.channel_core.specs.declared.message.Incoming.{Incoming}
use Rattle.channel_core.specs.declared.message.Outgoing.{Outgoing}

-- the number of what is heard is below 2^63
abbrev pub IsNumbered : Incoming → Type 0
IsNumbered (Incoming.Stream n id item last) = n < 2 ^ 63
IsNumbered (Incoming.Ack n) = n < 2 ^ 63
IsNumbered incoming = Unit {0}

-- the arguments meet the conditions of the end's call
abbrev pub IsCallable : EndCall → Type 0
IsCallable (EndCall.Put item id now) = length item.payload ≤ max_payload
IsCallable (EndCall.PutLast item id now) = length item.payload ≤ max_payload
IsCallable (EndCall.Heard now incoming) = IsNumbered incoming
IsCallable call = Unit {0}

-- the number is below 2^63, the date isn't 0, and the payload is at most 65,536 bytes
abbrev pub CanBeEncoded : Outgoing → Type 0
CanBeEncoded (Outgoing.Stream sent) = IsTransmittable sent
CanBeEncoded (Outgoing.Ack n id date) = (n < 2 ^ 63) × (0 < date)

-- what a pull gives out, if anything
abbrev pub IfEmitted : Pull → (Outgoing → Type 0) → Type 0
IfEmitted (Pull.Emit out) P = P out
IfEmitted answer P = Unit {0}

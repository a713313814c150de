-- The limits of the protocol.
use Rattle.std.specs.Prelude.{ℕ}

-- the greatest payload of a message, in bytes
abbrev pub max_payload : ℕ
max_payload = 65536

-- the longest window of an end, in messages
abbrev pub max_window : ℕ
max_window = 10000

-- the greatest sequence number of a stream message, 2^63 - 2
abbrev pub max_seq : ℕ
max_seq = 9223372036854775806

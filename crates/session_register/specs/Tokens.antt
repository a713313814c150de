-- A token as 16 bytes and as 32 digits.
use Rattle.std.specs.Prelude.{ℕ, ◌+◌, ◌^◌, ◌<◌, List, ◌++◌, slice_range}
use Rattle.std.specs.Int.{w64, from_be_bytes, to_be_bytes}
use Rattle.hex.specs.Hex.{encode_lower}
use Rattle.session_register.specs.declared.token.Token.{Token}

-- both numbers of the token have at most 64 bits
abbrev pub IsWord : Token → Type 0
IsWord token = (token.count < 2 ^ 64) × (token.random < 2 ^ 64)

-- the count and then the drawn number, big-endian
abbrev pub token_bytes : Token → List ℕ
token_bytes token = to_be_bytes w64 token.count ++ to_be_bytes w64 token.random

-- the number of the 8 bytes from this place on
abbrev pub number_at : ℕ → List ℕ → ℕ
number_at at bytes = from_be_bytes w64 (slice_range bytes at (at + 8))

-- the token that 16 bytes are
abbrev pub token_of : List ℕ → Token
token_of bytes = record { count = number_at 0 bytes; random = number_at 8 bytes }

-- the token as 32 lower-case hexadecimal digits
abbrev pub token_digits : Token → List ℕ
token_digits token = encode_lower (token_bytes token)

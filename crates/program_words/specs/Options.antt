-- What the values of options say.
use Rattle.std.specs.Prelude.{◌≡◌, ℕ, ◌<◌, ◌≤◌, ◌^◌, ◌⊎◌, List, ◌++◌, Option, Some, None}
use Rattle.std.specs.Prelude.{Bool, codes, decimal, if◌then◌else◌}
use Rattle.chan_values.specs.declared.side.Side.{Side}
use Rattle.session_register.specs.TokenTexts.{IsTextOf}
use Rattle.session_register.specs.declared.token_value.TokenValue.{TokenValue}
use Rattle.clap.specs.Words.{Row, Text, first_of}

-- a host that is this machine
abbrev pub IsHost : Text → Type 0
IsHost host = (host ≡ codes "127.0.0.1") ⊎ (host ≡ codes "localhost")

-- a number from 1 to 65,535: a port other than 0, or a count of connections
abbrev pub IsPositive : ℕ → Type 0
IsPositive n = (1 ≤ n) × (n < 2 ^ 16)

-- the text is a host, a colon and the decimal digits of a port
abbrev pub IsAddress : Text → Type 0
IsAddress text = (host : Text) × (port : ℕ) × IsHost host × IsPositive port
    × (text ≡ host ++ codes ":" ++ decimal port)

-- the option has this address as its value
abbrev pub SaysAddress : Option Text → Text → Type 0
SaysAddress said address = IsAddress address × (said ≡ Some address)

-- the option has the text of this token as its value, and it is this end's
abbrev pub SaysToken : Option Text → Side → TokenValue → Type 0
SaysToken said role token =
    (token.role ≡ role) × (text : Text) × (said ≡ Some text) × IsTextOf token text

-- the option has this number as its value, in decimal without a sign and without leading zeros
abbrev pub SaysNumber : Option Text → ℕ → Type 0
SaysNumber said n = said ≡ Some (decimal n)

-- the same; where the option is not there, the number is the one by default
abbrev pub SaysNumberOr : ℕ → Option Text → ℕ → Type 0
SaysNumberOr default (Some text) n = text ≡ decimal n
SaysNumberOr default None n = n ≡ default

-- the flag is there, or not
abbrev pub SaysFlag : Option Text → Bool → Type 0
SaysFlag said there = said ≡ Some (if there then codes "true" else codes "false")

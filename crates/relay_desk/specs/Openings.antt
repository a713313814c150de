-- The first message of a connection, and the reply to it.
use Rattle.std.specs.Prelude.{◌≡◌, ℕ, ◌≤◌, Bool, true, false, Option, Some, None, IfSome, List, length}
use Rattle.std.specs.List.{list_any}
use Rattle.chan_io.specs.declared.got.Got.{Got}
use Rattle.json_bodies.specs.Opened.{opened_text}
use Rattle.json_bodies.specs.Opening.{IsOpeningBody}
use Rattle.json_bodies.specs.declared.opened.Opened.{Opened}
use Rattle.json_bodies.specs.declared.opening.Opening.{Opening}
use Rattle.session_register.specs.Names.{same_name}
use Rattle.session_register.specs.Tokens.{token_digits}
use Rattle.session_register.specs.TokenTexts.{IsTextOf}
use Rattle.session_register.specs.declared.token.Token.{Token}
use Rattle.session_register.specs.declared.token_value.TokenValue.{TokenValue}

-- the text is an opening with this value
pub record NamesValue (text : List ℕ) (value : TokenValue) : Type 0 where
  pub opening : Opening
  pub body : IsOpeningBody text opening
  pub token : IsTextOf value opening.token

-- the message is a text of at most 4,096 bytes that is an opening with this value
abbrev pub IsOpening : Got → TokenValue → Type 0
IsOpening (Got.Text text) value = (length text ≤ 4096) × NamesValue text value
IsOpening got value = ⊥

-- whether the session is among these
abbrev pub is_named : List (List ℕ) → List ℕ → Bool
is_named names session = list_any (λ name. same_name name session) names

-- what a text names, if it is an opening: one value and no other
abbrev pub Names : List ℕ → Option TokenValue → Type 0
Names text found =
    IfSome found (NamesValue text)
    × ((value : TokenValue) → NamesValue text value → found ≡ Some value)

-- the value of an opening of one of these sessions, where the message is one
abbrev pub Judges : Got → List (List ℕ) → Option TokenValue → Type 0
Judges first names (Some value) = IsOpening first value × (is_named names value.session ≡ true)
Judges first names None =
    (value : TokenValue) → IsOpening first value → is_named names value.session ≡ false

-- the reply to an opening that is accepted
abbrev pub accepting : Token → List ℕ
accepting token =
    opened_text (record { accepted = true; ended = false; resume = token_digits token })

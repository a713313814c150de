-- The text that names a session, an end and a token: `SESSION.ROLE.TOKEN`.
use Rattle.std.specs.Prelude.{◌≡◌, ℕ, List, ◌∷◌, ◌++◌, codes}
use Rattle.chan_values.specs.declared.side.Side.{Side}
use Rattle.chan_values.specs.declared.side.Side.TheVariants.{Plugin, Agent}
use Rattle.session_register.specs.declared.token_value.TokenValue.{TokenValue}
use Rattle.session_register.specs.Names.{IsSessionName}
use Rattle.session_register.specs.Tokens.{IsWord, token_digits}

-- the word for an end between its two points
abbrev pub role_part : Side → List ℕ
role_part Plugin = codes ".plugin."
role_part Agent = codes ".agent."

-- the text of a value
abbrev pub token_text : TokenValue → List ℕ
token_text value = value.session ++ role_part value.role ++ token_digits value.token

-- the text is that of a value whose parts are in range
pub record IsTextOf (value : TokenValue) (text : List ℕ) : Type 0 where
  pub named : IsSessionName value.session
  pub fits : IsWord value.token
  pub spelled : text ≡ token_text value

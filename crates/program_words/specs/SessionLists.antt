-- Names of sessions in one text.
use Rattle.std.specs.Prelude.{◌≡◌, ◌≤◌, ℕ, List, length}
use Rattle.std.specs.List.{All, IsDistinct, join_with_byte}
use Rattle.session_register.specs.Names.{IsSessionName, same_name}

-- 1 to 64 different names of sessions
pub record AreSessions (names : List (List ℕ)) : Type 0 where
  pub some : 1 ≤ length names
  pub few : length names ≤ 64
  pub named : All IsSessionName names
  pub different : IsDistinct same_name names

-- the text has these names in a row, with a comma between each two
abbrev pub IsListOf : List (List ℕ) → List ℕ → Type 0
IsListOf names text = AreSessions names × (text ≡ join_with_byte 44 names)

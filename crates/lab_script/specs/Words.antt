-- The words of a line behind its verb. A number is std's `decimal`: no sign and no leading zero.
use Rattle.std.specs.Prelude.{ℕ, ◌<◌, ◌^◌, List, [], ◌∷◌, codes, decimal, ⊤}
use Rattle.hex.specs.Hex.{encode_lower}
use Rattle.chan_values.specs.declared.side.Side.{Side}
use Rattle.chan_values.specs.declared.side.Side.TheVariants.{Plugin, Agent}
use Rattle.lab_script.specs.declared.word.Which.{Which}
use Rattle.lab_script.specs.declared.word.Which.TheVariants.{Number, Last}

-- the letter of an end
abbrev pub side_text : Side → List ℕ
side_text Plugin = codes "P"
side_text Agent = codes "A"

-- bytes in lower-case hexadecimal, two digits a byte, and `-` for no bytes
abbrev pub hex_text : List ℕ → List ℕ
hex_text [] = codes "-"
hex_text (b ∷ bytes) = encode_lower (b ∷ bytes)

-- the number of an emission, or `last`
abbrev pub which_text : Which → List ℕ
which_text (Number n) = decimal n
which_text Last = codes "last"

-- a number is below 2^64
abbrev pub IsWhich : Which → Type 0
IsWhich (Number n) = n < 2 ^ 64
IsWhich Last = ⊤

-- What a feeder in memory gives, and what a session in memory keeps.
use Rattle.std.specs.Prelude.{◌≡◌, ℕ, zero, suc, Option, Some, None, List, [], ◌∷◌, ◌++◌}
use Rattle.std.specs.Int.{w64, to_be_bytes}
use Rattle.chan_values.specs.declared.item.Item.{Item}

-- the piece at this place: the 8 bytes of the place, of type 1
abbrev pub counted_piece : ℕ → Item
counted_piece place = record { ptype = 1; payload = to_be_bytes w64 place }

-- the first pieces, so many
abbrev pub counted_pieces : ℕ → List Item
counted_pieces zero = []
counted_pieces (suc n) = counted_pieces n ++ counted_piece n ∷ []

-- the marks, of which there is one or none
abbrev pub marks_in : Option ℕ → List ℕ
marks_in None = []
marks_in (Some mark) = mark ∷ []

-- The lines that show the messages of a capture.
use Rattle.std.specs.Prelude.{ℕ, ◌+◌, List, [], ◌∷◌, ◌++◌, length, decimal}
use Rattle.std.specs.Fmt.{signed_decimal}
use Rattle.std.specs.List.{join_with_byte}
use Rattle.uuid.specs.Text.{hyphenated_text, lower}
use Rattle.agent_message.specs.Captures.{piece_length}
use Rattle.agent_message.specs.declared.message.Message.{Message}

-- the line of a message: where its piece begins, its name, number, flags, payload type, the length
-- of its payload, and its id
abbrev pub show_line : ℕ → Message → List ℕ
show_line at m =
    join_with_byte 32
    (decimal at ∷ m.name ∷ signed_decimal m.seq ∷ decimal m.flags ∷ decimal m.ptype
    ∷ decimal (length m.payload) ∷ hyphenated_text lower m.id ∷ [])
    ++ 10 ∷ []

-- the lines of messages whose pieces stand one behind another from a place on
abbrev pub show_lines : ℕ → List Message → List ℕ
show_lines at [] = []
show_lines at (m ∷ messages) = show_line at m ++ show_lines (at + piece_length m) messages

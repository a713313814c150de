-- What is at the front of bytes of a capture.
use Rattle.std.specs.Prelude.{◌≡◌, ℕ, Ok, List, ◌++◌}
use Rattle.agent_message.specs.Captures.{HasCause, IsUnfinished, piece}
use Rattle.agent_message.specs.Decoding.{Decodes}
use Rattle.agent_message.specs.declared.capture.Front.{Front}
use Rattle.agent_message.specs.declared.capture.Front.TheVariants.{Unfinished, Whole, Broken}

-- less than a piece, a whole one and more, or a fault
abbrev pub IsFront : List ℕ → Front → Type 0
IsFront bytes Unfinished = IsUnfinished bytes
IsFront bytes (Whole m) =
    (spelled : List ℕ) × (more : List ℕ) × (bytes ≡ piece spelled ++ more) × Decodes spelled (Ok m)
IsFront bytes (Broken cause) = HasCause bytes cause × ¬ IsUnfinished bytes

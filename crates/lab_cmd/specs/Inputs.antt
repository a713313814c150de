-- What was read of a source.
use Rattle.std.specs.Prelude.{◌≡◌, ℕ, ◌+◌, ◌<◌, ◌≤◌, Option, Some, None, List, [], ◌++◌, length}
use Rattle.chan_io.specs.Sources.{Input}

-- the longest input in bytes
abbrev pub max_input : ℕ
max_input = 67108864

-- these bytes were read, where the source tells
abbrev pub ReadSome : List ℕ → Option Input → Option Input → Type 0
ReadSome bytes None after = after ≡ None
ReadSome bytes (Some before) after =
    (rest : List ℕ) × (before.left ≡ bytes ++ rest)
    × (after ≡ Some (record { given = before.given ++ bytes; left = rest }))

-- these bytes were all that was left, and were read
abbrev pub ReadToEnd : List ℕ → Option Input → Option Input → Type 0
ReadToEnd bytes None after = after ≡ None
ReadToEnd bytes (Some before) after =
    (before.left ≡ bytes) × (after ≡ Some (record { given = before.given ++ bytes; left = [] }))

-- more bytes are left than this, where the source tells
abbrev pub IsLonger : ℕ → Option Input → Type 0
IsLonger most None = Unit {0}
IsLonger most (Some before) = most < length before.left

-- the source gave at most so many bytes
abbrev pub GivesAtMost : ℕ → Option Input → Option Input → Type 0
GivesAtMost most None after = after ≡ None
GivesAtMost most (Some before) None = ⊥
GivesAtMost most (Some before) (Some after) = length after.given ≤ length before.given + most

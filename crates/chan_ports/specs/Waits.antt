-- The statuses of a child's end.
use Rattle.std.specs.Prelude.{◌≡◌, ℕ, ℤ, Option, Some, None, List, [], ◌∷◌, ◌++◌, Result, Ok, Err}
use Rattle.chan_io.specs.declared.failed.Failed.{Failed}

-- a child's end in memory: the statuses that it answered, and how many of its calls failed
pub record MemoryChildEnd : Type 0 where
  pub statuses : List ℤ
  pub faults : ℕ

-- the status stands behind those that were answered before; a failure adds none
abbrev pub Waits : Result ℤ Failed → Option (List ℤ) → Option (List ℤ) → Type 0
Waits result None after = after ≡ None
Waits (Ok status) (Some before) after = after ≡ Some (before ++ status ∷ [])
Waits (Err fault) (Some before) after = after ≡ Some before

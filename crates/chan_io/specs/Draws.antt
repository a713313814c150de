-- The draws of a source of random bytes.
use Rattle.std.specs.Prelude.{◌≡◌, ℕ, Option, Some, None, List, ◌∷◌, Result, Ok, Err}
use Rattle.chan_io.specs.declared.failed.Failed.{Failed}

-- known draws: those to come, and how many calls failed
pub record MemoryEntropy : Type 0 where
  pub draws : List (List ℕ)
  pub faults : ℕ

-- the next draw was given; a draw that failed leaves all as it was
abbrev pub Draws : Result (List ℕ) Failed → Option (List (List ℕ)) → Option (List (List ℕ)) → Type 0
Draws result None after = after ≡ None
Draws (Ok drawn) (Some before) after =
    (rest : List (List ℕ)) × (before ≡ drawn ∷ rest) × (after ≡ Some rest)
Draws (Err fault) (Some before) after = after ≡ Some before

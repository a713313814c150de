-- The dials of a link.
use Rattle.std.specs.Prelude.{◌≡◌, ℕ, Option, Some, None, List, [], ◌∷◌, ◌++◌, Result, Ok, Err}
use Rattle.chan_io.specs.declared.dial.Dial.{Dial}
use Rattle.chan_io.specs.declared.failed.IoFault.{IoFault}

-- a dialer in memory: its dials, and how many of them failed
pub record MemoryDialer : Type 0 where
  pub dials : List Dial
  pub faults : ℕ

-- a dial with this reply, or that failed
abbrev pub dial_with : List ℕ → Option (List ℕ) → Dial
dial_with opening reply = record { opening = opening; reply = reply }

-- the dial stands behind those before, with its reply or as failed; at want of memory it is not
-- told
abbrev pub Dials :
    List ℕ → Result (List ℕ) IoFault → Option (List Dial) → Option (List Dial) → Type 0
Dials opening result None after = after ≡ None
Dials opening (Ok reply) (Some before) after =
    after ≡ Some (before ++ dial_with opening (Some reply) ∷ [])
Dials opening (Err IoFault.Failed) (Some before) after =
    after ≡ Some (before ++ dial_with opening None ∷ [])
Dials opening (Err IoFault.NoMemory) (Some before) after = after ≡ Some before

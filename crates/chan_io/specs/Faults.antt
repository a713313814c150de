-- The count of the faults of an object of the outside.
use Rattle.std.specs.Prelude.{◌≡◌, ℕ, zero, suc, ◌+◌, ◌-◌, ◌^◌, ◌≤◌, min, Result, Err}
use Rattle.chan_io.specs.declared.failed.IoFault.{IoFault}

-- the count rose; at 2^64 - 1 it stands still and counts as risen
abbrev pub Rises : ℕ → ℕ → Type 0
Rises before now = min (before + 1) (2 ^ 64 - 1) ≤ now

-- the count rose by so many calls or more, as far as it goes
abbrev pub RisesBy : ℕ → ℕ → ℕ → Type 0
RisesBy times before now = min (before + times) (2 ^ 64 - 1) ≤ now

-- this holds where the call failed for another cause than memory
abbrev pub IfFailed : {X : Type 0} → Result X IoFault → Type 0 → Type 0
IfFailed (Err IoFault.Failed) P = P
IfFailed result P = Unit {0}

-- this holds where the call had its answer or wanted memory
abbrev pub UnlessFailed : {X : Type 0} → Result X IoFault → Type 0 → Type 0
UnlessFailed (Err IoFault.Failed) P = Unit {0}
UnlessFailed result P = P

-- the count that another is added to: it rises exactly where the other is not 0
abbrev pub Merges : ℕ → ℕ → ℕ → Type 0
Merges before zero now = now ≡ before
Merges before (suc n) now = Rises before now

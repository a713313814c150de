-- A child that was started: what its input took, and what its end answered.
use Rattle.std.specs.Prelude.{◌≡◌, ℕ, ℤ, Bool, true, false, Option, IfSome, List, ◌++◌, ◌⊎◌}
use Rattle.std.specs.List.{list_any}
use Rattle.chan_io.specs.Faults.{Rises}
use Rattle.chan_io.specs.Sinks.{Finishes as FinishesOutput, Output, Writes, WritesPart}
use Rattle.session_run.specs.declared.parcel.Parcel.{Parcel}
use Rattle.shell_session.specs.Items.{joined}
use Rattle.shell_session.specs.Parcels.{arrived, before_end, is_end}

pub record ChildState : Type 0 where
  -- what its input tells, and how many calls of that failed
  pub stdin : Option Output
  pub stdin_faults : ℕ
  -- whether no more is written there
  pub over : Bool
  -- the statuses that its end answered, and how many calls of that failed
  pub statuses : Option (List ℤ)
  pub end_faults : ℕ
  -- how many of its outputs are still fed
  pub feeding : ℕ

-- one that was just started
abbrev pub new_child : Option Output → ℕ → Option (List ℤ) → ℕ → ChildState
new_child stdin stdin_faults statuses end_faults =
    record {
      stdin = stdin;
      stdin_faults = stdin_faults;
      over = false;
      statuses = statuses;
      end_faults = end_faults;
      feeding = 2;
    }

-- the first list begins the second
abbrev pub IsPrefixOf : List ℕ → List ℕ → Type 0
IsPrefixOf xs ys = (rest : List ℕ) × (xs ++ rest ≡ ys)

-- the bytes for a child's input: the payloads of type 1 up to the first end of the direction
abbrev pub input_bytes : List Parcel → List ℕ
input_bytes parcels = joined 1 (arrived (before_end parcels))

-- whether the direction has ended
abbrev pub has_end : List Parcel → Bool
has_end parcels = list_any is_end parcels

-- all of these bytes were written to the input, which is finished exactly where they have ended
pub record TookAll (bytes : List ℕ) (ended : Bool) (c : ChildState) : Type 0 where
  pub faults : c.stdin_faults ≡ 0
  pub over : c.over ≡ ended
  pub told : IfSome c.stdin (λ output. output ≡ record { taken = bytes; finished = ended })

-- a call of the input failed: the first of these bytes were written, and it is not finished
pub record TookFront (bytes : List ℕ) (c : ChildState) : Type 0 where
  pub faults : Rises 0 c.stdin_faults
  pub over : c.over ≡ true
  pub told : IfSome c.stdin
      (λ output. (output.finished ≡ false) × IsPrefixOf output.taken bytes)

-- what the input took of these parcels
abbrev pub TookInput : List Parcel → ChildState → Type 0
TookInput parcels c =
    TookAll (input_bytes parcels) (has_end parcels) c ⊎ TookFront (input_bytes parcels) c

-- its end is what it was
abbrev pub SameEnd : ChildState → ChildState → Type 0
SameEnd old new = (new.statuses ≡ old.statuses) × (new.end_faults ≡ old.end_faults)

-- its input is what it was
abbrev pub SameInput : ChildState → ChildState → Type 0
SameInput old new =
    (new.stdin ≡ old.stdin) × (new.stdin_faults ≡ old.stdin_faults) × (new.over ≡ old.over)

-- ---- what one call does with the input. No public clause cites what follows

-- bytes are written, where it is open: all of them, or a front at a failure, after which it is over
abbrev pub Feeds : List ℕ → ChildState → ChildState → Type 0
Feeds bytes old new =
    ((old.over ≡ true) × SameInput old new)
    ⊎ (((old.over ≡ false) × (new.over ≡ false) × (new.stdin_faults ≡ old.stdin_faults)
    × Writes bytes old.stdin new.stdin)
    ⊎ ((old.over ≡ false) × (new.over ≡ true) × Rises old.stdin_faults new.stdin_faults
    × WritesPart bytes old.stdin new.stdin))

-- it is finished, where it is open; or that failed
abbrev pub Finishes : ChildState → ChildState → Type 0
Finishes old new =
    ((old.over ≡ true) × SameInput old new)
    ⊎ (((old.over ≡ false) × (new.over ≡ true) × (new.stdin_faults ≡ old.stdin_faults)
    × FinishesOutput old.stdin new.stdin)
    ⊎ ((old.over ≡ false) × (new.over ≡ true) × Rises old.stdin_faults new.stdin_faults
    × (new.stdin ≡ old.stdin)))

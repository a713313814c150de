-- A report that is gathered and written in pieces.
use Rattle.std.specs.Prelude.{◌≡◌, ℕ, ◌≤◌, Option, List, ◌++◌, Result, MatchResult}
use Rattle.chan_io.specs.Faults.{Rises}
use Rattle.chan_io.specs.Sinks.{Output, Writes, WritesPart}
use Rattle.lab_run.specs.declared.stop.Stop.{Stop}

-- what of a report waits to be written, and what the sink tells
pub record Printout : Type 0 where
  pub pending : List ℕ
  pub output : Option Output
  pub faults : ℕ

-- the same, by what the sink's trait tells of a sink
abbrev pub printout : {K : Type 0} → (K → Option Output) → (K → ℕ) → List ℕ → K → Printout
printout output faults pending sink =
    record { pending = pending; output = output sink; faults = faults sink }

-- a front of the text was written, and the rest is pending
abbrev pub IsPrinted : List ℕ → List ℕ → Option Output → Option Output → Type 0
IsPrinted text pending before now =
    (written : List ℕ) × (written ++ pending ≡ text) × Writes written before now

-- this text is written or pending now, behind what was pending before
pub record Adds (text : List ℕ) (old new : Printout) : Type 0 where
  pub printed : IsPrinted (old.pending ++ text) new.pending old.output new.output
  pub faults : new.faults ≡ old.faults

-- this text was not added whole: what was written is a front of it, behind what was pending
pub record Stops (text : List ℕ) (stop : Stop) (old new : Printout) : Type 0 where
  pub part : WritesPart (old.pending ++ text) old.output new.output
  pub failed : stop ≡ Stop.Write → Rises old.faults new.faults
  pub memory : stop ≡ Stop.NoMemory → new.faults ≡ old.faults
  pub counted : old.faults ≤ new.faults

-- a call that adds this text to the report
abbrev pub Prints : {T : Type 0} → List ℕ → Result T Stop → Printout → Printout → Type 0
Prints text result old new =
    MatchResult result (λ _. Adds text old new) (λ stop. Stops text stop old new)

-- All that a link reader does, from its first step to its last.
use Rattle.std.specs.Prelude.{◌≡◌, ℕ, true, Option, Some, None, List, [], ◌∷◌, ◌++◌, is_some}
use Rattle.std.specs.List.{flat_map, fold, sum_by}
use Rattle.chan_io.specs.LinksIn.{Arrivals}
use Rattle.chan_io.specs.declared.dial.Dial.{Dial}
use Rattle.channel_core.specs.declared.call.EndAnswer.{EndAnswer}
use Rattle.channel_core.specs.declared.call.EndCall.{EndCall}
use Rattle.turn_lock.specs.Runs.{AllFit}
use Rattle.session_run.specs.Adds.{AddsCalls}
use Rattle.session_workers.specs.declared.link_reader.LinkReader.{LinkReader}
use Rattle.session_workers.specs.declared.read_state.ReadEnd.{ReadEnd}
use Rattle.session_workers.specs.ReaderSteps.{MayRead, reader_after}
use Rattle.session_workers.specs.Readers.{DialsAll, ReceivesAll}
use Rattle.session_workers.specs.Reading.{ReaderStep, arrivals_in, dials_in, failed_in, missed_in, reader_calls, reader_shelf_calls}
use Rattle.session_workers.specs.Writing.{CountsFailures}

-- a reader that ends otherwise than at a closed end closes it
abbrev pub reader_closing : Option ReadEnd → List (EndCall × EndAnswer)
reader_closing None = []
reader_closing (Some ReadEnd.Closed) = []
reader_closing (Some end) = (EndCall.Close, EndAnswer.Done) ∷ []

module _ {D N : Type 0} (dials_of : D → Option (List Dial)) (dial_faults : D → ℕ)
    (arrivals_of : N → Option Arrivals) (faults : N → ℕ) where
  -- the reader made these steps, in order, and then these calls of the end
  pub record Reads (old : LinkReader D N) (steps : List ReaderStep)
      (closing : List (EndCall × EndAnswer)) (new : LinkReader D N)
      : Type 0 where
    pub may : AllFit reader_after (MayRead old.setting) old.state steps
    pub setting : new.setting ≡ old.setting
    pub state : new.state ≡ fold reader_after old.state steps
    pub end : AddsCalls old.end (flat_map reader_calls steps ++ closing) new.end
    pub shelf : AddsCalls old.shelf (flat_map reader_shelf_calls steps) new.shelf
    pub dials :
        DialsAll (flat_map dials_in steps) (dials_of old.dialer) (dials_of new.dialer)
    pub arrivals :
        ReceivesAll (flat_map arrivals_in steps) (arrivals_of old.input) (arrivals_of new.input)
    pub missed :
        CountsFailures (sum_by missed_in steps) (dial_faults old.dialer) (dial_faults new.dialer)
    pub failed :
        CountsFailures (sum_by failed_in steps) (faults old.input) (faults new.input)

  -- the reader ran to its end, and closed the end where it ended otherwise than at a closed one
  pub record ReadsAll (old new : LinkReader D N) : Type 0 where
    pub steps : List ReaderStep
    pub reads : Reads old steps (reader_closing new.state.over) new
    pub over : is_some new.state.over ≡ true

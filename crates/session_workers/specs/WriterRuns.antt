-- All that a link writer does, from its first turn to its last.
use Rattle.std.specs.Prelude.{◌≡◌, ℕ, Bool, true, false, Option, List, [], ◌∷◌, ◌++◌}
use Rattle.std.specs.List.{flat_map, fold, sum_by}
use Rattle.chan_io.specs.LinksOut.{Departures}
use Rattle.chan_values.specs.declared.side.Side.{Side}
use Rattle.channel_core.specs.declared.call.EndAnswer.{EndAnswer}
use Rattle.channel_core.specs.declared.call.EndCall.{EndCall}
use Rattle.turn_lock.specs.Runs.{AllFit}
use Rattle.session_run.specs.Adds.{AddsCalls}
use Rattle.session_workers.specs.declared.link_writer.LinkWriter.{LinkWriter}
use Rattle.session_workers.specs.declared.worker_end.WorkerEnd.{WorkerEnd}
use Rattle.session_workers.specs.Writing.{CountsFailures, Departs, IsWriterTurn, WriterTurn, end_calls, failures, is_last, messages_in, send_in, shelf_calls, starved, told_after}

-- what the turns so far come to
pub record Progress : Type 0 where
  -- for how many openings the end-of-session text was sent, or tried to be
  pub told : ℕ
  -- whether the last turn was made
  pub over : Bool
  -- whether memory was wanted in it
  pub starved : Bool

-- before the first turn
abbrev pub at_first : ℕ → Progress
at_first told = record { told = told; over = false; starved = false }

-- after one turn more
abbrev pub progress : Side → Progress → WriterTurn → Progress
progress side p turn =
    record { told = told_after side p.told turn; over = is_last turn; starved = starved turn }

-- a turn comes only where the last was not made
abbrev pub MayTurn : Side → Progress → WriterTurn → Type 0
MayTurn side p turn = (p.over ≡ false) × IsWriterTurn side p.told turn

-- whether a worker ended for want of memory
abbrev pub wanted_memory : WorkerEnd → Bool
wanted_memory WorkerEnd.NoMemory = true
wanted_memory WorkerEnd.Closed = false

-- a worker that ends for want of memory closes the end
abbrev pub closing_calls : WorkerEnd → List (EndCall × EndAnswer)
closing_calls WorkerEnd.NoMemory = (EndCall.Close, EndAnswer.Done) ∷ []
closing_calls WorkerEnd.Closed = []

module _ {U : Type 0} (departures : U → Option Departures) (faults : U → ℕ) where
  -- the writer made these turns, in order, and then these calls of the end
  pub record Wrote (old : LinkWriter U) (turns : List WriterTurn)
      (closing : List (EndCall × EndAnswer)) (starved : Bool) (new : LinkWriter U)
      : Type 0 where
    pub may : AllFit (progress old.side) (MayTurn old.side) (at_first old.told) turns
    pub progress :
        record { told = new.told; over = new.over; starved = starved }
        ≡ fold (progress old.side) (at_first old.told) turns
    pub side : new.side ≡ old.side
    pub end : AddsCalls old.end (flat_map end_calls turns ++ closing) new.end
    pub shelf : AddsCalls old.shelf (flat_map shelf_calls turns) new.shelf
    pub sends :
        Departs (flat_map (messages_in old.side) turns) new.over (departures old.output)
        (departures new.output)
    pub counted :
        CountsFailures (sum_by (λ turn. failures (send_in turn)) turns) (faults old.output)
        (faults new.output)

  -- the writer ran to its end: a look that showed the end closed, or want of memory
  pub record WroteAll (old : LinkWriter U) (new : LinkWriter U) (end : WorkerEnd) : Type 0 where
    pub turns : List WriterTurn
    pub wrote : Wrote old turns (closing_calls end) (wanted_memory end) new
    pub over : new.over ≡ true

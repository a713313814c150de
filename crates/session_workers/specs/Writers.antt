-- A turn of a link writer: what it has before and after, and what it answers.
use Rattle.std.specs.Prelude.{◌≡◌, ℕ, ◌||◌, [], ◌∷◌, Option, Result, is_err, is_some}
use Rattle.chan_io.specs.LinksOut.{Departures}
use Rattle.chan_values.specs.declared.no_memory.NoMemory.{NoMemory}
use Rattle.channel_core.specs.declared.call.EndAnswer.{EndAnswer}
use Rattle.channel_core.specs.declared.call.EndCall.{EndCall}
use Rattle.session_run.specs.Adds.{AddsCalls}
use Rattle.session_workers.specs.declared.link_writer.LinkWriter.{LinkWriter}
use Rattle.session_workers.specs.Writing.{CountsFailures, Departs, IdleTurn, IsIdleTurn, IsWriterTurn, WriterTurn, counting, counting_again, end_calls, failures, is_last, messages_in, send_in, shelf_calls, starved, text_by, told_after, told_idle, wants}

module _ {U : Type 0} (departures : U → Option Departures) (faults : U → ℕ) where
  -- the writer made this turn
  pub record Writes (old : LinkWriter U) (turn : WriterTurn) (new : LinkWriter U)
      (answer : Result Unit NoMemory) : Type 0 where
    pub may : IsWriterTurn old.side old.told turn
    pub side : new.side ≡ old.side
    -- what it asked of the end and of the shelf
    pub end : AddsCalls old.end (end_calls turn) new.end
    pub shelf : AddsCalls old.shelf (shelf_calls turn) new.shelf
    -- what it sent; the link is shut in the last turn
    pub sends :
        Departs (messages_in old.side turn) (is_last turn) (departures old.output)
        (departures new.output)
    pub counted : CountsFailures (failures (send_in turn)) (faults old.output) (faults new.output)
    -- what it keeps and answers
    pub told : new.told ≡ told_after old.side old.told turn
    pub over : new.over ≡ is_last turn
    pub starved : is_err answer ≡ starved turn

  -- the rest of an idle turn, after its pull
  pub record Idles (old : LinkWriter U) (i : IdleTurn) (new : LinkWriter U)
      (answer : Result Unit NoMemory) : Type 0 where
    pub may : IsIdleTurn old.side old.told i
    pub side : new.side ≡ old.side
    pub end : AddsCalls old.end ((EndCall.Look, EndAnswer.Look i.look) ∷ []) new.end
    pub shelf : AddsCalls old.shelf (counting i.count ∷ counting_again i.again) new.shelf
    pub sends :
        Departs (text_by i.text) (is_some i.again || wants i.text) (departures old.output)
        (departures new.output)
    pub counted : CountsFailures (failures i.text) (faults old.output) (faults new.output)
    pub told : new.told ≡ told_idle old.side old.told i i.again
    pub over : new.over ≡ (is_some i.again || wants i.text)
    pub starved : is_err answer ≡ wants i.text

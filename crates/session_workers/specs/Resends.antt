-- What the resend worker does in one turn.
use Rattle.std.specs.Prelude.{◌≡◌, ℕ, Option, Some, None, List, [], ◌∷◌}
use Rattle.channel_core.specs.declared.answer.Look.{Look}
use Rattle.channel_core.specs.declared.answer.Tick.{Tick}
use Rattle.channel_core.specs.declared.call.EndAnswer.{EndAnswer}
use Rattle.channel_core.specs.declared.call.EndCall.{EndCall}
use Rattle.session_run.specs.Adds.{AddsCalls}
use Rattle.session_workers.specs.declared.resender.Resender.{Resender}

-- one turn: its moment, what the timer did, and what the end showed after that
pub record ResendTurn : Type 0 where
  pub now : ℕ
  pub tick : Tick
  pub look : Look

-- its calls of the end
abbrev pub resend_calls : ResendTurn → List (EndCall × EndAnswer)
resend_calls turn =
    (EndCall.Tick turn.now, EndAnswer.Tick turn.tick)
    ∷ (EndCall.Look, EndAnswer.Look turn.look)
    ∷ []

-- the number on which the end gave up
abbrev pub gave_up : Tick → Option ℕ
gave_up (Tick.GaveUp seq) = Some seq
gave_up tick = None

-- the worker made this turn, and gave this answer
pub record ResendsOnce (old : Resender) (turn : ResendTurn) (new : Resender) (given : Option ℕ)
    : Type 0 where
  pub end : AddsCalls old.end (resend_calls turn) new.end
  pub over : new.over ≡ turn.look.closed
  pub answer : given ≡ gave_up turn.tick

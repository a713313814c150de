-- Jobs that are started, or come back.
use Rattle.std.specs.Prelude.{◌≡◌, ℕ, Bool, true, false, List, [], ◌∷◌, Result, Ok, Err}
use Rattle.chan_io.specs.Faults.{Rises}
use Rattle.chan_io.specs.Jobs.{IsRunOf}
use Rattle.chan_io.specs.declared.running.Running.{Running}
use Rattle.channel_core.specs.declared.call.EndAnswer.{EndAnswer}
use Rattle.channel_core.specs.declared.call.EndCall.{EndCall}

-- the job was started, or it came back as it was
abbrev pub IsStartOf : {J D : Type 0} → (J → D → Type 0) → J → Result (Running J D) J → Type 0
IsStartOf may job (Ok running) = IsRunOf may job running
IsStartOf may job (Err back) = back ≡ job

-- a close of the end
abbrev pub closing : EndCall × EndAnswer
closing = (EndCall.Close, EndAnswer.Done)

-- the close that is made at once where a worker was not started
abbrev pub closing_unless : Bool → List (EndCall × EndAnswer)
closing_unless true = []
closing_unless false = closing ∷ []

-- a worker that was not started did nothing, and the spawner's count rose
abbrev pub UnlessStarted : {X : Type 0} → Bool → List X → ℕ → ℕ → Type 0
UnlessStarted true done before after = Unit {0}
UnlessStarted false done before after = (done ≡ []) × Rises before after

-- What is reported of the answers of an end.
use Rattle.std.specs.Prelude.{ℕ, Bool, true, false, List, [], ◌∷◌}
use Rattle.chan_values.specs.declared.side.Side.{Side}
use Rattle.channel_core.specs.declared.call.EndAnswer.{EndAnswer}
use Rattle.channel_core.specs.declared.answer.Heard.{Heard}
use Rattle.channel_core.specs.declared.answer.Pull.{Pull}
use Rattle.channel_core.specs.declared.answer.Put.{Put}
use Rattle.channel_core.specs.declared.answer.Tick.{Tick}
use Rattle.channel_core.specs.Wire.{encoding}
use Rattle.lab_script.specs.declared.outcome.Outcome.{Outcome}

-- what a put reports, as the last or not
abbrev pub outcome_of_put : Put → Outcome
outcome_of_put (Put.Seq n) = Outcome.Seq n
outcome_of_put (Put.Closed item) = Outcome.Closed
outcome_of_put (Put.Past item) = Outcome.Past
outcome_of_put (Put.Spent item) = Outcome.Spent
outcome_of_put (Put.Full item) = Outcome.Full

-- what is reported of a message that was heard
abbrev pub outcome_of_heard : Heard → Outcome
outcome_of_heard (Heard.Released items) = Outcome.Released items
outcome_of_heard (Heard.Finished items) = Outcome.Finished items
outcome_of_heard Heard.Late = Outcome.Late
outcome_of_heard Heard.Beyond = Outcome.Beyond
outcome_of_heard (Heard.PastEnd n) = Outcome.PastEnd n
outcome_of_heard (Heard.Acked n) = Outcome.Acked n
outcome_of_heard (Heard.UnknownAck n) = Outcome.UnknownAck n
outcome_of_heard Heard.Paused = Outcome.Paused
outcome_of_heard Heard.Started = Outcome.Started
outcome_of_heard Heard.Ended = Outcome.Ended
outcome_of_heard Heard.AfterClose = Outcome.AfterClose
outcome_of_heard (Heard.NoMemory incoming) = Outcome.Quiet

-- what a pull reports: emission k of this end with its bytes, or that there is none
abbrev pub outcome_of_pull : Side → ℕ → Pull → Outcome
outcome_of_pull side k (Pull.Emit out) = Outcome.Emit k (encoding side out)
outcome_of_pull side k Pull.Idle = Outcome.Idle
outcome_of_pull side k Pull.NoMemory = Outcome.Quiet

-- what a tick reports
abbrev pub outcome_of_tick : Tick → Outcome
outcome_of_tick Tick.Nothing = Outcome.Nothing
outcome_of_tick (Tick.Due n) = Outcome.Due n
outcome_of_tick (Tick.GaveUp n) = Outcome.GaveUp n

-- what an answer reports at an end with k emissions. Want of memory is no answer by the rules.
abbrev pub outcome_of : Side → ℕ → EndAnswer → Outcome
outcome_of side k (EndAnswer.Put answer) = outcome_of_put answer
outcome_of side k (EndAnswer.Heard answer) = outcome_of_heard answer
outcome_of side k (EndAnswer.Tick answer) = outcome_of_tick answer
outcome_of side k (EndAnswer.Pull answer) = outcome_of_pull side k answer
outcome_of side k (EndAnswer.Look answer) = Outcome.Quiet
outcome_of side k EndAnswer.Done = Outcome.Quiet

-- whether this is an emission
abbrev pub is_emission : Outcome → Bool
is_emission (Outcome.Emit number encoding) = true
is_emission outcome = false

-- the bytes that an outcome reports as emitted
abbrev pub encodings_in : Outcome → List (List ℕ)
encodings_in (Outcome.Emit number encoding) = encoding ∷ []
encodings_in outcome = []

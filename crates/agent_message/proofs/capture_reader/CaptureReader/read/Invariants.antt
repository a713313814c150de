use Rattle.std.proofs.Common.{◌≡◌, ℕ, List, ◌++◌, length}
use Rattle.agent_message.specs.CaptureReading.{StandsFor}
use Rattle.agent_message.specs.declared.message.Message.{Message}
use Rattle.agent_message.proofs.capture_reader.CaptureReader.read.Given as goal

-- the bytes that were taken, and those that are coming
abbrev pub invariant-loop-reader : goal.invariant-loop-reader
invariant-loop-reader l =
    (taken : List ℕ)
    × (taken ++ l.coming ≡ l.fn.bytes)
    × ((before : List ℕ) (given : List Message) → StandsFor l.fn.self before given
    → StandsFor l.reader (before ++ taken) (given ++ l.messages.items))

abbrev pub decreases-loop-reader : goal.decreases-loop-reader
decreases-loop-reader l = length l.coming

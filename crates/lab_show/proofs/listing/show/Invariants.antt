use Rattle.std.proofs.Common.{◌≡◌, ℕ, List, ◌++◌, length}
use Rattle.std.specs.List.{sum_by}
use Rattle.chan_io.specs.Sinks.{Writes}
use Rattle.agent_message.specs.Captures.{piece_length}
use Rattle.agent_message.specs.CaptureReading.{StandsFor}
use Rattle.agent_message.specs.declared.message.Message.{Message}
use Rattle.lab_show.specs.Lines.{show_lines}
use Rattle.lab_show.proofs.listing.show.Given as goal

-- the bytes that were taken, and the messages that they gave, whose lines were written
abbrev pub invariant-loop-coming : goal.invariant-loop-coming
invariant-loop-coming g l =
    (taken : List ℕ) × (given : List Message)
    × (taken ++ l.coming ≡ l.fn.capture)
    × StandsFor l.reader taken given
    × (l.at ≡ sum_by piece_length given)
    × Writes (show_lines 0 given) (g.K.Sink.output l.fn.sink) (g.K.Sink.output l.sink)
    × (g.K.Sink.faults l.sink ≡ g.K.Sink.faults l.fn.sink)

abbrev pub decreases-loop-coming : goal.decreases-loop-coming
decreases-loop-coming g l = length l.coming

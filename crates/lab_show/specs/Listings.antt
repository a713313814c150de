-- What showing a capture writes and answers.
use Rattle.std.specs.Prelude.{ℕ, Option, Some, None, Result, Ok, Err, List}
use Rattle.chan_io.specs.Sinks.{Output, Writes, WritesPart}
use Rattle.chan_io.specs.declared.failed.IoFault.{IoFault}
use Rattle.agent_message.specs.Captures.{IsCapture}
use Rattle.agent_message.specs.declared.capture_fault.CaptureFault.{CaptureFault}
use Rattle.agent_message.specs.declared.message.Message.{Message}
use Rattle.lab_show.specs.Lines.{show_lines}
use Rattle.lab_show.specs.declared.stop.ShowStop.{ShowStop}

-- the capture has this fault or none, and the lines of all its messages were written
abbrev pub Shows : List ℕ → Option CaptureFault → Option Output → Option Output → Type 0
Shows capture fault before after =
    (messages : List Message)
    × IsCapture capture messages fault × Writes (show_lines 0 messages) before after

-- a prefix of the lines of a capture was written
abbrev pub ShowsPart : List ℕ → Option Output → Option Output → Type 0
ShowsPart capture before after =
    (messages : List Message) × (fault : Option CaptureFault)
    × IsCapture capture messages fault × WritesPart (show_lines 0 messages) before after

-- what is answered to a capture with this fault or none, where nothing else fails
abbrev pub due : Option CaptureFault → Result (Unit {0}) ShowStop
due None = Ok tt
due (Some fault) = Err (ShowStop.Fault fault)

-- what a fault of writing is for the one who shows
abbrev pub stop_of : IoFault → ShowStop
stop_of IoFault.Failed = ShowStop.Write
stop_of IoFault.NoMemory = ShowStop.NoMemory

-- The journal of a script's run: a record for each entry of its world of which something can be seen, in
-- its order.
use Rattle.std.specs.Prelude.{ℕ, Option, Some, None, List, [], ◌∷◌, ◌++◌}
use Rattle.std.specs.List.{cons_option, flat_map}
use Rattle.std.specs.Option.{option_and_then, option_map}
use Rattle.chan_values.specs.declared.side.Side.{Side}
use Rattle.chan_values.specs.declared.side.Side.TheVariants.{Plugin, Agent}
use Rattle.chan_values.specs.Sides.{other}
use Rattle.channel_core.specs.declared.call.EndCall.{EndCall}
use Rattle.channel_core.specs.declared.message.Incoming.TheVariants as Incoming
use Rattle.channel_core.specs.declared.message.Outgoing.{Outgoing}
use Rattle.channel_core.specs.Call.{with_earlier}
use Rattle.channel_core.specs.History.{emissions}
use Rattle.channel_core.specs.Wire.{encoding}
use Rattle.channel_core.specs.World.{Event, history_of}
use Rattle.session_audit.specs.declared.act.Act.{Act}
use Rattle.session_audit.specs.Acts.{act_of}
use Rattle.session_audit.specs.Journal.{journal, letter}
use Rattle.relay_core.specs.Messages.{closing, pause, start}
use Rattle.lab_script.specs.declared.command.Action.{Action}
use Rattle.lab_script.specs.declared.command.Command.{Command}
use Rattle.lab_script.specs.declared.word.Which.{Which}
use Rattle.lab_run.specs.Run.{progress}
use Rattle.lab_run.specs.Steps.{Step, emission_at, events_of, id_of, steps_of, world_of}
use Rattle.lab_relay.specs.Scene.{lab}

-- the record of what is seen of the end of this side, with the bytes of the message that it hears
abbrev pub record_of : Side → List ℕ → Act → List ℕ
record_of side message (Act.Emits out) = letter side ∷ 0 ∷ encoding side out
record_of side message (Act.Hears incoming) = letter side ∷ 1 ∷ message
record_of side message Act.Opens = letter side ∷ 2 ∷ []
record_of side message Act.Loses = letter side ∷ 3 ∷ []
record_of side message Act.Closes = letter side ∷ 4 ∷ []

-- the bytes of an emission of this side, if there is one
abbrev pub bytes_of : Side → Option Outgoing → List ℕ
bytes_of side None = []
bytes_of side (Some out) = encoding side out

-- the bytes of what a call hears: the relay's message with the line's id at that moment, or the emission
-- of the other end that is meant
abbrev pub bytes_heard : Which → List Event → ℕ → Side → EndCall → List ℕ
bytes_heard which world line side (EndCall.Heard now Incoming.Pause) = pause (id_of line) now
bytes_heard which world line side (EndCall.Heard now Incoming.Start) = start (id_of line) now
bytes_heard which world line side (EndCall.Heard now (Incoming.Closing output)) =
    closing lab (id_of line) now
bytes_heard which world line side call =
    bytes_of (other side) (emission_at (emissions (history_of (other side) world)) which)

-- the record of a call with its answer, by a line and behind this world
abbrev pub event_record : Which → List Event → ℕ → Event → Option (List ℕ)
event_record which world line x =
    option_map
    (record_of x.side (bytes_heard which world line x.side x.entry.call))
    (act_of x.entry.answer x.entry.call)

-- the record of a step
abbrev pub step_record : Which → List Event → Step → Option (List ℕ)
step_record which world s = option_and_then (event_record which world s.line) s.event

-- the records of the steps of one line behind this world
abbrev pub step_records : Which → List Event → List Step → List (List ℕ)
step_records which world [] = []
step_records which world (s ∷ steps) =
    cons_option (step_record which world s)
    (step_records which (world ++ events_of (s ∷ [])) steps)

-- the emission that an action means; what a settle lets an end hear is the latest
abbrev pub which_of : Action → Which
which_of (Action.Hear which) = which
which_of action = Which.Last

abbrev pub which_in : Command → Which
which_in (Command.On side action) = which_of action
which_in command = Which.Last

-- the records of a line behind these lines, of two ends with the window w
abbrev pub line_records : ℕ → List Command → Command → List (List ℕ)
line_records w lines command =
    let before = progress w lines in
    let world = world_of before.steps in
    step_records (which_in command) world (steps_of w world before.now before.line command)

-- the records of a script's run: both ends were connected, and then come those of its lines
unfoldable pub records_of : ℕ → List Command → List (List ℕ)
records_of w commands =
    (letter Plugin ∷ 2 ∷ [])
    ∷ (letter Agent ∷ 2 ∷ [])
    ∷ flat_map (λ p. line_records w p.0 p.1) (with_earlier commands)

-- its journal
abbrev pub journal_of : ℕ → List Command → List ℕ
journal_of w commands = journal (records_of w commands)

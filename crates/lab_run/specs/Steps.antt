-- What a line of a script does at the two ends: its steps, one for each line of the report.
use Rattle.std.specs.Prelude.{ℕ, ◌+◌, ◌*◌, ◌-◌, zero, suc, if◌then◌else◌, Option, Some, None, List, [], ◌∷◌, ◌++◌, length, slice_get, replicate}
use Rattle.std.specs.Int.{w64, to_be_bytes}
use Rattle.std.specs.List.{filter_map}
use Rattle.chan_values.specs.declared.side.Side.{Side}
use Rattle.chan_values.specs.declared.side.Side.TheVariants.{Plugin, Agent}
use Rattle.chan_values.specs.Sides.{other}
use Rattle.channel_core.specs.declared.call.EndCall.{EndCall}
use Rattle.channel_core.specs.declared.message.Incoming.{Incoming}
use Rattle.channel_core.specs.declared.message.Outgoing.{Outgoing}
use Rattle.channel_core.specs.Exchange.{incoming_of, opening}
use Rattle.channel_core.specs.History.{emissions}
use Rattle.channel_core.specs.Legal.{answer_to}
use Rattle.channel_core.specs.World.{Event, history_of}
use Rattle.lab_script.specs.declared.command.Action.{Action}
use Rattle.lab_script.specs.declared.command.Command.{Command}
use Rattle.lab_script.specs.declared.outcome.Outcome.{Outcome}
use Rattle.lab_script.specs.declared.verb.Verb.{Verb}
use Rattle.lab_script.specs.declared.word.Which.{Which}
use Rattle.lab_run.specs.Damage.{outcome_of_hurt}
use Rattle.lab_run.specs.Outcomes.{is_emission, outcome_of}

-- what was done at an end, and what came of it
pub record Step : Type 0 where
  -- the number of the script's line, from 1
  pub line : ℕ
  pub verb : Verb
  pub side : Side
  pub outcome : Outcome
  -- the call with its answer, where one was made
  pub event : Option Event

-- before the first line both ends were connected, at the moment 0
abbrev pub start : List Event
start = opening Plugin 0 ∷ opening Agent 0 ∷ []

-- the calls that were made, in order
abbrev pub events_of : List Step → List Event
events_of steps = filter_map (λ s. s.event) steps

-- what happened at the two ends
abbrev pub world_of : List Step → List Event
world_of steps = start ++ events_of steps

-- the MessageId of what a line puts in: eight zero bytes, and the number of the line
abbrev pub id_of : ℕ → List ℕ
id_of line = replicate 8 0 ++ to_be_bytes w64 line

-- a call at an end, which gets the answer that is due there
abbrev pub called : ℕ → List Event → ℕ → Verb → Side → EndCall → Step
called w world line verb side call =
    let h = history_of side world in
    let answer = answer_to w h call in
    record {
      line = line;
      verb = verb;
      side = side;
      outcome = outcome_of side (length (emissions h)) answer;
      event = Some (record { side = side; entry = record { call = call; answer = answer } });
    }

-- the emission that a line means
abbrev pub emission_at : {X : Type 0} → List X → Which → Option X
emission_at sent (Which.Number k) = slice_get sent k
emission_at sent Which.Last = slice_get sent (length sent - 1)

-- an emission is heard, if there is one
abbrev pub heard_at : ℕ → List Event → ℕ → ℕ → Side → Option Outgoing → Step
heard_at w world now line side None =
    record { line = line; verb = Verb.Hear; side = side; outcome = Outcome.Absent; event = None }
heard_at w world now line side (Some out) =
    called w world line Verb.Hear side (EndCall.Heard now (incoming_of out))

-- a damaged emission comes to a side. Its end is not called.
abbrev pub hurt_at : ℕ → Side → ℕ → Option Outgoing → Step
hurt_at line side place emission =
    record {
      line = line;
      verb = Verb.Hurt;
      side = side;
      outcome = outcome_of_hurt side place emission;
      event = None;
    }

-- What an end does by one line, with its number, at this moment and after this world. A hurt and a
-- hearing are of what the other end emitted.
abbrev pub step_of : ℕ → List Event → ℕ → ℕ → Side → Action → Step
step_of w world now line side (Action.Put item) =
    called w world line Verb.Put side (EndCall.Put item (id_of line) now)
step_of w world now line side (Action.PutLast item) =
    called w world line Verb.Last side (EndCall.PutLast item (id_of line) now)
step_of w world now line side Action.Pull = called w world line Verb.Pull side (EndCall.Pull now)
step_of w world now line side Action.Tick = called w world line Verb.Tick side (EndCall.Tick now)
step_of w world now line side Action.Close = called w world line Verb.Close side EndCall.Close
step_of w world now line side (Action.Hear which) =
    let sent = emissions (history_of (other side) world) in
    heard_at w world now line side (emission_at sent which)
step_of w world now line side (Action.Hurt which place) =
    let sent = emissions (history_of (other side) world) in
    hurt_at line side place (emission_at sent which)
step_of w world now line side Action.Lost = called w world line Verb.Lost side EndCall.Lost
step_of w world now line side Action.Open = called w world line Verb.Open side (EndCall.Opened now)
step_of w world now line side Action.Pause =
    called w world line Verb.Pause side (EndCall.Heard now Incoming.Pause)
step_of w world now line side Action.Start =
    called w world line Verb.Start side (EndCall.Heard now Incoming.Start)
step_of w world now line side Action.End =
    called w world line Verb.End side (EndCall.Heard now (Incoming.Closing []))

-- this end is pulled until it is idle, n times at most, and the other hears each emission at once
unfoldable pub pass_steps : ℕ → ℕ → List Event → ℕ → ℕ → Side → List Step
pass_steps zero w world now line side = []
pass_steps (suc n) w world now line side =
    let pulled = called w world line Verb.Pull side (EndCall.Pull now) in
    let one = world ++ events_of (pulled ∷ []) in
    let sent = emissions (history_of side one) in
    let heard = heard_at w one now line (other side) (emission_at sent Which.Last) in
    let two = one ++ events_of (heard ∷ []) in
    pulled
    ∷ (if is_emission pulled.outcome then heard ∷ pass_steps n w two now line side else [])

-- both ends are connected again, then the plugin sends all that it has, and then the agent
abbrev pub settle_steps : ℕ → List Event → ℕ → ℕ → List Step
settle_steps w world now line =
    let plugin = called w world line Verb.Open Plugin (EndCall.Opened now) in
    let one = world ++ events_of (plugin ∷ []) in
    let agent = called w one line Verb.Open Agent (EndCall.Opened now) in
    let two = one ++ events_of (agent ∷ []) in
    let to_agent = pass_steps (2 * w + 1) w two now line Plugin in
    let to_plugin = pass_steps (2 * w + 1) w (two ++ events_of to_agent) now line Agent in
    plugin ∷ agent ∷ (to_agent ++ to_plugin)

-- The steps of one line, with its number, at this moment and after this world. A line that sets the
-- moment makes none.
abbrev pub steps_of : ℕ → List Event → ℕ → ℕ → Command → List Step
steps_of w world now line (Command.At moment) = []
steps_of w world now line Command.Settle = settle_steps w world now line
steps_of w world now line (Command.On side action) = step_of w world now line side action ∷ []

-- the steps of these lines one after the other, all at this moment and with this line number
abbrev pub steps_at : ℕ → List Event → ℕ → ℕ → List Command → List Step
steps_at w world now line [] = []
steps_at w world now line (command ∷ commands) =
    let steps = steps_of w world now line command in
    steps ++ steps_at w (world ++ events_of steps) now line commands

-- n times this end is pulled and the other hears what it emitted last; then it is pulled once more
abbrev pub pass_lines : Side → ℕ → List Command
pass_lines side zero = Command.On side Action.Pull ∷ []
pass_lines side (suc n) =
    Command.On side Action.Pull
    ∷ Command.On (other side) (Action.Hear Which.Last)
    ∷ pass_lines side n

-- the lines that a settle stands for where the plugin emits n messages and the agent m
abbrev pub settle_lines : ℕ → ℕ → List Command
settle_lines n m =
    Command.On Plugin Action.Open
    ∷ Command.On Agent Action.Open
    ∷ (pass_lines Plugin n ++ pass_lines Agent m)

-- What a line does at the two ends of the channel and at the two sides of the link of streams over
-- it.
use Rattle.std.specs.Prelude.{ℕ, Bool, true, false, if◌then◌else◌, nat_eq, nat_lt, Option, Some, None, List, [], ◌∷◌, ◌++◌, drop, length, map, take}
use Rattle.std.specs.List.{filter_map, flat_map}
use Rattle.chan_values.specs.declared.item.Item.{Item}
use Rattle.chan_values.specs.declared.side.Side.{Side}
use Rattle.chan_values.specs.declared.side.Side.TheVariants.{Plugin, Agent}
use Rattle.channel_core.specs.History.{released_items}
use Rattle.channel_core.specs.Legal.{look_at}
use Rattle.channel_core.specs.World.{Event, history_of}
use Rattle.lab_script.specs.declared.command.Action.TheVariants as actions
use Rattle.lab_script.specs.declared.outcome.Outcome.{Outcome}
use Rattle.lab_script.specs.declared.outcome.StreamOutcome.{StreamOutcome}
use Rattle.lab_script.specs.declared.stream_command.StreamAction.{StreamAction}
use Rattle.lab_script.specs.declared.stream_command.StreamCommand.{StreamCommand}
use Rattle.lab_script.specs.declared.verb.Verb.{Verb}
use Rattle.lab_run.specs.Steps.{Step, step_of, steps_of}
use Rattle.smux_acts.specs.declared.event.Event.{Event as MuxEvent}
use Rattle.smux_streams.specs.Call.{Entry, Opens, Writes, Closes, Outs, Feeds, Takes}
use Rattle.smux_streams.specs.History.{acts_of, consumed, given, left, seen}
use Rattle.smux_streams.specs.Laws.{Step as MuxStep, side_of}
use Rattle.smux_streams.specs.Legal.{feed_answer, open_answer, take_answer, write_answer}
use Rattle.lab_streams.specs.Outcomes.{items_in, outcome_of_event, outcome_of_no_room, outcome_of_open, outcome_of_taken, outcome_of_write}

-- the payload type of the items that carry the bytes of the streams
abbrev pub stream_type : ℕ
stream_type = 1

-- the bytes of the streams that an item carries
abbrev pub bytes_in : Item → List ℕ
bytes_in item = if nat_eq item.ptype stream_type then item.payload else []

-- those of all these items, joined
unfoldable pub bytes_of : List Item → List ℕ
bytes_of items = flat_map bytes_in items

-- what happened so far: the calls of the two ends, and those of the two Muxes
pub record Past : Type 0 where
  pub events : List Event
  pub calls : List MuxStep

-- the plugin's Mux is a client, the agent's a server
abbrev pub is_client : Side → Bool
is_client Plugin = true
is_client Agent = false

-- the calls of the Mux of a side
abbrev pub mux_history : Side → Past → List Entry
mux_history side past = side_of (is_client side) past.calls

-- a call of the Mux of a side
abbrev pub mux_call : Side → Entry → MuxStep
mux_call side entry = record { client = is_client side; entry = entry }

-- the Mux of a side was called once more
abbrev pub with_call : Past → Side → Entry → Past
with_call past side entry =
    record { events = past.events; calls = past.calls ++ mux_call side entry ∷ [] }

-- the bytes that the Mux of a side gives out where it is asked for so many
abbrev pub outgoing : Side → Past → ℕ → List ℕ
outgoing side past most =
    let g = mux_history side past in
    take most (left (given g) (acts_of (is_client side) g))

-- the bytes of the streams that the end of a side has released
abbrev pub arrived : Side → Past → List ℕ
arrived side past = bytes_of (released_items (history_of side past.events))

-- those of them that its Mux has not taken
abbrev pub waiting : Side → Past → List ℕ
waiting side past = drop (length (consumed (mux_history side past))) (arrived side past)

-- a line of the report behind its number
pub record Told : Type 0 where
  pub verb : Verb
  pub side : Option Side
  pub outcome : Outcome

-- what was done, and what is reported of it
pub record StreamStep : Type 0 where
  -- the number of the script's line, from 1
  pub line : ℕ
  pub told : List Told
  -- the call of an end with its answer, where one was made
  pub event : Option Event
  -- the call of a Mux with its answer, where one was made
  pub call : Option MuxStep

-- the calls of the ends, in order
abbrev pub events_in : List StreamStep → List Event
events_in steps = filter_map (λ s. s.event) steps

-- the calls of the Muxes, in order
abbrev pub calls_in : List StreamStep → List MuxStep
calls_in steps = filter_map (λ s. s.call) steps

-- what happened once these steps are made too
abbrev pub after : Past → List StreamStep → Past
after past steps =
    record { events = past.events ++ events_in steps; calls = past.calls ++ calls_in steps }

-- one line of the report
abbrev pub told_once : Verb → Option Side → Outcome → List Told
told_once verb side outcome = record { verb = verb; side = side; outcome = outcome } ∷ []

-- a step of an end as in a plain run
abbrev pub plain_step : Step → StreamStep
plain_step s =
    record {
      line = s.line;
      told = told_once s.verb (Some s.side) s.outcome;
      event = s.event;
      call = None;
    }

-- a call of the Mux of a side
abbrev pub mux_step : ℕ → Side → Entry → List Told → StreamStep
mux_step line side entry told =
    record {
      line = line;
      told = told;
      event = None;
      call = Some (mux_call side entry);
    }

-- what is reported of an event of a stream
abbrev pub told_of_event : Side → MuxEvent → Told
told_of_event side event =
    record { verb = Verb.StreamEvent; side = Some side; outcome = outcome_of_event event }

-- the Mux of a side is fed all that waits for it
abbrev pub feed_step : Past → ℕ → Side → StreamStep
feed_step past line side =
    let g = mux_history side past in
    let bytes = waiting side past in
    let fed = feed_answer (is_client side) (given g) (seen (is_client side) g) bytes in
    mux_step line side (Feeds bytes (Some fed)) (map (told_of_event side) fed.events)

-- it is fed where bytes came
abbrev pub feed_steps : Past → ℕ → Side → List ℕ → List StreamStep
feed_steps past line side came =
    if nat_lt 0 (length came) then feed_step past line side ∷ [] else []

-- a step of an end, and the feed of what it released
abbrev pub fed_step : Past → Step → List StreamStep
fed_step past s =
    let one = plain_step s in
    one ∷ feed_steps (after past (one ∷ [])) s.line s.side (bytes_of (items_in s.outcome))

-- the same of steps one after the other
unfoldable pub fed_steps : Past → List Step → List StreamStep
fed_steps past [] = []
fed_steps past (s ∷ steps) =
    let here = fed_step past s in
    here ++ fed_steps (after past here) steps

-- the client opens a stream
abbrev pub open_step : Past → ℕ → StreamStep
open_step past line =
    let g = mux_history Plugin past in
    let answer = open_answer (given g) (acts_of true g) in
    mux_step line Plugin (Opens answer) (told_once Verb.StreamOpen None (outcome_of_open answer))

-- a Mux writes to a stream
abbrev pub write_step : Past → ℕ → Side → ℕ → List ℕ → StreamStep
write_step past line side sid bytes =
    let g = mux_history side past in
    let answer = write_answer (given g) (acts_of (is_client side) g) sid (length bytes) in
    mux_step line side (Writes sid bytes answer)
    (told_once Verb.StreamWrite (Some side) (outcome_of_write answer))

-- a Mux closes a stream
abbrev pub close_step : Past → ℕ → Side → ℕ → StreamStep
close_step past line side sid =
    let g = mux_history side past in
    let answer = write_answer (given g) (acts_of (is_client side) g) sid 0 in
    mux_step line side (Closes sid answer)
    (told_once Verb.StreamClose (Some side) (outcome_of_write answer))

-- bytes of a stream are taken
abbrev pub take_step : Past → ℕ → Side → ℕ → ℕ → StreamStep
take_step past line side sid most =
    let answer = take_answer (acts_of (is_client side) (mux_history side past)) sid most in
    mux_step line side (Takes sid most answer)
    (told_once Verb.StreamTake (Some side) (outcome_of_taken answer))

-- the end has no room: the Mux is not asked
abbrev pub refused_step : ℕ → Side → Outcome → StreamStep
refused_step line side outcome =
    record {
      line = line;
      told = told_once Verb.StreamPush (Some side) outcome;
      event = None;
      call = None;
    }

-- the item that carries these bytes
abbrev pub stream_item : List ℕ → Item
stream_item bytes = record { ptype = stream_type; payload = bytes }

-- what a Mux gave out is put in as an item, unless it gave nothing
abbrev pub put_step : ℕ → Past → ℕ → ℕ → Side → ℕ → List ℕ → StreamStep
put_step w past now line side most [] =
    mux_step line side (Outs most (Some []))
    (told_once Verb.StreamPush (Some side) (Outcome.Stream StreamOutcome.Empty))
put_step w past now line side most (byte ∷ bytes) =
    let item = stream_item (byte ∷ bytes) in
    let put = step_of w past.events now line side (actions.Put item) in
    record {
      line = line;
      told = told_once Verb.StreamPush (Some side) put.outcome;
      event = put.event;
      call = Some (mux_call side (Outs most (Some (byte ∷ bytes))));
    }

-- where the end has room, its Mux is asked for outgoing bytes
abbrev pub push_step : ℕ → Past → ℕ → ℕ → Side → ℕ → StreamStep
push_step w past now line side most =
    let look = look_at w (history_of side past.events) in
    (if nat_eq look.room 0
    then refused_step line side (outcome_of_no_room look)
    else put_step w past now line side most (outgoing side past most))

-- what a line asks of the link of streams at one side
abbrev pub action_steps : ℕ → Past → ℕ → ℕ → Side → StreamAction → List StreamStep
action_steps w past now line side (StreamAction.Write sid bytes) =
    write_step past line side sid bytes ∷ []
action_steps w past now line side (StreamAction.Close sid) = close_step past line side sid ∷ []
action_steps w past now line side (StreamAction.Push most) =
    push_step w past now line side most ∷ []
action_steps w past now line side (StreamAction.Take sid most) =
    let taken = take_step past line side sid most in
    taken ∷ feed_step (after past (taken ∷ [])) line side ∷ []

-- the steps of one line, with its number, at this moment and after this
abbrev pub stream_steps : ℕ → Past → ℕ → ℕ → StreamCommand → List StreamStep
stream_steps w past now line (StreamCommand.Plain command) =
    fed_steps past (steps_of w past.events now line command)
stream_steps w past now line StreamCommand.Open = open_step past line ∷ []
stream_steps w past now line (StreamCommand.On side action) =
    action_steps w past now line side action

-- the steps of these lines one after the other, all at this moment and with this line number
abbrev pub stream_steps_at : ℕ → Past → ℕ → ℕ → List StreamCommand → List StreamStep
stream_steps_at w past now line [] = []
stream_steps_at w past now line (command ∷ commands) =
    let steps = stream_steps w past now line command in
    steps ++ stream_steps_at w (after past steps) now line commands

-- What a line of a script does at the ends and at the relay, and what it reports.
use Rattle.std.specs.Prelude.{ℕ, nat_eq, if◌then◌else◌, Option, Some, None, List, [], ◌∷◌, ◌++◌}
use Rattle.chan_values.specs.declared.side.Side.{Side}
use Rattle.channel_core.specs.declared.call.EndCall.{EndCall}
use Rattle.channel_core.specs.declared.message.Incoming.{Incoming}
use Rattle.channel_core.specs.declared.message.Outgoing.{Outgoing}
use Rattle.channel_core.specs.Exchange.{incoming_of}
use Rattle.channel_core.specs.History.{emissions}
use Rattle.channel_core.specs.Wire.{encoding}
use Rattle.channel_core.specs.World.{history_of}
use Rattle.relay_core.specs.declared.event.Event.{Event as RelayEvent}
use Rattle.relay_core.specs.declared.event.Event.TheVariants as events
use Rattle.relay_core.specs.Forwarding.{current, is_ended}
use Rattle.relay_core.specs.Rooms.{is_conn}
use Rattle.lab_script.specs.declared.command.Action.{Action}
use Rattle.lab_script.specs.declared.outcome.Outcome.{Outcome}
use Rattle.lab_script.specs.declared.outcome.RelayOutcome.{RelayOutcome}
use Rattle.lab_script.specs.declared.relay_command.RelayAction.{RelayAction}
use Rattle.lab_script.specs.declared.verb.Verb.{Verb}
use Rattle.lab_run.specs.Steps.{Step, called, emission_at, events_of, step_of}
use Rattle.lab_relay.specs.Scene.{Letter, Scene, after_event, came, lab, last_conn, next_conn}

-- what a line does: what it reports, and what has happened after it
pub record Turn : Type 0 where
  pub outcome : Outcome
  pub scene : Scene

-- a step of an end, of which the relay learns nothing
abbrev pub after_step : Scene → Step → Turn
after_step s step =
    record {
      outcome = step.outcome;
      scene = record s { world = s.world ++ events_of (step ∷ []) };
    }

-- what an end does in plain mode
abbrev pub plain : ℕ → Scene → ℕ → ℕ → Side → Action → Turn
plain w s now line side action = after_step s (step_of w s.world now line side action)

-- what an end hears of a message that the relay sends to a connection when this one is made: a closing
-- where the session has ended; else a pause on the new connection, or a start on another
abbrev pub greeting_to : List RelayEvent → ℕ → ℕ → Incoming
greeting_to es conn to =
    if is_ended es lab then Incoming.Closing []
    else if nat_eq to conn then Incoming.Pause
    else Incoming.Start

-- an end has a new connection, which the relay lets in
abbrev pub dialed : ℕ → Scene → ℕ → ℕ → Side → Turn
dialed w s now line side =
    let conn = next_conn (came s) in
    let opened = plain w s now line side Action.Open in
    record {
      outcome = Outcome.Relay (RelayOutcome.Connection conn);
      scene =
          after_event opened.scene now line (events.Opened conn lab side [])
          (greeting_to (came s) conn);
    }

-- the relay loses the last connection of an end, if there is one
abbrev pub after_loss : Scene → ℕ → ℕ → Option ℕ → Scene
after_loss s now line None = s
after_loss s now line (Some conn) =
    after_event s now line (events.Gone conn) (λ to. Incoming.Pause)

-- an end loses its connection, and so does the relay
abbrev pub gone : ℕ → Scene → ℕ → ℕ → Side → Turn
gone w s now line side =
    let lost = plain w s now line side Action.Lost in
    record {
      outcome = lost.outcome;
      scene = after_loss lost.scene now line (last_conn (came s) side);
    }

-- an emission comes to the relay from the last connection of its end, if there are both. It was sent
-- where that one is the current one of this end
abbrev pub posted : Scene → ℕ → ℕ → Side → Option ℕ → Option Outgoing → Turn
posted s now line side conn None = record { outcome = Outcome.Absent; scene = s }
posted s now line side None (Some out) = record { outcome = Outcome.Relay RelayOutcome.Dropped; scene = s }
posted s now line side (Some conn) (Some out) =
    record {
      outcome =
          Outcome.Relay
          (if is_conn conn (current (came s) lab side)
          then RelayOutcome.Sent
          else RelayOutcome.Dropped);
      scene =
          after_event s now line (events.Binary conn (encoding side out))
          (λ to. incoming_of out);
    }

-- an end hears a message of its inbox, if it is there
abbrev pub taken : ℕ → Scene → ℕ → ℕ → Side → Option Letter → Turn
taken w s now line side None = record { outcome = Outcome.Absent; scene = s }
taken w s now line side (Some letter) =
    after_step s (called w s.world line Verb.Take side (EndCall.Heard now letter.says))

-- the session ends
abbrev pub finished : Scene → ℕ → ℕ → Turn
finished s now line =
    record {
      outcome = Outcome.Quiet;
      scene = after_event s now line (events.EndSession lab) (λ to. Incoming.Closing []);
    }

-- what a line asks of one end, with its number, at this moment
abbrev pub turn_of : ℕ → Scene → ℕ → ℕ → Side → RelayAction → Turn
turn_of w s now line side (RelayAction.Put item) = plain w s now line side (Action.Put item)
turn_of w s now line side (RelayAction.PutLast item) =
    plain w s now line side (Action.PutLast item)
turn_of w s now line side RelayAction.Pull = plain w s now line side Action.Pull
turn_of w s now line side RelayAction.Tick = plain w s now line side Action.Tick
turn_of w s now line side RelayAction.Close = plain w s now line side Action.Close
turn_of w s now line side RelayAction.Dial = dialed w s now line side
turn_of w s now line side RelayAction.Gone = gone w s now line side
turn_of w s now line side (RelayAction.Post which) =
    posted s now line side (last_conn (came s) side)
    (emission_at (emissions (history_of side s.world)) which)
turn_of w s now line side (RelayAction.Take which) =
    taken w s now line side (emission_at (s.inbox side) which)

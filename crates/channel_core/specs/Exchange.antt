-- One exchange without a loss: both ends are connected again, and each sends all that it has.
use Rattle.std.specs.Prelude.{◌≡◌, ◌≢◌, ℕ, Bool, true, false, List, [], ◌∷◌, ◌++◌}
use Rattle.std.specs.List.{count_by}
use Rattle.chan_values.specs.declared.side.Side.{Side}
use Rattle.chan_values.specs.declared.side.Side.TheVariants.{Plugin, Agent}
use Rattle.chan_values.specs.Sides.{other}
use Rattle.channel_core.specs.declared.call.EndAnswer.TheVariants as EndAnswer
use Rattle.channel_core.specs.declared.call.EndCall.{EndCall}
use Rattle.channel_core.specs.declared.answer.Heard.TheVariants as Heard
use Rattle.channel_core.specs.declared.message.Incoming.{Incoming}
use Rattle.channel_core.specs.declared.message.Outgoing.{Outgoing}
use Rattle.channel_core.specs.declared.answer.Pull.{Pull}
use Rattle.channel_core.specs.World.{Event, history_of}

-- what the other end hears of an emission
abbrev pub incoming_of : Outgoing → Incoming
incoming_of (Outgoing.Stream m) = Incoming.Stream m.seq m.id m.item m.last
incoming_of (Outgoing.Ack n id date) = Incoming.Ack n

-- this end was asked for a message and gave this answer
pub record IsPulled (end : Side) (pulled : Pull) (x : Event) : Type 0 where
  pub side : x.side ≡ end
  pub now : ℕ
  pub call : x.entry.call ≡ EndCall.Pull now
  pub answer : x.entry.answer ≡ EndAnswer.Pull pulled

-- this end heard the message, and did not want for memory
pub record IsHeard (end : Side) (incoming : Incoming) (x : Event) : Type 0 where
  pub side : x.side ≡ end
  pub now : ℕ
  pub call : x.entry.call ≡ EndCall.Heard now incoming
  pub memory : x.entry.answer ≢ EndAnswer.Heard (Heard.NoMemory incoming)

-- this end is pulled until it is idle, and the other hears each message at once
abbrev pub IsPass : Side → List Event → Type 0
IsPass side [] = ⊥
IsPass side (x ∷ []) = IsPulled side Pull.Idle x
IsPass side (x ∷ y ∷ xs) =
    (out : Outgoing)
    × IsPulled side (Pull.Emit out) x
    × IsHeard (other side) (incoming_of out) y
    × IsPass side xs

-- a new connection at this end
abbrev pub opening : Side → ℕ → Event
opening side now =
    record { side = side; entry = record { call = EndCall.Opened now; answer = EndAnswer.Done } }

-- both ends are connected, then the plugin sends all that it has, and then the agent
pub record IsExchange (xs : List Event) : Type 0 where
  -- the moments of the two openings
  pub plugin_opened : ℕ
  pub agent_opened : ℕ
  -- what the plugin sends and the agent hears
  pub to_agent : List Event
  -- what the agent sends and the plugin hears
  pub to_plugin : List Event
  pub parts :
      xs ≡ opening Plugin plugin_opened ∷ opening Agent agent_opened ∷ (to_agent ++ to_plugin)
  pub first : IsPass Plugin to_agent
  pub second : IsPass Agent to_plugin

-- whether this call is a pull
abbrev pub is_pull : EndCall → Bool
is_pull (EndCall.Pull now) = true
is_pull call = false

-- how often this end was pulled
abbrev pub pull_count : Side → List Event → ℕ
pull_count side xs = count_by (λ e. is_pull e.call) (history_of side xs)

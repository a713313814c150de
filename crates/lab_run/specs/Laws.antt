-- What holds of the world and the report of every script.
use Rattle.std.specs.Prelude.{◌≡◌, ◌≢◌, ◌↔◌, ℕ, ◌+◌, ◌*◌, ◌<◌, ◌≤◌, true, false, Some, List, [], ◌∷◌, ◌++◌, length}
use Rattle.std.specs.List.{All, AllPairs}
use Rattle.chan_values.specs.declared.side.Side.{Side}
use Rattle.chan_values.specs.Sides.{other}
use Rattle.channel_core.specs.Arrival.{Answer, Arrives}
use Rattle.channel_core.specs.declared.call.EndAnswer.TheVariants as EndAnswer
use Rattle.channel_core.specs.declared.answer.Heard.TheVariants as Heard
use Rattle.channel_core.specs.declared.message.Outgoing.{Outgoing}
use Rattle.channel_core.specs.Exchange.{IsExchange}
use Rattle.channel_core.specs.History.{finished_count, has_ended, is_closed, put_items, released_items, taken_items}
use Rattle.channel_core.specs.Laws.{IsPrefixOf}
use Rattle.channel_core.specs.Wire.{encoding, message_of}
use Rattle.channel_core.specs.World.{IsHonest, IsLegalWorld, history_of}
use Rattle.lab_script.specs.Command.{IsCommand}
use Rattle.lab_script.specs.declared.command.Command.{Command}
use Rattle.lab_run.specs.Damage.{damaged, outcome_of_answer, outcome_of_hurt, payload_start}
use Rattle.lab_run.specs.Ends.{AllSendable, IsSendable}
use Rattle.lab_run.specs.Run.{run}
use Rattle.lab_run.specs.Steps.{events_of, settle_lines, steps_at, steps_of, world_of}

-- after these lines each end answered as it should, heard only what the other had emitted and took
-- each number at most once, and what it released is a prefix of what the other end's user put in:
-- all of it where the last item was released; after a last item nothing is put in
pub record IsFaithful (w : ℕ) (commands : List Command) : Type 0 where
  pub legal : IsLegalWorld w (world_of (run w commands))
  pub honest : IsHonest (world_of (run w commands))
  pub once :
      let world = world_of (run w commands) in
      (side : Side) → AllPairs (λ p q. p.0 ≢ q.0) (taken_items (history_of side world))
  pub prefix :
      let world = world_of (run w commands) in
      (side : Side)
      → IsPrefixOf (released_items (history_of side world))
      (put_items (history_of (other side) world))
  -- an end has answered once that the last item is released exactly where the other was given its
  -- last item, and all that was put in there is released
  pub whole :
      let world = world_of (run w commands) in
      (side : Side)
      → (finished_count (history_of side world) ≡ 1)
      ↔ ((has_ended (history_of (other side) world) ≡ true)
      × (released_items (history_of side world) ≡ put_items (history_of (other side) world)))
  -- no message that an end hears is answered as past the end of its direction
  pub within : (n : ℕ)
      → All (λ x. x.entry.answer ≢ EndAnswer.Heard (Heard.PastEnd n)) (world_of (run w commands))
  -- an end answers at most once that the last item is released
  pub finished : (side : Side) → finished_count (history_of side (world_of (run w commands))) ≤ 1
  -- after the last item of a direction nothing is put in there, whatever lines follow
  pub ended : (rest : List Command) (side : Side)
      → let h = history_of side (world_of (run w commands)) in
      has_ended h ≡ true
      → put_items (history_of side (world_of (run w (commands ++ rest)))) ≡ put_items h
  -- a script that goes on behind these lines begins with their steps
  pub begins : (rest : List Command) → IsPrefixOf (run w commands) (run w (commands ++ rest))

-- a settle behind these lines makes an exchange without a loss, and its steps are those of the
-- lines that it stands for; where neither end is closed then, each has released all that the other
-- put in
pub record IsSettled (w : ℕ) (commands : List Command) : Type 0 where
  pub exchange : (now line : ℕ)
      → IsExchange (events_of (steps_of w (world_of (run w commands)) now line Command.Settle))
  -- an end emits at most two messages for each place of its window
  pub lines : (now line : ℕ)
      → let world = world_of (run w commands) in
      (n : ℕ) × (m : ℕ) × (n ≤ 2 * w) × (m ≤ 2 * w)
      × (steps_of w world now line Command.Settle ≡ steps_at w world now line (settle_lines n m))
  pub released :
      let world = world_of (run w (commands ++ Command.Settle ∷ [])) in
      ((end : Side) → is_closed (history_of end world) ≡ false)
      → (side : Side)
      → released_items (history_of (other side) world) ≡ put_items (history_of side world)

-- where a message comes to a side with a byte of its payload changed, `hurt` reports what the side
-- answers to these bytes
abbrev pub HurtTellsIncoming : Type 0
HurtTellsIncoming =
    (side : Side) (place : ℕ) (out : Outgoing) (answer : Answer)
    → IsSendable (other side) out
    → place < length (message_of (other side) out).payload
    → Arrives side (damaged (encoding (other side) out) (payload_start + place)) answer
    → outcome_of_hurt side place (Some out) ≡ outcome_of_answer answer

-- every script, in windows of every length, is faithful
abbrev pub EveryScriptIsFaithful : Type 0
EveryScriptIsFaithful = (w : ℕ) (commands : List Command) → IsFaithful w commands

-- after every script a settle is an exchange without a loss
abbrev pub EverySettleExchangesAll : Type 0
EverySettleExchangesAll = (w : ℕ) (commands : List Command) → IsSettled w commands

-- all that the ends of a script emit has an encoding
abbrev pub EveryEmissionIsSendable : Type 0
EveryEmissionIsSendable =
    (w : ℕ) (commands : List Command)
    → All IsCommand commands
    → AllSendable (world_of (run w commands))

-- all laws of scripts together
pub record ScriptLaws : Type 0 where
  pub faithful : EveryScriptIsFaithful
  pub settled : EverySettleExchangesAll
  pub sendable : EveryEmissionIsSendable
  pub hurt : HurtTellsIncoming

-- What holds of the world and the report of every script.
use Rattle.std.specs.Prelude.{◌≡◌, ◌≢◌, ◌↔◌, ◌≤◌, ℕ, true, List, ◌++◌}
use Rattle.std.specs.List.{All, AllPairs}
use Rattle.chan_values.specs.declared.side.Side.{Side}
use Rattle.chan_values.specs.Sides.{other}
use Rattle.channel_core.specs.declared.answer.Heard.TheVariants as Heard
use Rattle.channel_core.specs.declared.call.EndAnswer.TheVariants as EndAnswer
use Rattle.channel_core.specs.History.{finished_count, has_ended, put_items, released_items, taken_items}
use Rattle.channel_core.specs.Laws.{IsPrefixOf}
use Rattle.channel_core.specs.World.{Event, IsHonest, IsLegalWorld, history_of}
use Rattle.lab_script.specs.declared.relay_command.RelayCommand.{RelayCommand}
use Rattle.lab_script.specs.RelayCommand.{IsRelayCommand}
use Rattle.lab_relay.specs.Inboxes.{AreInboxesTrue}
use Rattle.lab_relay.specs.Run.{progress, run}

-- the calls of the two ends in a script
abbrev pub world_of : ℕ → List RelayCommand → List Event
world_of w commands = (progress w commands).scene.world

-- after these lines each end answered as it should, heard only what the other had emitted and took each
-- number at most once, and what it released is a prefix of what the other end's user put in: all of it
-- where the last item was released; after a last item nothing is put in
pub record IsFaithful (w : ℕ) (commands : List RelayCommand) : Type 0 where
  pub legal : IsLegalWorld w (world_of w commands)
  pub honest : IsHonest (world_of w commands)
  pub once : (side : Side)
      → AllPairs (λ p q. p.0 ≢ q.0) (taken_items (history_of side (world_of w commands)))
  pub prefix : (side : Side)
      → IsPrefixOf (released_items (history_of side (world_of w commands)))
      (put_items (history_of (other side) (world_of w commands)))
  -- an end has answered that the last item is released exactly where the other was given its last item,
  -- and all that was put in there is released
  pub whole : (side : Side)
      → (finished_count (history_of side (world_of w commands)) ≡ 1)
      ↔ ((has_ended (history_of (other side) (world_of w commands)) ≡ true)
      × (released_items (history_of side (world_of w commands))
      ≡ put_items (history_of (other side) (world_of w commands))))
  -- no message that an end hears is answered as past the end of its direction
  pub within : (n : ℕ)
      → All (λ x. x.entry.answer ≢ EndAnswer.Heard (Heard.PastEnd n)) (world_of w commands)
  -- an end answers at most once that the last item is released
  pub finished : (side : Side) → finished_count (history_of side (world_of w commands)) ≤ 1
  -- after the last item of a direction nothing is put in there, whatever lines follow
  pub ended : (rest : List RelayCommand) (side : Side)
      → let h = history_of side (world_of w commands) in
      has_ended h ≡ true
      → put_items (history_of side (world_of w (commands ++ rest))) ≡ put_items h
  -- a script that goes on behind these lines begins with what is told of them
  pub begins : (rest : List RelayCommand) → IsPrefixOf (run w commands) (run w (commands ++ rest))

-- every script, in windows of every length, is faithful
abbrev pub EveryScriptIsFaithful : Type 0
EveryScriptIsFaithful = (w : ℕ) (commands : List RelayCommand) → IsFaithful w commands

-- after every script of the grammar the inboxes have what the relay sent, and are heard as it stands there
abbrev pub EveryInboxIsTrue : Type 0
EveryInboxIsTrue =
    (w : ℕ) (commands : List RelayCommand) → All IsRelayCommand commands → AreInboxesTrue w commands

-- all laws of scripts together
pub record RelayLaws : Type 0 where
  pub faithful : EveryScriptIsFaithful
  pub inboxes : EveryInboxIsTrue

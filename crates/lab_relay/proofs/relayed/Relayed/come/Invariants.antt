use Rattle.std.proofs.Common.{◌≡◌, ◌++◌, ℕ, List, map}
use Rattle.std.specs.List.{filter_map}
use Rattle.std.specs.Vec.Iter.{into_iter_items}
use Rattle.chan_values.specs.declared.side.Side.{Side}
use Rattle.channel_core.specs.declared.message.Incoming.{Incoming}
use Rattle.relay_core.specs.declared.event.Event.{Event}
use Rattle.lab_relay.specs.Held.{IsHub, bytes_for}
use Rattle.lab_relay.specs.Scene.{letter_to}
use Rattle.lab_relay.proofs.relayed.Relayed.come.Given as goal

-- what the actions so far send was added to the inboxes
abbrev pub invariant-loop-action : goal.invariant-loop-action
invariant-loop-action l =
    record {
      split : l.yielded ++ into_iter_items l.action-iterator
          ≡ into_iter_items l.initial.action-iterator;
      pair : l.self.pair ≡ l.initial.self.pair;
      relay : l.self.relay ≡ l.initial.self.relay;
      hub : l.self.hub ≡ l.initial.self.hub;
      inboxes : (es : List Event) (says : ℕ → Incoming) (side : Side)
          → IsHub es l.initial.self.hub
          → bytes_for side l.self.inboxes
          ≡ bytes_for side l.initial.self.inboxes
          ++ map (λ x. x.bytes) (filter_map (letter_to es says side) l.yielded);
    }

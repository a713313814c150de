use Rattle.std.proofs.Common.{◌≡◌, map, take}
use Rattle.handshake.specs.Sessions.{processed}
use Rattle.handshake.proofs.response.processed_actions.Given as goal

abbrev pub invariant-loop-action : goal.invariant-loop-action
invariant-loop-action l = l.done.items ≡ map processed (take l.action-index l.actions)

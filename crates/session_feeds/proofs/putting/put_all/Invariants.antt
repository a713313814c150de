use Rattle.std.proofs.Common.{◌≡◌, ◌++◌, List, length}
use Rattle.std.specs.List.{flat_map}
use Rattle.session_run.specs.Adds.{AddsCalls}
use Rattle.session_feeds.specs.Puts.{Trial, trial_calls}
use Rattle.session_feeds.proofs.PutLemmas.{Tries}
use Rattle.session_feeds.proofs.putting.put_all.Given as goal

abbrev pub invariant-loop-item : goal.invariant-loop-item
invariant-loop-item g l =
    (l.fn.items.items ≡ l.yielded ++ l.item-iterator.rest.items)
    × (l.left ≡ length l.item-iterator.rest.items)
    × (trials : List Trial)
    × Tries l.fn.last l.fn.items.items l.item-iterator.rest.items trials
    × AddsCalls l.initial.seat (flat_map trial_calls trials) l.seat

use Rattle.std.proofs.Common.{◌≡◌, ℕ, List, map}
use Rattle.session_run.specs.Adds.{AddsCalls}
use Rattle.session_feeds.specs.Puts.{full_call}
use Rattle.session_feeds.proofs.putting.put_item.Given as goal

abbrev pub invariant-loop : goal.invariant-loop
invariant-loop g l =
    (l.item ≡ l.initial.item)
    × (full : List (List ℕ × ℕ))
    × AddsCalls l.initial.seat (map (full_call l.fn.last l.initial.item) full) l.seat

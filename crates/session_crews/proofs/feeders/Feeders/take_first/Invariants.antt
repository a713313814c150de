use Rattle.std.proofs.Common.{◌≡◌}
use Rattle.session_crews.specs.Places.{feeders_in}
use Rattle.session_crews.proofs.feeders.Feeders.take_first.Given as goal

abbrev pub invariant-loop : goal.invariant-loop
invariant-loop g l = feeders_in l.self.list ≡ feeders_in l.initial.self.list

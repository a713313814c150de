use Rattle.std.proofs.Common.{◌≡◌, ◌+◌, ◌-◌, ◌^◌, min}
use Rattle.turn_lock.proofs.RunLemmas.{goes_on}
use Rattle.turn_lock.proofs.tests.CounterTurn.act.Goals as goal

pub returns-clause-history : goal.returns-clause-history
returns-clause-history c =
    let up = c.saturating_add-self.ensures in
    λ h legal stands. goes_on
    (λ n e. min (n + 1) (2 ^ 64 - 1))
    (λ n e. e.1 ≡ min (n + 1) (2 ^ 64 - 1))
    _ _ _ h _ legal stands up up

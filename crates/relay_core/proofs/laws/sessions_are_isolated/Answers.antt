use Rattle.std.proofs.Common.{refl, []}
use Rattle.relay_core.specs.Isolation.{events_of}
use Rattle.relay_core.proofs.IsolationLemmas.{run-own}
use Rattle.relay_core.proofs.KnownLemmas.{each-known}
use Rattle.relay_core.proofs.laws.sessions_are_isolated.Goals as goal

pub returns : goal.returns
returns c arrivals session new =
    run-own (events_of arrivals) session [] arrivals refl tt (each-known (events_of arrivals) new)

use Rattle.relay_core.proofs.StandsLemmas.{stands-nil}
use Rattle.relay_core.proofs.relay.Relay.new.Goals as goal

pub returns : goal.returns
returns c = stands-nil _ c.new.ensures.empty c.new-2.ensures.empty

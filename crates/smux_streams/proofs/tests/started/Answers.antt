use Rattle.std.proofs.Common.{[]}
use Rattle.smux_streams.specs.Legal.{IsLegal}
use Rattle.smux_streams.proofs.tests.started.Goals as goal

pub returns : goal.returns
unfolding IsLegal
returns c = ([], (tt, c.client.ensures))

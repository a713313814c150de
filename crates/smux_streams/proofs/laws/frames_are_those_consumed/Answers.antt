use Rattle.smux_streams.proofs.Consumed.{consumed_law}
use Rattle.smux_streams.proofs.laws.frames_are_those_consumed.Goals as goal

pub returns : goal.returns
returns c = consumed_law

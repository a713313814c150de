use Rattle.smux_streams.proofs.Bounds.{bounds_law}
use Rattle.smux_streams.proofs.laws.bounds_hold.Goals as goal

pub returns : goal.returns
returns c = bounds_law

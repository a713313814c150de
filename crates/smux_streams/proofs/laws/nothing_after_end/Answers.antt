use Rattle.smux_streams.proofs.Ends.{end_law}
use Rattle.smux_streams.proofs.laws.nothing_after_end.Goals as goal

pub returns : goal.returns
returns c = end_law

use Rattle.smux_frames.proofs.Readings.{pieces_law}
use Rattle.smux_frames.proofs.laws.pieces_are_joined.Goals as goal

pub returns : goal.returns
returns c = pieces_law

use Rattle.channel_core.proofs.FinishLemmas.{directions_end_apart}
use Rattle.channel_core.proofs.laws.directions_end_apart.Goals as goal

pub returns : goal.returns
returns c = directions_end_apart

use Rattle.channel_core.proofs.WholeLemmas.{finished_is_whole}
use Rattle.channel_core.proofs.laws.finished_is_whole.Goals as goal

pub returns : goal.returns
returns c = finished_is_whole

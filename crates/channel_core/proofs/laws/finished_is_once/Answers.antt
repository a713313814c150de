use Rattle.channel_core.proofs.FinishLemmas.{finished_is_once}
use Rattle.channel_core.proofs.laws.finished_is_once.Goals as goal

pub returns : goal.returns
returns c = finished_is_once

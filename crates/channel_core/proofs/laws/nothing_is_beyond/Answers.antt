use Rattle.channel_core.proofs.DeliveryLemmas.{nothing_is_beyond}
use Rattle.channel_core.proofs.laws.nothing_is_beyond.Goals as goal

pub returns : goal.returns
returns c = nothing_is_beyond

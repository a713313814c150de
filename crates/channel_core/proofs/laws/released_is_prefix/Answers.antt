use Rattle.channel_core.proofs.DeliveryLemmas.{released_is_prefix}
use Rattle.channel_core.proofs.laws.released_is_prefix.Goals as goal

pub returns : goal.returns
returns c = released_is_prefix

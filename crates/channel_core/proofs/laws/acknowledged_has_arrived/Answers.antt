use Rattle.channel_core.proofs.DeliveryLemmas.{acknowledged_has_arrived}
use Rattle.channel_core.proofs.laws.acknowledged_has_arrived.Goals as goal

pub returns : goal.returns
returns c = acknowledged_has_arrived

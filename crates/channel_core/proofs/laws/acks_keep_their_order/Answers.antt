use Rattle.channel_core.proofs.OrderLemmas.{acks_keep_their_order}
use Rattle.channel_core.proofs.laws.acks_keep_their_order.Goals as goal

pub returns : goal.returns
returns c = acks_keep_their_order

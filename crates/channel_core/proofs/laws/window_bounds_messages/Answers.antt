use Rattle.channel_core.proofs.DeliveryLemmas.{window_bounds_messages}
use Rattle.channel_core.proofs.laws.window_bounds_messages.Goals as goal

pub returns : goal.returns
returns c = window_bounds_messages

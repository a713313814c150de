use Rattle.channel_core.proofs.DeliveryLemmas.{each_number_is_taken_once}
use Rattle.channel_core.proofs.laws.each_number_is_taken_once.Goals as goal

pub returns : goal.returns
returns c = each_number_is_taken_once

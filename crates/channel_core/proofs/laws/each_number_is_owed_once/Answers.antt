use Rattle.channel_core.proofs.OwedLemmas.{each_number_is_owed_once}
use Rattle.channel_core.proofs.laws.each_number_is_owed_once.Goals as goal

pub returns : goal.returns
returns c = each_number_is_owed_once

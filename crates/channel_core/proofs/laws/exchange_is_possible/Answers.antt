use Rattle.channel_core.proofs.PossibleLemmas.{exchange_is_possible}
use Rattle.channel_core.proofs.laws.exchange_is_possible.Goals as goal

pub returns : goal.returns
returns c = exchange_is_possible

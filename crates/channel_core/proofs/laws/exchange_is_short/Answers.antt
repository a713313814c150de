use Rattle.channel_core.proofs.ShortLemmas.{exchange_is_short}
use Rattle.channel_core.proofs.laws.exchange_is_short.Goals as goal

pub returns : goal.returns
returns c = exchange_is_short

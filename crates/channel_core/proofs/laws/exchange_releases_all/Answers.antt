use Rattle.channel_core.proofs.ExchangeLemmas.{exchange_releases_all}
use Rattle.channel_core.proofs.laws.exchange_releases_all.Goals as goal

pub returns : goal.returns
returns c = exchange_releases_all

use Rattle.channel_core.proofs.FinishLemmas.{nothing_follows_the_last}
use Rattle.channel_core.proofs.laws.nothing_follows_the_last.Goals as goal

pub returns : goal.returns
returns c = nothing_follows_the_last

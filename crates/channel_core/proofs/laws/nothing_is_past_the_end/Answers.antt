use Rattle.channel_core.proofs.WithinLemmas.{nothing_is_past_the_end}
use Rattle.channel_core.proofs.laws.nothing_is_past_the_end.Goals as goal

pub returns : goal.returns
returns c = nothing_is_past_the_end

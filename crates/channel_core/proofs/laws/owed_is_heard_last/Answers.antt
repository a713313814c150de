use Rattle.channel_core.proofs.OwedSinceLemmas.{owed_is_heard_last}
use Rattle.channel_core.proofs.laws.owed_is_heard_last.Goals as goal

pub returns : goal.returns
returns c = owed_is_heard_last

use Rattle.channel_core.proofs.SinceLaws.{up_is_opened_last}
use Rattle.channel_core.proofs.laws.up_is_opened_last.Goals as goal

pub returns : goal.returns
returns c = up_is_opened_last

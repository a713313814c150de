use Rattle.channel_core.proofs.SinceLaws.{paused_is_paused_last}
use Rattle.channel_core.proofs.laws.paused_is_paused_last.Goals as goal

pub returns : goal.returns
returns c = paused_is_paused_last

use Rattle.channel_core.proofs.SinceLaws.{closed_is_closed_once}
use Rattle.channel_core.proofs.laws.closed_is_closed_once.Goals as goal

pub returns : goal.returns
returns c = closed_is_closed_once

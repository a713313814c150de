use Rattle.channel_core.proofs.WorldLemmas.{worlds_go_on}
use Rattle.channel_core.proofs.laws.worlds_go_on.Goals as goal

pub returns : goal.returns
returns c = worlds_go_on

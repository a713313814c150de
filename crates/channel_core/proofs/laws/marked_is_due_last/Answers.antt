use Rattle.channel_core.proofs.SinceLaws.{marked_is_due_last}
use Rattle.channel_core.proofs.laws.marked_is_due_last.Goals as goal

pub returns : goal.returns
returns c = marked_is_due_last

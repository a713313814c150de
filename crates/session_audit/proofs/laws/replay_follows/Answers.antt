use Rattle.session_audit.proofs.ReplayLemmas.{replay_follows}
use Rattle.session_audit.proofs.laws.replay_follows.Goals as goal

pub returns : goal.returns
returns c = replay_follows

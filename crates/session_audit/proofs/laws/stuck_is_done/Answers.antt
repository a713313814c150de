use Rattle.session_audit.proofs.OrderLemmas.{stuck_is_done}
use Rattle.session_audit.proofs.laws.stuck_is_done.Goals as goal

pub returns : goal.returns
returns c = stuck_is_done

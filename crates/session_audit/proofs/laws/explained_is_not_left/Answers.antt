use Rattle.session_audit.proofs.AcceptLemmas.{explained_is_not_left}
use Rattle.session_audit.proofs.laws.explained_is_not_left.Goals as goal

pub returns : goal.returns
returns c = explained_is_not_left

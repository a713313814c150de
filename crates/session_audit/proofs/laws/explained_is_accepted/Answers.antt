use Rattle.session_audit.proofs.AcceptLemmas.{explained_is_accepted}
use Rattle.session_audit.proofs.laws.explained_is_accepted.Goals as goal

pub returns : goal.returns
returns c = explained_is_accepted

use Rattle.session_audit.proofs.SplitLemmas.{explained_is_yes}
use Rattle.session_audit.proofs.laws.explained_is_yes.Goals as goal

pub returns : goal.returns
returns c = explained_is_yes

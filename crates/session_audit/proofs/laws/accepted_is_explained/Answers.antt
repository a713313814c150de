use Rattle.session_audit.proofs.AcceptLemmas.{accepted_is_explained}
use Rattle.session_audit.proofs.laws.accepted_is_explained.Goals as goal

pub returns : goal.returns
returns c = accepted_is_explained

use Rattle.session_audit.proofs.SplitLemmas.{yes_is_explained}
use Rattle.session_audit.proofs.laws.yes_is_explained.Goals as goal

pub returns : goal.returns
returns c = yes_is_explained

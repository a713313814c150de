use Rattle.session_audit.proofs.LeftLemmas.{verdict_is_one}
use Rattle.session_audit.proofs.laws.verdict_is_one.Goals as goal

pub returns : goal.returns
returns c = verdict_is_one

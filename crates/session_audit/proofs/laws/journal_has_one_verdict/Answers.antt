use Rattle.session_audit.proofs.VerdictLemmas.{journal_has_one_verdict}
use Rattle.session_audit.proofs.laws.journal_has_one_verdict.Goals as goal

pub returns : goal.returns
returns c = journal_has_one_verdict

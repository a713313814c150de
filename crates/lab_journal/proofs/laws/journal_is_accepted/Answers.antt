use Rattle.lab_journal.proofs.LawLemmas.{journal_is_accepted}
use Rattle.lab_journal.proofs.laws.journal_is_accepted.Goals as goal

pub returns : goal.returns
returns c = journal_is_accepted

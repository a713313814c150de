use Rattle.lab_journal.proofs.LawLemmas.{journal_laws}
use Rattle.lab_journal.proofs.laws.journal_laws.Goals as goal

pub returns : goal.returns
returns c = journal_laws

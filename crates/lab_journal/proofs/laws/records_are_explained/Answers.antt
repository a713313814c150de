use Rattle.lab_journal.proofs.LawLemmas.{records_are_explained}
use Rattle.lab_journal.proofs.laws.records_are_explained.Goals as goal

pub returns : goal.returns
returns c = records_are_explained

use Rattle.lab_journal.proofs.LawLemmas.{records_are_formed}
use Rattle.lab_journal.proofs.laws.records_are_formed.Goals as goal

pub returns : goal.returns
returns c = records_are_formed

use Rattle.lab_journal.proofs.LawLemmas.{records_say_world}
use Rattle.lab_journal.proofs.laws.records_say_world.Goals as goal

pub returns : goal.returns
returns c = records_say_world

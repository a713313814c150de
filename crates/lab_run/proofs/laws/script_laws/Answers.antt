use Rattle.lab_run.proofs.LawLemmas.{script_laws}
use Rattle.lab_run.proofs.laws.script_laws.Goals as goal

pub returns : goal.returns
returns c = script_laws

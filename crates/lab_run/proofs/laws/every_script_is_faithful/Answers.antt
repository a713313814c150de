use Rattle.lab_run.proofs.RunLemmas.{run_is_faithful}
use Rattle.lab_run.proofs.laws.every_script_is_faithful.Goals as goal

pub returns : goal.returns
returns c = run_is_faithful

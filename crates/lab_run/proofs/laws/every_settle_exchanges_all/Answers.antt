use Rattle.lab_run.proofs.RunLemmas.{run_is_settled}
use Rattle.lab_run.proofs.laws.every_settle_exchanges_all.Goals as goal

pub returns : goal.returns
returns c = run_is_settled

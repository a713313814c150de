use Rattle.session_audit.proofs.WorldRunLemmas.{world_is_run}
use Rattle.session_audit.proofs.laws.world_is_run.Goals as goal

pub returns : goal.returns
returns c = world_is_run

use Rattle.session_audit.proofs.RunLemmas.{run_is_world}
use Rattle.session_audit.proofs.laws.run_is_world.Goals as goal

pub returns : goal.returns
returns c = run_is_world

use Rattle.lab_gen.proofs.ScriptLemmas.{generated_is_script}
use Rattle.lab_gen.proofs.laws.generated_is_script.Goals as goal

pub returns : goal.returns
returns c = generated_is_script

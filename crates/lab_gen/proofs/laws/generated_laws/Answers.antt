use Rattle.lab_gen.proofs.LawLemmas.{generated_laws}
use Rattle.lab_gen.proofs.laws.generated_laws.Goals as goal

pub returns : goal.returns
returns c = generated_laws

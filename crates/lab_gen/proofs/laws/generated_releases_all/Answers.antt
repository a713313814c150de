use Rattle.lab_gen.proofs.LawLemmas.{generated_releases_all}
use Rattle.lab_gen.proofs.laws.generated_releases_all.Goals as goal

pub returns : goal.returns
returns c = generated_releases_all

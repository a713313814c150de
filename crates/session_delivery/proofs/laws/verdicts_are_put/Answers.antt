use Rattle.session_delivery.proofs.LawLemmas as law
use Rattle.session_delivery.proofs.laws.verdicts_are_put.Goals as goal

pub returns : goal.returns
returns c = law.verdicts_are_put

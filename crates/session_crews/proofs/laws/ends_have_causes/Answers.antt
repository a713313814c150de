use Rattle.session_crews.proofs.EndLemmas as lemmas
use Rattle.session_crews.proofs.laws.ends_have_causes.Goals as goal

pub returns : goal.returns
returns c = lemmas.ends_have_causes

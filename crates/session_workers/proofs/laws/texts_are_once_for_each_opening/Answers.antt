use Rattle.session_workers.proofs.TextLemmas as law
use Rattle.session_workers.proofs.laws.texts_are_once_for_each_opening.Goals as goal

pub returns : goal.returns
returns c = law.texts_are_once_for_each_opening

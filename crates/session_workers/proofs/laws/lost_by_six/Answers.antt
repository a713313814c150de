use Rattle.session_workers.proofs.ReaderLawLemmas as lemmas
use Rattle.session_workers.proofs.laws.lost_by_six.Goals as goal

pub returns : goal.returns
returns c = lemmas.lost_by_six

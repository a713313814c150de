use Rattle.session_workers.proofs.ReleaseLemmas as lemmas
use Rattle.session_workers.proofs.laws.added_is_released.Goals as goal

pub returns : goal.returns
returns c = lemmas.added_is_released

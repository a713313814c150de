use Rattle.session_crews.proofs.PieceLemmas as lemmas
use Rattle.session_crews.proofs.laws.failures_are_counted.Goals as goal

pub returns : goal.returns
returns c = lemmas.failures_are_counted

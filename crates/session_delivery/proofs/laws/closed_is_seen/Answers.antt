use Rattle.session_delivery.proofs.LawLemmas as law
use Rattle.session_delivery.proofs.laws.closed_is_seen.Goals as goal

pub returns : goal.returns
returns c = law.closed_is_seen

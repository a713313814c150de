use Rattle.session_workers.proofs.WriterLawLemmas as law
use Rattle.session_workers.proofs.laws.emissions_are_sent.Goals as goal

pub returns : goal.returns
returns c = law.emissions_are_sent

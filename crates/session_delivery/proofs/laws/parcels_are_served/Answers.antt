use Rattle.session_delivery.proofs.LawLemmas as law
use Rattle.session_delivery.proofs.laws.parcels_are_served.Goals as goal

pub returns : goal.returns
returns c = law.parcels_are_served

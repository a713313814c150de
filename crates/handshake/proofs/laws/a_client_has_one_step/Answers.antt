use Rattle.handshake.proofs.ClientLemmas.{one_step}
use Rattle.handshake.proofs.laws.a_client_has_one_step.Goals as goal

pub returns : goal.returns
returns c = one_step

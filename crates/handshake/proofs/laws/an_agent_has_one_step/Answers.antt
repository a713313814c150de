use Rattle.handshake.proofs.AgentLemmas.{one_step}
use Rattle.handshake.proofs.laws.an_agent_has_one_step.Goals as goal

pub returns : goal.returns
returns c = one_step

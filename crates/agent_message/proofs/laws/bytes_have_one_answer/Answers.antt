use Rattle.agent_message.proofs.SoundSpelling.{one_answer}
use Rattle.agent_message.proofs.laws.bytes_have_one_answer.Goals as goal

pub returns : goal.returns
returns c = one_answer

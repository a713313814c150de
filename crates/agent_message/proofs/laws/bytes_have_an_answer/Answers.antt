use Rattle.agent_message.proofs.OneAnswer.{an_answer, IsBytes-from_All}
use Rattle.agent_message.proofs.laws.bytes_have_an_answer.Goals as goal

pub returns : goal.returns
returns c = λ bytes fits. an_answer bytes (IsBytes-from_All bytes fits)

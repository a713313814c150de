use Rattle.agent_message.proofs.CaptureLaws.{a_reading}
use Rattle.agent_message.proofs.OneAnswer.{IsBytes-from_All}
use Rattle.agent_message.proofs.laws.bytes_are_a_capture.Goals as goal

pub returns : goal.returns
returns c = λ bytes fits. a_reading bytes (IsBytes-from_All bytes fits)

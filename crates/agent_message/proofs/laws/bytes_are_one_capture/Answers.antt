use Rattle.agent_message.proofs.CaptureLaws.{one_reading}
use Rattle.agent_message.proofs.laws.bytes_are_one_capture.Goals as goal

pub returns : goal.returns
returns c = one_reading

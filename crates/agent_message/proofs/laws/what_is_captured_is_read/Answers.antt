use Rattle.agent_message.proofs.CaptureLaws.{written_is_read}
use Rattle.agent_message.proofs.laws.what_is_captured_is_read.Goals as goal

pub returns : goal.returns
returns c = written_is_read

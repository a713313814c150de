use Rattle.agent_message.proofs.Spelling.{Decodes-canonical}
use Rattle.agent_message.proofs.laws.what_is_written_is_read.Goals as goal

pub returns : goal.returns
returns c = Decodes-canonical

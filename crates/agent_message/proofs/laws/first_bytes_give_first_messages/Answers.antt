use Rattle.agent_message.proofs.CaptureLaws.{given_first}
use Rattle.std.proofs.Common.{◌++◌}
use Rattle.agent_message.proofs.OneAnswer.{IsBytes-from_All}
use Rattle.agent_message.proofs.laws.first_bytes_give_first_messages.Goals as goal

pub returns : goal.returns
returns c = λ p bytes more given messages fault fits.
    given_first p bytes more given messages fault (IsBytes-from_All (bytes ++ more) fits)

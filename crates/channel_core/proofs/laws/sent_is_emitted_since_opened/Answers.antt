use Rattle.channel_core.proofs.SinceLaws.{sent_is_emitted_since_opened}
use Rattle.channel_core.proofs.laws.sent_is_emitted_since_opened.Goals as goal

pub returns : goal.returns
returns c = sent_is_emitted_since_opened

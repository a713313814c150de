use Rattle.channel_core.proofs.EncodableLemmas.{emissions_can_be_encoded}
use Rattle.channel_core.proofs.laws.emissions_can_be_encoded.Goals as goal

pub returns : goal.returns
returns c = emissions_can_be_encoded

use Rattle.lab_relay.proofs.SoundLemmas.{relay_laws}
use Rattle.lab_relay.proofs.laws.relay_laws.Goals as goal

pub returns : goal.returns
returns c = relay_laws

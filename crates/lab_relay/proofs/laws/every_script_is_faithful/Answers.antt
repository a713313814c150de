use Rattle.lab_relay.proofs.SoundLemmas.{script_is_faithful}
use Rattle.lab_relay.proofs.laws.every_script_is_faithful.Goals as goal

pub returns : goal.returns
returns c = script_is_faithful

use Rattle.lab_run.proofs.HurtLemmas.{hurt_tells_incoming}
use Rattle.lab_run.proofs.laws.hurt_tells_incoming.Goals as goal

pub returns : goal.returns
returns c = hurt_tells_incoming

use Rattle.json_bodies.proofs.LengthLemmas.{length-closed_text}
use Rattle.json_bodies.proofs.laws.closings_are_short.Goals as goal

pub returns : goal.returns
returns c = length-closed_text

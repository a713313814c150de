use Rattle.json_bodies.proofs.LengthLemmas.{length-complete_text}
use Rattle.json_bodies.proofs.laws.completions_are_short.Goals as goal

pub returns : goal.returns
returns c = length-complete_text

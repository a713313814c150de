use Rattle.json_bodies.proofs.LengthLemmas.{length-request_text}
use Rattle.json_bodies.proofs.laws.requests_are_short.Goals as goal

pub returns : goal.returns
returns c = length-request_text

use Rattle.lab_streams.proofs.LawLemmas.{stream_laws}
use Rattle.lab_streams.proofs.laws.stream_laws.Goals as goal

pub returns : goal.returns
returns c = stream_laws

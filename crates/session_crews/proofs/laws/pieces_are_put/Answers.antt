use Rattle.session_crews.proofs.PieceLemmas as lemmas
use Rattle.session_crews.proofs.laws.pieces_are_put.Goals as goal

pub returns : goal.returns
returns c = lemmas.pieces_are_put

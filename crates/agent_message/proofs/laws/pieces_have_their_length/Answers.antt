use Rattle.agent_message.proofs.PieceLemmas.{length-Pieces}
use Rattle.agent_message.proofs.laws.pieces_have_their_length.Goals as goal

pub returns : goal.returns
returns c = length-Pieces

use Rattle.lab_script.proofs.Cutting.{all_taken}
use Rattle.lab_script.proofs.pieces.Words.is_empty.Goals as goal

pub returns : goal.returns
returns c =
    all_taken c.self.inside.rest c.is_none.result c.args.self.now c.is_none.ensures c.self.view_is

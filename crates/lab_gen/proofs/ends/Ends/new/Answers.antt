use Rattle.lab_gen.proofs.EndsLemmas.{IsEnds-start}
use Rattle.lab_gen.proofs.ends.Ends.new.Goals as goal

pub returns : goal.returns
returns c = IsEnds-start c.args.window _ c.in_ok-connected.ensures c.in_ok-connected-2.ensures

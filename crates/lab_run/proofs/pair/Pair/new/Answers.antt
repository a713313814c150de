use Rattle.lab_run.proofs.PairLemmas.{IsPair-start}
use Rattle.lab_run.proofs.pair.Pair.new.Goals as goal

pub returns : goal.returns
returns c =
    IsPair-start c.args.window _ c.in_ok-connected.ensures c.in_ok-connected-2.ensures

use Rattle.std.proofs.Common.{refl}
use Rattle.lab_gen.proofs.RunLemmas.{IsAt-start}
use Rattle.lab_gen.proofs.run.Run.new.Goals as goal

pub returns-clause-begun : goal.returns-clause-begun
returns-clause-begun c = IsAt-start c.args.window _ c.in_ok-new.ensures refl refl refl

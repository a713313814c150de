use Rattle.std.proofs.Common.{refl}
use Rattle.lab_gen.proofs.RunLemmas.{IsAt-at}
use Rattle.lab_gen.proofs.run.Run.at.Goals as goal

pub returns-clause-made : goal.returns-clause-made
returns-clause-made c w p is = IsAt-at w p c.args.moment c.args.self.now _ is refl refl refl refl

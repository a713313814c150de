use Rattle.std.proofs.Common.{refl}
use Rattle.lab_run.specs.Steps.{world_of}
use Rattle.lab_gen.proofs.RunLemmas.{IsAt-line}
use Rattle.lab_gen.proofs.run.Run.line.Goals as goal

pub returns-clause-made : goal.returns-clause-made
returns-clause-made c w p is =
    IsAt-line w p c.args.side c.args.action c.args.self.now _ is
    (c.in_ok-step.ensures.made w (world_of p.steps) is.ends) refl refl refl

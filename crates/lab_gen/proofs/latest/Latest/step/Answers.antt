use Rattle.std.proofs.Common.{◌∙◌}
use Rattle.lab_run.specs.Steps.{step_of}
use Rattle.lab_run.proofs.RightLemmas.{IsOf-step_of}
use Rattle.lab_gen.proofs.LatestLemmas.{IsLatest-kept}
use Rattle.lab_gen.proofs.latest.Latest.step.Goals as goal

pub returns-clause-told : goal.returns-clause-told
returns-clause-told c w world legal here there =
    c.keep.ensures.told ∙ (c.in_ok-outcome.ensures w world legal here there).told

pub returns-clause-made : goal.returns-clause-made
returns-clause-made c w world legal here there =
    let now = c.args.context.now.moment in
    let line = c.args.context.now.line in
    IsLatest-kept w world (step_of w world now line c.args.side c.args.action) c.args.side _ _ _
    (IsOf-step_of w world now line c.args.side c.args.action).at
    (c.in_ok-outcome.ensures w world legal here there)
    c.keep.ensures.same c.keep.ensures.kept

use Rattle.std.proofs.Common.{◌≡◌, ◌++◌, [], ◌∷◌, Some, sym, ap, ◌∙◌}
use Rattle.std.proofs.lemmas.Result.{err_from_is_err_and}
use Rattle.lab_script.specs.Report.{report_line}
use Rattle.lab_run.specs.Run.{report}
use Rattle.lab_run.specs.Steps.{step_of}
use Rattle.lab_run.proofs.RightLemmas.{IsOf-step_of}
use Rattle.lab_run.proofs.RunLemmas.{report-step_of}
use Rattle.lab_run.proofs.WritingLemmas.{Stops-behind}
use Rattle.lab_run.proofs.pair.Pair.step.Goals as goal

pub returns-in_err-line-clause-printed : goal.returns-in_err-line-clause-printed
returns-in_err-line-clause-printed g c w world is =
    let err = err_from_is_err_and c.from_residual-in_err-line.result
    c.from_residual-in_err-line.ensures.1 in
    let text =
    report-step_of w world c.args.context.now.moment c.args.context.now.line c.args.side
    c.args.action
    c.in_ok-outcome.outcome (c.in_ok-outcome.ensures w world is).here.told in
    rw (err.1, err.2, text, ← c.verb-verb.ensures) c.in_err-line.ensures

pub returns-in_err-keep-clause-printed : goal.returns-in_err-keep-clause-printed
returns-in_err-keep-clause-printed g c w world is =
    let err = err_from_is_err_and c.from_residual-in_err-keep.result
    c.from_residual-in_err-keep.ensures.1 in
    let text =
    report-step_of w world c.args.context.now.moment c.args.context.now.line c.args.side
    c.args.action
    c.in_ok-outcome.outcome (c.in_ok-outcome.ensures w world is).here.told in
    rw (err.1, err.2, text, ← c.verb-verb.ensures) (Stops-behind _ _ _ c.in_ok-line.ensures)

pub returns-clause-made : goal.returns-clause-made
returns-clause-made g c w world is =
    let of =
    IsOf-step_of w world c.args.context.now.moment c.args.context.now.line c.args.side
    c.args.action in
    c.in_ok-keep.ensures w world _ of.at (c.in_ok-outcome.ensures w world is)

pub returns-clause-printed : goal.returns-clause-printed
returns-clause-printed g c w world is =
    let text =
    report-step_of w world c.args.context.now.moment c.args.context.now.line c.args.side
    c.args.action
    c.in_ok-outcome.outcome (c.in_ok-outcome.ensures w world is).here.told in
    rw (text, ← c.verb-verb.ensures) c.in_ok-line.ensures

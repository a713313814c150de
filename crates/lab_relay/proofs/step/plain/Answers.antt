use Rattle.std.proofs.Common.{ℕ, List, refl, subst}
use Rattle.std.proofs.lemmas.Result.{err_from_is_err_and}
use Rattle.lab_run.specs.Printing.{Adds, Stops, printout}
use Rattle.lab_run.specs.Steps.{step_of}
use Rattle.lab_run.proofs.RunLemmas.{report-step_of}
use Rattle.lab_relay.proofs.SceneLemmas.{StandsFor-step}
use Rattle.lab_relay.proofs.step.plain.Goals as goal

pub returns-in_err-step-clause-printed : goal.returns-in_err-step-clause-printed
returns-in_err-step-clause-printed g c w s stands =
    let err = err_from_is_err_and c.from_residual.result c.from_residual.ensures.1 in
    let now = c.args.context.now.moment in
    let line = c.args.context.now.line in
    let step = step_of w s.world now line c.args.side c.args.action in
    let text = report-step_of w s.world now line c.args.side c.args.action step.outcome refl in
    let at = printout g.K.Sink.output g.K.Sink.faults in
    let old = at c.args.printer.now c.args.sink.now in
    let new = at c.step.new.printer c.step.new.sink in
    let stop = c.in_err-step.field-0.0 in
    rw (err.1, err.2)
    (subst (λ (t : List ℕ). Stops t stop old new) text
    (c.in_err-step.ensures.printed w s.world stands.pair))

pub returns-clause-made : goal.returns-clause-made
returns-clause-made g c w s stands =
    let now = c.args.context.now.moment in
    let line = c.args.context.now.line in
    let step = step_of w s.world now line c.args.side c.args.action in
    StandsFor-step w s step c.args.relayed.now c.step.new.self stands
    (c.in_ok-step.ensures.made w s.world stands.pair)

pub returns-clause-printed : goal.returns-clause-printed
returns-clause-printed g c w s stands =
    let now = c.args.context.now.moment in
    let line = c.args.context.now.line in
    let step = step_of w s.world now line c.args.side c.args.action in
    let text = report-step_of w s.world now line c.args.side c.args.action step.outcome refl in
    let at = printout g.K.Sink.output g.K.Sink.faults in
    let old = at c.args.printer.now c.args.sink.now in
    let new = at c.step.new.printer c.step.new.sink in
    subst (λ (t : List ℕ). Adds t old new) text
    (c.in_ok-step.ensures.printed w s.world stands.pair)

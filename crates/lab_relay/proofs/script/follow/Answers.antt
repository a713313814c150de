use Rattle.std.proofs.Common.{ℕ, List, Some, None, refl, sym, subst}
use Rattle.std.proofs.lemmas.Result.{err_from_is_err_and}
use Rattle.lab_script.specs.declared.verb.Verb.{Verb}
use Rattle.lab_script.specs.RelayCommand.{relay_verb_of}
use Rattle.lab_run.specs.Printing.{Adds, Stops, printout}
use Rattle.lab_run.proofs.WritingLemmas.{Adds-nothing}
use Rattle.lab_relay.specs.Steps.{finished, turn_of}
use Rattle.lab_relay.proofs.RunLemmas.{report-none, report-told}
use Rattle.lab_relay.proofs.script.follow.Goals as goal

pub returns-in-At-clause-printed : goal.returns-in-At-clause-printed
returns-in-At-clause-printed g c w s stands = rw (c.in-At.is, report-none) (Adds-nothing _)

pub returns-in_ok-line-in-Finish-clause-printed : goal.returns-in_ok-line-in-Finish-clause-printed
returns-in_ok-line-in-Finish-clause-printed g c w s stands =
    let now = c.args.context.now.moment in
    let line = c.args.context.now.line in
    let told = (c.in_ok-outcome-in-Finish.ensures w s stands).0 in
    let text =
    report-told line Verb.Finish None c.in_ok-outcome-in-Finish.outcome
    (finished s now line).outcome told in
    let at = printout g.K.Sink.output g.K.Sink.faults in
    let old = at c.args.printer.now c.args.sink.now in
    let new = at c.line.new.self c.line.new.sink in
    rw c.in-Finish.is
    (subst (λ (t : List ℕ). Adds t old new) (sym text) c.in_ok-line-in-Finish.ensures)

pub returns-in_err-line-in-Finish-clause-printed :
    goal.returns-in_err-line-in-Finish-clause-printed
returns-in_err-line-in-Finish-clause-printed g c w s stands =
    let err =
    err_from_is_err_and c.from_residual-in_err-line-in-Finish.result
    c.from_residual-in_err-line-in-Finish.ensures.1 in
    let now = c.args.context.now.moment in
    let line = c.args.context.now.line in
    let told = (c.in_ok-outcome-in-Finish.ensures w s stands).0 in
    let text =
    report-told line Verb.Finish None c.in_ok-outcome-in-Finish.outcome
    (finished s now line).outcome told in
    let at = printout g.K.Sink.output g.K.Sink.faults in
    let old = at c.args.printer.now c.args.sink.now in
    let new = at c.line.new.self c.line.new.sink in
    let stop = c.in_err-line-in-Finish.field-0.0 in
    rw (c.in-Finish.is, err.1, err.2)
    (subst (λ (t : List ℕ). Stops t stop old new) (sym text) c.in_err-line-in-Finish.ensures)

pub returns-in_ok-step-in-On-clause-printed : goal.returns-in_ok-step-in-On-clause-printed
returns-in_ok-step-in-On-clause-printed g c w s stands =
    let now = c.args.context.now.moment in
    let line = c.args.context.now.line in
    let outcome = (turn_of w s now line c.in-On.side c.in-On.action).outcome in
    let text =
    report-told line (relay_verb_of c.in-On.action) (Some c.in-On.side) outcome outcome refl in
    let at = printout g.K.Sink.output g.K.Sink.faults in
    let old = at c.args.printer.now c.args.sink.now in
    let new = at c.step.new.printer c.step.new.sink in
    rw c.in-On.is
    (subst (λ (t : List ℕ). Adds t old new) (sym text)
    (c.in_ok-step-in-On.ensures.printed w s stands))

pub returns-in_err-step-in-On-clause-printed : goal.returns-in_err-step-in-On-clause-printed
returns-in_err-step-in-On-clause-printed g c w s stands =
    let err =
    err_from_is_err_and c.from_residual-in_err-step-in-On.result
    c.from_residual-in_err-step-in-On.ensures.1 in
    let now = c.args.context.now.moment in
    let line = c.args.context.now.line in
    let outcome = (turn_of w s now line c.in-On.side c.in-On.action).outcome in
    let text =
    report-told line (relay_verb_of c.in-On.action) (Some c.in-On.side) outcome outcome refl in
    let at = printout g.K.Sink.output g.K.Sink.faults in
    let old = at c.args.printer.now c.args.sink.now in
    let new = at c.step.new.printer c.step.new.sink in
    let stop = c.in_err-step-in-On.field-0.0 in
    rw (c.in-On.is, err.1, err.2)
    (subst (λ (t : List ℕ). Stops t stop old new) (sym text)
    (c.in_err-step-in-On.ensures.printed w s stands))

use Rattle.std.proofs.Common.{◌≡◌, ℕ, [], ◌∷◌, sym}
use Rattle.std.proofs.lemmas.Result.{err_from_is_err_and}
use Rattle.lab_run.specs.Steps.{step_of}
use Rattle.lab_run.proofs.RightLemmas.{IsOf-step_of}
use Rattle.lab_run.proofs.WritingLemmas.{Stops-behind, Stops-unprinted}
use Rattle.lab_journal.proofs.VerbLemmas.{text-kept}
use Rattle.lab_journal.proofs.recorder.Recorder.step.Goals as goal

pub returns-in_err-outcome-clause-recorded : goal.returns-in_err-outcome-clause-recorded
returns-in_err-outcome-clause-recorded g c w world is =
    let err = err_from_is_err_and c.from_residual.result c.from_residual.ensures.1 in
    rw (err.1, err.2) (Stops-unprinted _ _)

pub returns-in_err-record-clause-recorded : goal.returns-in_err-record-clause-recorded
returns-in_err-record-clause-recorded g c w world is =
    let err = err_from_is_err_and c.from_residual-in_err-record.result
    c.from_residual-in_err-record.ensures.1 in
    let text =
    text-kept w world c.args.context.now.moment c.args.context.now.line c.args.side c.args.action _
    c.in_ok-outcome.outcome _ _ (c.in_ok-outcome.ensures w world is) c.verb-verb.ensures
    c.which_of-which.ensures in
    rw (err.1, err.2, text) c.in_err-record.ensures.recorded

pub returns-in_err-keep-clause-recorded : goal.returns-in_err-keep-clause-recorded
returns-in_err-keep-clause-recorded g c w world is =
    let err = err_from_is_err_and c.from_residual-in_err-keep.result
    c.from_residual-in_err-keep.ensures.1 in
    let text =
    text-kept w world c.args.context.now.moment c.args.context.now.line c.args.side c.args.action _
    c.in_ok-outcome.outcome _ _ (c.in_ok-outcome.ensures w world is) c.verb-verb.ensures
    c.which_of-which.ensures in
    rw (err.1, err.2, text) (Stops-behind _ _ _ c.in_ok-record.ensures.recorded)

pub returns-clause-recorded : goal.returns-clause-recorded
returns-clause-recorded g c w world is =
    let of =
    IsOf-step_of w world c.args.context.now.moment c.args.context.now.line c.args.side
    c.args.action in
    let made = c.in_ok-outcome.ensures w world is in
    let s =
    step_of w world c.args.context.now.moment c.args.context.now.line c.args.side c.args.action in
    let text =
    text-kept w world c.args.context.now.moment c.args.context.now.line c.args.side c.args.action _
    c.in_ok-outcome.outcome _ _ made c.verb-verb.ensures c.which_of-which.ensures in
    rw text (
      c.in_ok-keep.ensures w world s of.at (rw c.in_ok-record.ensures.same made),
      c.in_ok-record.ensures.recorded,
    )

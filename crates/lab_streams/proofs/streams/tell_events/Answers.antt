use Rattle.std.proofs.lemmas.Result.{err_from_is_err_and}
use Rattle.lab_run.proofs.WritingLemmas.{Adds-nothing}
use Rattle.lab_streams.proofs.ReportLemmas.{Adds-event, Stops-event, events_text-none}
use Rattle.lab_streams.proofs.streams.tell_events.Goals as goal

pub loop-event-init : goal.loop-event-init
loop-event-init g c = rw events_text-none (Adds-nothing _)

pub loop-event-preserved : goal.loop-event-preserved
loop-event-preserved g c =
    Adds-event c.args.context.now.line c.args.side c.args.events.now c.loop-event.event-index _ _ _ _ _
    c.loop-event-test.true c.outcome_of_event-outcome.ensures c.loop-event.invariant
    c.in_ok-line.ensures

pub returns-in_err-line : goal.returns-in_err-line
returns-in_err-line g c =
    let err = err_from_is_err_and c.from_residual.result c.from_residual.ensures.1 in
    rw (err.1, err.2)
    (Stops-event c.args.context.now.line c.args.side c.args.events.now c.loop-event.event-index _ _ _
    _ _ _ c.loop-event-test.true c.outcome_of_event-outcome.ensures c.loop-event.invariant
    c.in_err-line.ensures)

use Rattle.std.proofs.Common.{take}
use Rattle.lab_run.specs.Printing.{Adds, printout}
use Rattle.lab_streams.specs.Run.{events_text}
use Rattle.lab_streams.proofs.streams.tell_events.Given as goal

-- the events so far were told
abbrev pub invariant-loop-event : goal.invariant-loop-event
invariant-loop-event g l =
    let at = printout g.K.Sink.output g.K.Sink.faults in
    Adds (events_text l.context.line l.side (take l.event-index l.events))
    (at l.fn.printer l.fn.sink) (at l.printer l.sink)

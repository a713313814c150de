use Rattle.std.proofs.Common.{◌+◌, ◌*◌, ◌-◌}
use Rattle.lab_run.specs.Printing.{printout}
use Rattle.lab_streams.specs.Ends.{IsStreams}
use Rattle.lab_streams.specs.Steps.{Past}
use Rattle.lab_streams.proofs.PassLemmas.{Passes}
use Rattle.lab_streams.proofs.streams.Streams.pass.Given as goal

-- the turns so far were made
abbrev pub invariant-turns : goal.invariant-turns
invariant-turns g l =
    let w = l.context.window in
    let all = 2 * w + 1 in
    let at = printout g.K.Sink.output g.K.Sink.faults in
    (past : Past)
    → IsStreams w past l.fn.self
    → Passes w all past l.context.moment l.context.line l.side (all - l.counter) l.self
    (at l.fn.printer l.fn.sink) (at l.printer l.sink)

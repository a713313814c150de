use Rattle.std.proofs.Common.{◌+◌, ◌*◌, ◌-◌, List}
use Rattle.channel_core.specs.World.{Event}
use Rattle.lab_run.specs.Ends.{IsPair}
use Rattle.lab_run.specs.Printing.{printout}
use Rattle.lab_run.proofs.PassLemmas.{Passes}
use Rattle.lab_run.proofs.exchange.pass.Given as goal

-- the turns so far were made
abbrev pub invariant-turns : goal.invariant-turns
invariant-turns g l =
    let w = l.context.window in
    let all = 2 * w + 1 in
    let at = printout g.K.Sink.output g.K.Sink.faults in
    (world : List Event)
    → IsPair w world l.fn.pair
    → Passes w all world l.context.moment l.context.line l.side (all - l.counter) l.pair
    (at l.fn.printer l.fn.sink) (at l.printer l.sink)

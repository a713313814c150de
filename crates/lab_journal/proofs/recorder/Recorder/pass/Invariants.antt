use Rattle.std.proofs.Common.{◌+◌, ◌*◌, ◌-◌, List}
use Rattle.channel_core.specs.World.{Event}
use Rattle.lab_run.specs.Ends.{IsPair}
use Rattle.lab_run.specs.Printing.{printout}
use Rattle.lab_journal.proofs.PassLemmas.{Passes}
use Rattle.lab_journal.proofs.recorder.Recorder.pass.Given as goal

-- the turns so far were made
abbrev pub invariant-turns : goal.invariant-turns
invariant-turns g l =
    let w = l.context.window in
    let all = 2 * w + 1 in
    let at = printout g.K.Sink.output g.K.Sink.faults in
    (world : List Event)
    → IsPair w world l.fn.self.pair
    → Passes w all world l.context.moment l.context.line l.side (all - l.counter) l.self.pair
    (at l.fn.self.writer l.fn.sink) (at l.self.writer l.sink)

use Rattle.std.proofs.Common.{◌≡◌, ◌++◌, []}
use Rattle.std.specs.Vec.Iter.{into_iter_items}
use Rattle.lab_run.specs.Printing.{printout}
use Rattle.lab_journal.proofs.RunLemmas.{Runs}
use Rattle.lab_journal.proofs.run.run_journal.Given as goal

-- the lines so far were followed
abbrev pub invariant-loop-command : goal.invariant-loop-command
invariant-loop-command g l =
    let at = printout g.K.Sink.output g.K.Sink.faults in
    record {
      split : l.yielded ++ into_iter_items l.command-iterator ≡ l.fn.commands.items;
      runs : Runs l.window l.yielded l.moment l.line l.recorder.pair
          (at [] l.fn.sink) (at l.recorder.writer l.sink);
    }

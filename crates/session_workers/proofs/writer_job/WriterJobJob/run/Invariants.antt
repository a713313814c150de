use Rattle.std.proofs.Common.{◌≡◌, false, List, []}
use Rattle.session_workers.specs.WriterRuns.{Wrote}
use Rattle.session_workers.specs.Writing.{WriterTurn}
use Rattle.session_workers.proofs.writer_job.WriterJobJob.run.Given as goal

abbrev pub invariant-loop : goal.invariant-loop
invariant-loop g l =
    (l.writer.over ≡ false)
    × (turns : List WriterTurn)
    × Wrote g.U.LinkOut.departures g.U.LinkOut.faults l.initial.writer turns [] false l.writer

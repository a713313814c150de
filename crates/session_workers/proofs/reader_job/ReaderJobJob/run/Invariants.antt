use Rattle.std.proofs.Common.{◌≡◌, None, List, []}
use Rattle.session_workers.specs.ReaderRuns.{Reads}
use Rattle.session_workers.specs.Reading.{ReaderStep}
use Rattle.session_workers.proofs.reader_job.ReaderJobJob.run.Given as goal

abbrev pub invariant-loop : goal.invariant-loop
invariant-loop g l =
    (l.reader.state.over ≡ None)
    × (steps : List ReaderStep)
    × Reads g.D.Dialer.dials g.D.Dialer.faults g.N.LinkIn.arrivals g.N.LinkIn.faults
    l.initial.reader steps [] l.reader

use Rattle.std.proofs.Common.{append-nil}
use Rattle.lab_run.proofs.WritingLemmas.{Adds-nothing}
use Rattle.lab_journal.proofs.recorder.Recorder.follow.Goals as goal

pub returns-in-At-clause-recorded : goal.returns-in-At-clause-recorded
returns-in-At-clause-recorded g c world is =
    rw (c.in-At.is, append-nil) (is, Adds-nothing _)

use Rattle.lab_run.proofs.RunLemmas.{report-none}
use Rattle.lab_run.proofs.WritingLemmas.{Adds-nothing}
use Rattle.lab_run.proofs.plain.follow.Goals as goal

pub returns-in-At-clause-printed : goal.returns-in-At-clause-printed
returns-in-At-clause-printed g c world is = rw (c.in-At.is, report-none) (Adds-nothing _)

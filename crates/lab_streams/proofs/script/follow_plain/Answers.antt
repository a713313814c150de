use Rattle.std.proofs.Common.{sym, subst}
use Rattle.lab_run.proofs.WritingLemmas.{Adds-nothing}
use Rattle.lab_streams.specs.Ends.{IsStreams}
use Rattle.lab_streams.specs.Steps.{Past}
use Rattle.lab_streams.proofs.PastLemmas.{past_then-none}
use Rattle.lab_streams.proofs.ReportLemmas.{fed_report-none}
use Rattle.lab_streams.proofs.script.follow_plain.Goals as goal

-- a line that sets the moment does nothing
pub returns-in-At-clause-made : goal.returns-in-At-clause-made
returns-in-At-clause-made g c past is =
    rw c.in-At.is
    (subst (λ (p : Past). IsStreams c.args.context.now.window p c.args.streams.now)
    (sym (past_then-none past)) is)

pub returns-in-At-clause-printed : goal.returns-in-At-clause-printed
returns-in-At-clause-printed g c past is =
    rw (c.in-At.is, fed_report-none) (Adds-nothing _)

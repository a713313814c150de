use Rattle.std.proofs.Common.{◌≡◌, false, List}
use Rattle.session_workers.specs.ResendRuns.{Resends}
use Rattle.session_workers.specs.Resends.{ResendTurn}
use Rattle.session_workers.proofs.resend_job.ResendJobJob.run.Given as goal

abbrev pub invariant-loop : goal.invariant-loop
invariant-loop g l =
    (l.resender.over ≡ false)
    × (turns : List ResendTurn)
    × Resends l.initial.resender turns l.gave_up l.resender

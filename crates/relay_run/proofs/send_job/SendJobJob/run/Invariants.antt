use Rattle.std.proofs.Common.{◌≡◌, false, List}
use Rattle.relay_switch.specs.declared.switch_call.SwitchAnswer.{SwitchAnswer}
use Rattle.relay_run.specs.Sending.{SentSome}
use Rattle.relay_run.proofs.send_job.SendJobJob.run.Given as goal

abbrev pub invariant-loop : goal.invariant-loop
invariant-loop g l =
    (l.outlet.over ≡ false)
    × (going : List SwitchAnswer)
    × SentSome l.initial.outlet going l.outlet

use Rattle.lab_run.proofs.CallLemmas.{IsCalled-heard}
use Rattle.lab_run.proofs.calls.hear_message.Goals as goal

pub returns : goal.returns
returns c side k =
    IsCalled-heard side k c.args.now c.args.end.now _ c.args.message c.heard.result _
    c.heard.ensures
    c.outcome_of_heard.ensures

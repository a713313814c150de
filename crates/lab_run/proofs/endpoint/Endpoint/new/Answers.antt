use Rattle.std.proofs.Common.{refl}
use Rattle.lab_run.proofs.StepLemmas.{IsEndpoint-new}
use Rattle.lab_run.proofs.endpoint.Endpoint.new.Goals as goal

pub returns : goal.returns
returns c =
    IsEndpoint-new c.args.window c.args.side _ c.in_ok-new.ensures refl c.new-2.ensures.items

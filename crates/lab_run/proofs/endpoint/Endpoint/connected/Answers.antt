use Rattle.std.proofs.Common.{refl}
use Rattle.lab_run.proofs.StepLemmas.{IsEndpoint-connected}
use Rattle.lab_run.proofs.endpoint.Endpoint.connected.Goals as goal

pub returns : goal.returns
returns c =
    IsEndpoint-connected c.args.window c.args.side c.in_ok-endpoint.endpoint _
    c.in_ok-endpoint.ensures c.opened.ensures refl refl

use Rattle.std.proofs.Common.{refl}
use Rattle.lab_relay.proofs.HubLemmas.{IsHub-nil}
use Rattle.lab_relay.proofs.hub.Hub.new.Goals as goal

pub returns : goal.returns
returns c = IsHub-nil _ c.new.ensures.items refl refl

use Rattle.std.proofs.Common.{true}
use Rattle.lab_streams.proofs.MuxLemmas.{IsCarrier-new}
use Rattle.lab_streams.proofs.carrier.Carrier.client.Goals as goal

pub returns : goal.returns
returns c = IsCarrier-new true _ c.client.ensures c.new.ensures

use Rattle.std.proofs.Common.{false}
use Rattle.lab_streams.proofs.MuxLemmas.{IsCarrier-new}
use Rattle.lab_streams.proofs.carrier.Carrier.server.Goals as goal

pub returns : goal.returns
returns c = IsCarrier-new false _ c.server.ensures c.new.ensures

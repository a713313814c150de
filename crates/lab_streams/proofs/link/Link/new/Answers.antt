use Rattle.lab_streams.proofs.MuxLemmas.{IsLink-new}
use Rattle.lab_streams.proofs.link.Link.new.Goals as goal

pub returns : goal.returns
returns c = IsLink-new _ c.client.ensures c.server.ensures

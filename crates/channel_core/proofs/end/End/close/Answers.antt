use Rattle.std.proofs.Common.{refl}
use Rattle.channel_core.proofs.OpenedLemmas.{close_goes}
use Rattle.channel_core.proofs.end.End.close.Goals as goal

pub returns : goal.returns
returns c w h legal s = close_goes w h c.args.self.now _ legal s (rw (← c.self.view_is) refl)

use Rattle.std.proofs.Common.{refl}
use Rattle.channel_core.proofs.OpenedLemmas.{lost_goes}
use Rattle.channel_core.proofs.end.End.lost.Goals as goal

pub returns : goal.returns
returns c w h legal s = lost_goes w h c.args.self.now _ legal s (rw (← c.self.view_is) refl)

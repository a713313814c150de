use Rattle.std.proofs.Common.{refl}
use Rattle.channel_core.proofs.OpenedLemmas.{opened_goes}
use Rattle.channel_core.proofs.end.End.opened.Goals as goal

pub returns : goal.returns
returns c w h legal s = opened_goes w h c.args.now c.args.self.now _ legal s
    (rw (← c.self.view_is, c.reopen.ensures) refl)

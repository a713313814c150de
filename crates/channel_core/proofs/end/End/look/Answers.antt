use Rattle.std.proofs.Common.{refl}
use Rattle.channel_core.proofs.TickLemmas.{look_goes}
use Rattle.channel_core.proofs.end.End.look.Goals as goal

pub returns : goal.returns
returns c w h legal s =
    look_goes w h _ c.args.self.now _ legal s refl
    (rw (
      c.next.ensures,
      c.low.ensures,
      c.expected.ensures,
      c.room.ensures,
      c.ended.ensures,
      ← c.self.view_is,
    ) refl)

use Rattle.std.proofs.Common.{refl}
use Rattle.channel_core.proofs.AckLemmas.{acked_goes, unknown_goes}
use Rattle.channel_core.proofs.end.End.hear_ack.Goals as goal

pub returns-in-Some : goal.returns-in-Some
returns-in-Some c w h legal s =
    acked_goes w h c.args.now c.args.seq c.in-Some.moment c.args.self.now _ legal s c.requires
    (rw (← c.self.view_is) c.in-Some.ensures.answer)
    (rw (
      ← c.self.view_is,
      c.in-Some.ensures.state,
      c.sample.ensures,
      c.saturating_sub.ensures,
    ) refl)

pub returns-in-None : goal.returns-in-None
returns-in-None c w h legal s =
    unknown_goes w h c.args.now c.args.seq c.args.self.now _ legal s c.requires
    (rw (← c.self.view_is) c.in-None.ensures.answer)
    (rw (← c.self.view_is, c.in-None.ensures.state) refl)

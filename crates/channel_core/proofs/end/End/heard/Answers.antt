use Rattle.std.proofs.Common.{refl}
use Rattle.channel_core.proofs.HeardLemmas.{after_close_goes, closing_goes, pause_goes, start_goes}
use Rattle.channel_core.proofs.end.End.heard.Goals as goal

pub returns-then-self : goal.returns-then-self
returns-then-self c w h legal s =
    after_close_goes w h c.args.now c.args.incoming c.args.self.now c.args.self.now legal s
    (rw (← c.self.view_is) c.if-self.true) refl

pub returns-in-Stream : goal.returns-in-Stream
returns-in-Stream c w h legal s = rw c.in-Stream.is (c.hear_stream.ensures c.args.now w h legal s)

pub returns-in-Ack : goal.returns-in-Ack
returns-in-Ack c w h legal s = rw c.in-Ack.is (c.hear_ack.ensures w h legal s)

pub returns-in-Pause : goal.returns-in-Pause
returns-in-Pause c w h legal s = rw c.in-Pause.is
    (pause_goes w h c.args.now c.args.self.now _ legal s (rw (← c.self.view_is) c.if-self.false)
    (rw (← c.self.view_is) refl))

pub returns-in-Start : goal.returns-in-Start
returns-in-Start c w h legal s = rw c.in-Start.is
    (start_goes w h c.args.now c.args.self.now _ legal s (rw (← c.self.view_is) c.if-self.false)
    (rw (← c.self.view_is) refl))

pub returns : goal.returns
returns c w h legal s =
    rw c.in-Closing.is
    (closing_goes w h c.args.now c.in-Closing.output c.args.self.now _ legal s
    (rw (← c.self.view_is) c.if-self.false) (rw (← c.self.view_is) refl))

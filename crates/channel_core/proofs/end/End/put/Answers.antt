use Rattle.std.proofs.Common.{refl}
use Rattle.channel_core.proofs.PutLemmas.{is_put, put_closed_goes, put_goes}
use Rattle.channel_core.proofs.end.End.put.Goals as goal

pub returns-then-self : goal.returns-then-self
returns-then-self c w h legal s =
    put_closed_goes w h _ _ c.args.self.now c.args.self.now
    (is_put c.args.item c.args.id c.args.now) legal s
    (rw (← c.self.view_is) c.if-self.true)

pub returns : goal.returns
returns c w h legal s =
    rw c.put_answer.ensures
    (put_goes w h _ _ c.args.self.now _ c.put.result
    (is_put c.args.item c.args.id c.args.now) legal s
    (rw (← c.self.view_is) c.if-self.false)
    (rw (← c.self.view_is) c.put.ensures.answer)
    (rw (← c.self.view_is, c.put.ensures.state, c.max.ensures) refl))

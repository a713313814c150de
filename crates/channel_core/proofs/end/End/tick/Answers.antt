use Rattle.std.proofs.Common.{refl, sym, ◌∙◌, ap, not}
use Rattle.std.proofs.lemmas.Bool.{or_left, or_right, not_from_false}
use Rattle.resend_queue.specs.declared.answer.Mark.{Mark}
use Rattle.resend_queue.specs.Queue.{mark_answer}
use Rattle.channel_core.proofs.TickLemmas.{tick_down_goes, tick_goes}
use Rattle.channel_core.proofs.end.End.tick.Goals as goal
use Rattle.channel_core.proofs.end.End.tick.Goals.{then-self-via-then-self, then-self-via-else-self+then-not-self}

pub returns-then-self : goal.returns-then-self
returns-then-self c w h legal s =
    tick_down_goes w h c.args.now c.args.self.now legal s (rw (← c.self.view_is)
    (elim c.then-self.branch [
      | then-self-via-then-self v ↦ or_left c.self.inside.closed
          (not c.self.inside.up) v.if-self.true
      | then-self-via-else-self+then-not-self v ↦ or_right c.self.inside.closed
          (not c.self.inside.up) (not_from_false c.self.inside.up v.if-not-self.true)
    ]))

pub returns-in-Nothing : goal.returns-in-Nothing
returns-in-Nothing c w h legal s =
    tick_goes w h c.args.now Mark.Nothing c.args.self.now _ legal s
    (rw (← c.self.view_is, c.if-self.false, c.if-not-self.false) refl)
    (rw (← c.self.view_is)
    (sym c.in-Nothing.is ∙ c.mark_due.ensures.answer
    ∙ ap (mark_answer c.self.inside.queue c.args.now) c.timeout.ensures))
    (rw (← c.self.view_is, c.mark_due.ensures.state, c.in-Nothing.is) refl)

pub returns-in-Due : goal.returns-in-Due
returns-in-Due c w h legal s =
    tick_goes w h c.args.now (Mark.Due c.in-Due.seq) c.args.self.now _ legal s
    (rw (← c.self.view_is, c.if-self.false, c.if-not-self.false) refl)
    (rw (← c.self.view_is)
    (sym c.in-Due.is ∙ c.mark_due.ensures.answer
    ∙ ap (mark_answer c.self.inside.queue c.args.now) c.timeout.ensures))
    (rw (← c.self.view_is, c.mark_due.ensures.state, c.in-Due.is) refl)

pub returns-in-GaveUp : goal.returns-in-GaveUp
returns-in-GaveUp c w h legal s =
    tick_goes w h c.args.now (Mark.GaveUp c.in-GaveUp.seq) c.args.self.now _ legal s
    (rw (← c.self.view_is, c.if-self.false, c.if-not-self.false) refl)
    (rw (← c.self.view_is)
    (sym c.in-GaveUp.is ∙ c.mark_due.ensures.answer
    ∙ ap (mark_answer c.self.inside.queue c.args.now) c.timeout.ensures))
    (rw (← c.self.view_is, c.mark_due.ensures.state, c.in-GaveUp.is) refl)

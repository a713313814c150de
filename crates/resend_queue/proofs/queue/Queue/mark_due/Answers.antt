use Rattle.std.proofs.Common.{List, ap, sym, ◌+◌}
use Rattle.resend_queue.specs.Queue.{Pending}
use Rattle.resend_queue.proofs.HeldLemmas.{first_of}
use Rattle.resend_queue.proofs.MessageLemmas.{messages-marked}
use Rattle.resend_queue.proofs.QueueLemmas.{from_base, mark_answer-due, mark_answer-gave_up, mark_answer-none, mark_answer-waits, none_held}
use Rattle.resend_queue.proofs.queue.Queue.mark_due.Goals as goal

pub returns-in_default-clause-answer : goal.returns-in_default-clause-answer
returns-in_default-clause-answer c =
    let inside = c.self.inside in
    let low = c.base-low.ensures.value in
    rw (← c.self.view_is)
    (mark_answer-none inside.window inside.next inside.cursor inside.due inside.dues inside.ended
    inside.slots
    c.args.now c.args.timeout
    (none_held inside.window inside.next inside.cursor inside.due inside.dues inside.ended
    inside.slots
    c.base-low.ensures.sound c.self.invariant (sym (rw low at c.in_default.ensures))))

pub returns-then-not-is_overdue-clause-answer : goal.returns-then-not-is_overdue-clause-answer
returns-then-not-is_overdue-clause-answer c =
    let inside = c.self.inside in
    let low = c.base-low.ensures.value in
    let ring = c.base-low.ensures.sound in
    let first = first_of inside.slots.base c.in-Some.slot.now inside.slots.held ring.ascending
    (from_base inside.window inside.next inside.cursor inside.due inside.dues inside.ended
    inside.slots ring)
    (sym (rw low at c.in-Some.ensures)) in
    rw (← c.self.view_is)
    (mark_answer-waits inside.window inside.next inside.cursor inside.due inside.dues inside.ended
    inside.slots
    c.args.now c.args.timeout c.in-Some.slot.now first.0 first.1
    (sym (rw low at c.if-not-is_overdue.ensures)))

pub returns-then-self-ge-MAX_DUES-clause-answer : goal.returns-then-self-ge-MAX_DUES-clause-answer
returns-then-self-ge-MAX_DUES-clause-answer c =
    let inside = c.self.inside in
    let low = c.base-low.ensures.value in
    let ring = c.base-low.ensures.sound in
    let first = first_of inside.slots.base c.in-Some.slot.now inside.slots.held ring.ascending
    (from_base inside.window inside.next inside.cursor inside.due inside.dues inside.ended
    inside.slots ring)
    (sym (rw low at c.in-Some.ensures)) in
    rw (← c.self.view_is, low)
    (mark_answer-gave_up inside.window inside.next inside.cursor inside.due inside.dues inside.ended
    inside.slots c.args.now c.args.timeout c.in-Some.slot.now first.0 first.1
    (sym (rw low at c.if-not-is_overdue.ensures)) c.if-self-ge-MAX_DUES.true)

pub returns-clause-answer : goal.returns-clause-answer
returns-clause-answer c =
    let inside = c.self.inside in
    let low = c.base-low.ensures.value in
    let ring = c.base-low.ensures.sound in
    let first = first_of inside.slots.base c.in-Some.slot.now inside.slots.held ring.ascending
    (from_base inside.window inside.next inside.cursor inside.due inside.dues inside.ended
    inside.slots ring)
    (sym (rw low at c.in-Some.ensures)) in
    rw (← c.self.view_is, low)
    (mark_answer-due inside.window inside.next inside.cursor inside.due inside.dues inside.ended
    inside.slots
    c.args.now c.args.timeout c.in-Some.slot.now first.0 first.1
    (sym (rw low at c.if-not-is_overdue.ensures)) c.if-self-ge-MAX_DUES.false)

pub returns-clause-state : goal.returns-clause-state
returns-clause-state c =
    let inside = c.self.inside in
    rw (← c.self.view_is, c.base-low.ensures.value)
    (ap (λ (ps : List Pending). record {
      window = inside.window;
      next = inside.next;
      pending = ps;
      dues = inside.dues + 1;
      ended = inside.ended;
    })
    (messages-marked inside.window inside.next inside.cursor inside.due inside.dues inside.ended
    inside.slots))

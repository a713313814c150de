use Rattle.std.proofs.Common.{List, ap, sym, ◌∙◌, arith, refl}
use Rattle.std.proofs.lemmas.Bool.{eq-eqb, ne_eqb}
use Rattle.slot_ring.specs.Ring.{without}
use Rattle.resend_queue.specs.Queue.{Pending}
use Rattle.resend_queue.proofs.MessageLemmas.{messages-risen, messages-without}
use Rattle.resend_queue.proofs.QueueLemmas.{base-lowest}
use Rattle.resend_queue.proofs.SoundLemmas.{sound-risen, sound-without}
use Rattle.resend_queue.proofs.queue.Queue.acked.Goals as goal

pub invariant_of-self : goal.invariant_of-self
invariant_of-self c =
    let inside = c.self.inside in
    sound-without inside.window inside.next inside.cursor inside.due inside.dues inside.slots
    c.args.seq c.remove-acked.new.self c.self.invariant
    (λ same. c.if-seq-low.true (same ∙ sym c.base-low.ensures.value)) c.remove-acked.ensures.state

pub returns-then-seq-low-clause-state : goal.returns-then-seq-low-clause-state
returns-then-seq-low-clause-state c =
    let inside = c.self.inside in
    let state = c.remove-acked.ensures.state in
    let low = base-lowest inside.window inside.next inside.cursor inside.due inside.dues inside.ended
    inside.slots c.base-low.ensures.sound c.self.invariant in
    rw (
      ← c.self.view_is,
      ← low,
      ne_eqb inside.slots.base c.args.seq
          (λ same. c.if-seq-low.true (sym same ∙ sym c.base-low.ensures.value)),
    )
    (ap (λ (ps : List Pending). record {
      window = inside.window;
      next = inside.next;
      pending = ps;
      dues = inside.dues;
      ended = inside.ended;
    })
    (messages-without inside.window inside.next inside.cursor inside.due inside.dues inside.ended
    inside.slots
    c.args.seq c.remove-acked.new.self (ap (λ r. r.base) state) (ap (λ r. r.held) state)))

pub invariant_of-self-2 : goal.invariant_of-self-2
invariant_of-self-2 c =
    let inside = c.self.inside in
    let removed = c.remove-acked.ensures.state in
    let state = c.skip.ensures.state in
    let from = ap (λ r. r.base) removed in
    let low = c.skip.ensures.low in
    let high = c.skip.ensures.high in
    let begun = c.self.invariant.begun in
    let passed = c.self.invariant.passed in
    rw (c.max-self-inside.ensures, c.base.ensures.value)
    (sound-risen inside.window inside.next inside.cursor inside.due inside.dues inside.slots
    c.args.seq c.skip.new.self c.self.invariant (omega arith) (omega arith) c.skip.ensures.first
    (ap (λ r. r.capacity) state ∙ ap (λ r. r.capacity) removed)
    (ap (λ r. r.held) state ∙ ap (λ r. r.held) removed))

pub returns-clause-state : goal.returns-clause-state
returns-clause-state c =
    let inside = c.self.inside in
    let removed = c.remove-acked.ensures.state in
    let state = c.skip.ensures.state in
    let here = c.if-seq-low.false ∙ c.base-low.ensures.value in
    let low = base-lowest inside.window inside.next inside.cursor inside.due inside.dues inside.ended
    inside.slots c.base-low.ensures.sound c.self.invariant in
    rw (
      ← c.self.view_is,
      ← low,
      here,
      eq-eqb inside.slots.base inside.slots.base refl,
      c.max-self-inside.ensures,
      c.base.ensures.value,
    )
    (ap (λ (ps : List Pending). record {
      window = inside.window;
      next = inside.next;
      pending = ps;
      dues = 0;
      ended = inside.ended;
    })
    (messages-risen inside.window inside.next inside.cursor inside.due inside.dues inside.ended
    inside.slots
    c.skip.new.self c.base.ensures.sound
    (ap (λ r. r.held) state ∙ ap (λ r. r.held) removed
    ∙ ap (without inside.slots.held) here)))

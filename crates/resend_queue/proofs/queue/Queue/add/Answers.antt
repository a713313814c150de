use Rattle.std.proofs.Common.{List, None, ap, ◌∙◌, ◌+◌, ◌-◌, arith, refl}
use Rattle.std.proofs.lemmas.Bool.{eq-eqb, ne_eqb}
use Rattle.resend_queue.specs.Queue.{Pending}
use Rattle.resend_queue.proofs.MessageLemmas.{messages-put}
use Rattle.resend_queue.proofs.QueueLemmas.{base-lowest}
use Rattle.resend_queue.proofs.SoundLemmas.{sound-put}
use Rattle.resend_queue.proofs.queue.Queue.add.Goals as goal

pub returns-then-span-self-clause-answer : goal.returns-then-span-self-clause-answer
returns-then-span-self-clause-answer c =
    let inside = c.self.inside in
    let low = c.base.ensures.value
    ∙ base-lowest inside.window inside.next inside.cursor inside.due inside.dues inside.ended
    inside.slots
    c.base.ensures.sound c.self.invariant in
    rw (
      ← c.self.view_is,
      ← low,
      c.if-self.false,
      ne_eqb inside.next 9223372036854775807 c.if-self-2.false,
      eq-eqb (inside.next - c.base.result) inside.window c.if-span-self.true,
    ) refl

pub invariant_of-self : goal.invariant_of-self
invariant_of-self c =
    let inside = c.self.inside in
    let state = c.set-none.ensures.state in
    let low = c.base.ensures.value in
    let sound = c.self.invariant in
    let span = sound.span in
    let numbers = sound.numbers in
    let not_full = c.if-span-self.false in
    let not_spent = c.if-self-2.false in
    sound-put inside.window inside.next inside.cursor inside.due inside.dues inside.slots
    (record {
      id = c.args.id;
      date = c.args.date;
      item = c.args.item;
      last = c.args.last;
      emitted = None;
    })
    c.set-none.new.self c.base.ensures.sound sound
    (record { below = omega arith; dated = c.requires.dated; short = c.requires.short })
    (omega arith) (omega arith)
    (ap (λ r. r.base) state) (ap (λ r. r.capacity) state ∙ sound.room) (ap (λ r. r.held) state)

pub returns-clause-answer : goal.returns-clause-answer
returns-clause-answer c =
    let inside = c.self.inside in
    let low = c.base.ensures.value
    ∙ base-lowest inside.window inside.next inside.cursor inside.due inside.dues inside.ended
    inside.slots
    c.base.ensures.sound c.self.invariant in
    rw (
      ← c.self.view_is,
      ← low,
      c.if-self.false,
      ne_eqb inside.next 9223372036854775807 c.if-self-2.false,
      ne_eqb (inside.next - c.base.result) inside.window c.if-span-self.false,
    ) refl

pub returns-clause-state : goal.returns-clause-state
returns-clause-state c =
    let inside = c.self.inside in
    let state = c.set-none.ensures.state in
    rw (← c.self.view_is)
    (ap (λ (ps : List Pending). record {
      window = inside.window;
      next = inside.next + 1;
      pending = ps;
      dues = inside.dues;
      ended = c.args.last;
    })
    (messages-put inside.window inside.next inside.cursor inside.due inside.dues inside.ended
    inside.slots
    c.args.item c.args.id c.args.date c.args.last
    (record {
      id = c.args.id;
      date = c.args.date;
      item = c.args.item;
      last = c.args.last;
      emitted = None;
    })
    c.set-none.new.self c.self.invariant refl
    (ap (λ r. r.base) state) (ap (λ r. r.held) state)))

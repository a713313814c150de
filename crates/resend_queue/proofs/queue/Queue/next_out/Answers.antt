use Rattle.std.proofs.Common.{List, Some, ap, sym, ◌∙◌, ◌+◌, ◌<◌, ◌≤◌, ◌≡◌, inl, arith, refl}
use Rattle.resend_queue.specs.Inside.{IsKept}
use Rattle.resend_queue.specs.Queue.{Pending, QueueState, changed_at, first_ready, out_of, transmitted}
use Rattle.resend_queue.proofs.HeldLemmas.{All-found}
use Rattle.resend_queue.proofs.MessageLemmas.{messages-transmitted, state-passed}
use Rattle.resend_queue.proofs.QueueLemmas.{IsFirst, first_ready-none, first_ready-slot}
use Rattle.resend_queue.proofs.SoundLemmas.{sound-passed, sound-transmitted}
use Rattle.resend_queue.proofs.queue.Queue.next_out.Goals as goal

pub returns-in_default-clause-answer : goal.returns-in_default-clause-answer
returns-in_default-clause-answer c =
    let inside = c.self.inside in
    let ring = c.base-low.ensures.sound in
    let to = c.next_taken-self-inside in
    let same = state-passed inside.window inside.next inside.cursor inside.due inside.dues inside.ended
    inside.slots to.result ring to.ensures.low to.ensures.passed in
    let sound = sound-passed inside.window inside.next inside.cursor inside.due inside.dues
    inside.slots to.result c.self.invariant to.ensures.low to.ensures.high in
    let first : IsFirst inside.window inside.next to.result inside.due inside.dues inside.ended
    inside.slots
    c.first_to_send-seq.result =
    record {
      marked = λ due. c.first_to_send-seq.ensures.marked due ∙ c.base-low.ensures.value;
      unmarked = c.first_to_send-seq.ensures.unmarked;
      within = c.first_to_send-seq.ensures.within;
    } in
    inl (rw (← c.self.view_is)
    (sym (ap out_of
    (first_ready-none inside.window inside.next to.result inside.due inside.dues inside.ended
    inside.slots
    c.first_to_send-seq.result ring sound to.ensures.taken first (sym c.in_default.ensures)))
    ∙ ap (λ (q : QueueState). out_of (first_ready q)) same))

pub returns-in_default-clause-state : goal.returns-in_default-clause-state
returns-in_default-clause-state c =
    let inside = c.self.inside in
    let ring = c.base-low.ensures.sound in
    let to = c.next_taken-self-inside in
    let same = state-passed inside.window inside.next inside.cursor inside.due inside.dues inside.ended
    inside.slots to.result ring to.ensures.low to.ensures.passed in
    rw (← c.self.view_is) same

pub returns-in_default-copy-clause-state : goal.returns-in_default-copy-clause-state
returns-in_default-copy-clause-state c =
    let inside = c.self.inside in
    let ring = c.base-low.ensures.sound in
    let to = c.next_taken-self-inside in
    let same = state-passed inside.window inside.next inside.cursor inside.due inside.dues inside.ended
    inside.slots to.result ring to.ensures.low to.ensures.passed in
    rw (← c.self.view_is) same

pub set-requires : goal.set-requires
set-requires c =
    let inside = c.self.inside in
    All-found (λ e. (inside.slots.base ≤ e.0) × (e.0 < inside.slots.base + inside.slots.capacity))
    c.first_to_send-seq.result c.in-Some.slot.now inside.slots.held c.base-low.ensures.sound.within
    (sym c.in-Some.ensures)

pub invariant_of-self-2 : goal.invariant_of-self-2
invariant_of-self-2 c =
    let inside = c.self.inside in
    let ring = c.base-low.ensures.sound in
    let to = c.next_taken-self-inside in
    let sound = sound-passed inside.window inside.next inside.cursor inside.due inside.dues
    inside.slots to.result c.self.invariant to.ensures.low to.ensures.high in
    rw c.max-self-inside.ensures
    (sound-transmitted inside.window inside.next to.result inside.due inside.dues inside.slots
    c.first_to_send-seq.result c.args.now c.in-Some.slot.now
    (record {
      id = c.in-Some.slot.now.id;
      date = c.in-Some.slot.now.date;
      item = c.in-Ok.item;
      last = c.in-Some.slot.now.last;
      emitted = Some c.args.now;
    }) c.set.new.self ring sound (sym c.in-Some.ensures) (rw c.in-Ok.ensures refl)
    c.set.ensures.state)

pub returns-clause-answer : goal.returns-clause-answer
returns-clause-answer c =
    let inside = c.self.inside in
    let ring = c.base-low.ensures.sound in
    let to = c.next_taken-self-inside in
    let same = state-passed inside.window inside.next inside.cursor inside.due inside.dues inside.ended
    inside.slots to.result ring to.ensures.low to.ensures.passed in
    let first : IsFirst inside.window inside.next to.result inside.due inside.dues inside.ended
    inside.slots
    c.first_to_send-seq.result =
    record {
      marked = λ due. c.first_to_send-seq.ensures.marked due ∙ c.base-low.ensures.value;
      unmarked = c.first_to_send-seq.ensures.unmarked;
      within = c.first_to_send-seq.ensures.within;
    } in
    let is : Some c.in-Some-set.first ≡ Some c.in-Some.slot.now =
    c.in-Some-set.ensures.replaced ∙ sym c.in-Some.ensures in
    let given : c.in-Some-set.first ≡ c.in-Some.slot.now = cc in
    inl (rw (← c.self.view_is, given)
    (sym (ap out_of
    (first_ready-slot inside.window inside.next to.result inside.due inside.dues inside.ended
    inside.slots
    c.first_to_send-seq.result c.in-Some.slot.now ring first (sym c.in-Some.ensures)))
    ∙ ap (λ (q : QueueState). out_of (first_ready q)) same))

pub returns-clause-state : goal.returns-clause-state
returns-clause-state c =
    let inside = c.self.inside in
    let ring = c.base-low.ensures.sound in
    let to = c.next_taken-self-inside in
    let same = state-passed inside.window inside.next inside.cursor inside.due inside.dues inside.ended
    inside.slots to.result ring to.ensures.low to.ensures.passed in
    let first : IsFirst inside.window inside.next to.result inside.due inside.dues inside.ended
    inside.slots
    c.first_to_send-seq.result =
    record {
      marked = λ due. c.first_to_send-seq.ensures.marked due ∙ c.base-low.ensures.value;
      unmarked = c.first_to_send-seq.ensures.unmarked;
      within = c.first_to_send-seq.ensures.within;
    } in
    rw (← c.self.view_is, c.max-self-inside.ensures)
    (ap (λ (ps : List Pending). record {
      window = inside.window;
      next = inside.next;
      pending = ps;
      dues = inside.dues;
      ended = inside.ended;
    })
    (messages-transmitted inside.window inside.next to.result inside.due inside.dues inside.ended
    inside.slots
    c.first_to_send-seq.result c.args.now c.in-Some.slot.now
    (record {
      id = c.in-Some.slot.now.id;
      date = c.in-Some.slot.now.date;
      item = c.in-Ok.item;
      last = c.in-Some.slot.now.last;
      emitted = Some c.args.now;
    }) c.set.new.self ring first (sym c.in-Some.ensures) (rw c.in-Ok.ensures refl)
    (ap (λ r. r.base) c.set.ensures.state) (ap (λ r. r.held) c.set.ensures.state)
    ∙ ap (λ (q : QueueState). changed_at c.first_to_send-seq.result (transmitted c.args.now)
    q.pending) same))

pub returns-clause-transmittable : goal.returns-clause-transmittable
returns-clause-transmittable c =
    let inside = c.self.inside in
    let kept = All-found (IsKept inside.next) c.first_to_send-seq.result c.in-Some.slot.now
    inside.slots.held c.self.invariant.kept (sym c.in-Some.ensures) in
    let is : Some c.in-Some-set.first ≡ Some c.in-Some.slot.now =
    c.in-Some-set.ensures.replaced ∙ sym c.in-Some.ensures in
    let given : c.in-Some-set.first ≡ c.in-Some.slot.now = cc in
    let below = kept.below in
    let numbers = c.self.invariant.numbers in
    (omega arith, kept.dated, rw given kept.short)

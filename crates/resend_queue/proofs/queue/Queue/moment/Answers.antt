use Rattle.std.proofs.Common.{◌∙◌, ap}
use Rattle.std.specs.Option.{option_and_then}
use Rattle.resend_queue.specs.declared.slot.Slot.{Slot}
use Rattle.resend_queue.proofs.QueueLemmas.{moment-value}
use Rattle.resend_queue.proofs.queue.Queue.moment.Goals as goal

pub returns-in-Some : goal.returns-in-Some
returns-in-Some c =
    let inside = c.self.inside in
    rw (← c.self.view_is)
    (ap (option_and_then (λ (slot : Slot). slot.emitted)) c.in-Some.ensures
    ∙ moment-value inside.window inside.next inside.cursor inside.due inside.dues inside.ended
    inside.slots
    c.args.seq)

pub returns-in-None : goal.returns-in-None
returns-in-None c =
    let inside = c.self.inside in
    rw (← c.self.view_is)
    (ap (option_and_then (λ (slot : Slot). slot.emitted)) c.in-None.ensures
    ∙ moment-value inside.window inside.next inside.cursor inside.due inside.dues inside.ended
    inside.slots
    c.args.seq)

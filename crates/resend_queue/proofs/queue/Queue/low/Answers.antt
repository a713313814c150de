use Rattle.std.proofs.Common.{◌∙◌}
use Rattle.resend_queue.proofs.QueueLemmas.{base-lowest}
use Rattle.resend_queue.proofs.queue.Queue.low.Goals as goal

pub returns : goal.returns
returns c =
    let inside = c.self.inside in
    rw (← c.self.view_is)
    (c.base.ensures.value
    ∙ base-lowest inside.window inside.next inside.cursor inside.due inside.dues inside.ended
    inside.slots
    c.base.ensures.sound c.self.invariant)

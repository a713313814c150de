use Rattle.std.proofs.Common.{List, ap}
use Rattle.resend_queue.specs.Queue.{Pending}
use Rattle.resend_queue.proofs.MessageLemmas.{messages-reopened}
use Rattle.resend_queue.proofs.queue.Queue.reopen.Goals as goal

pub returns : goal.returns
returns c =
    let inside = c.self.inside in
    rw (← c.self.view_is, c.base-low.ensures.value)
    (ap (λ (ps : List Pending). record {
      window = inside.window;
      next = inside.next;
      pending = ps;
      dues = inside.dues;
      ended = inside.ended;
    })
    (messages-reopened inside.window inside.next inside.cursor inside.due inside.dues inside.ended
    inside.slots
    c.base-low.ensures.sound))

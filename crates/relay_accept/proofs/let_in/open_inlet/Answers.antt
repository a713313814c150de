use denote.Param.Send.{sendable}
use Rattle.std.proofs.Common.{ap, ◌∙◌}
use Rattle.relay_desk.specs.Hearing.{stepping_desk}
use Rattle.relay_accept.proofs.Crossing.{SendDone-send, SendJob-send}
use Rattle.relay_accept.proofs.EndLemmas.{EndsBy-behind, EndsBy-sent, EndsBy-unstarted}
use Rattle.relay_accept.proofs.let_in.open_inlet.Goals as goal

pub start-requires-send-J : goal.start-requires-send-J
start-requires-send-J g c κs within =
    search (sendable, SendJob-send) depth 20

pub start-requires-send-J-Done : goal.start-requires-send-J-Done
start-requires-send-J-Done g c κs within =
    search (sendable, SendDone-send) depth 20

pub join-outlet-requires-send-J : goal.join-outlet-requires-send-J
join-outlet-requires-send-J g c κs within =
    search (sendable, SendJob-send) depth 20

pub join-outlet-requires-send-J-Done : goal.join-outlet-requires-send-J-Done
join-outlet-requires-send-J-Done g c κs within =
    search (sendable, SendDone-send) depth 20

pub join-requires-clause-from : goal.join-requires-clause-from
join-requires-clause-from g c =
    let sent = c.join-outlet.ensures _ c.in-Ok-start.ensures.started in
    ap (λ s. s.inner.table_id) c.seat_of-conn.ensures.seat
    ∙ sent.takes.same_seat.same_lock
    ∙ ap (λ s. s.inner.table_id) c.new.ensures.seat
    ∙ c.in-Ok.ensures.given.same_lock
    ∙ c.open-opened.ensures.1.steps.makes.seat.same_seat.same_lock
    ∙ c.requires.switch

pub returns-in-Ok-start-clause-ends : goal.returns-in-Ok-start-clause-ends
returns-in-Ok-start-clause-ends g c =
    EndsBy-sent _ _ _ _ _ _ _ c.least.ensures c.end_of_sending.ensures
    (EndsBy-behind _ _ _ (stepping_desk c.open-opened.ensures.0) _ _ _
    c.open-opened.ensures.1.desk absurd c.read_inlet-end.ensures.ends)

pub returns-in-Err-clause-ends : goal.returns-in-Err-clause-ends
returns-in-Err-clause-ends g c =
    EndsBy-unstarted _ _ _ (stepping_desk c.open-opened.ensures.0) c.leave-heard.ensures.0 _ _ _ _
    c.least-in-Err.ensures c.end_of_reading-in-Err.ensures c.leave-heard.ensures.1.steps.comes
    c.open-opened.ensures.1.desk c.leave-heard.ensures.1.desk c.in-Err.ensures.failed

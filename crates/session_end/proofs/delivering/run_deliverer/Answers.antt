use Rattle.session_end.proofs.DelivererRanLemmas.{DelivererRan-all, DelivererRan-not, IsDelivery-same}
use Rattle.session_end.proofs.delivering.run_deliverer.Goals as goal

pub returns-in-Ok-clause-ran : goal.returns-in-Ok-clause-ran
returns-in-Ok-clause-ran g c =
    let start = c.in-Ok.ensures.started in
    let after = c.after_deliverer.ensures in
    DelivererRan-all g.S.Session.stands g.S.Session.out g.S.Session.begun g.S.Session.refused
    g.W.Spawner.faults c.args.service c.join-done.result c.after_deliverer.result _ _ _
    (IsDelivery-same _ _ _ _ _ _ _ _ start.promise c.join-done.result start.session start.end
    start.shelf (c.join-done.ensures start.promise start.is_call))
    c.start_deliverer.ensures.counted after.merges after.service after.refusals after.ended
    after.started

pub returns-in-Err-clause-ran : goal.returns-in-Err-clause-ran
returns-in-Err-clause-ran g c =
    let back = c.in-Err.ensures.back in
    let after = c.after_deliverer-in-Err.ensures in
    DelivererRan-not g.S.Session.stands g.S.Session.out g.S.Session.begun g.S.Session.refused
    g.W.Spawner.faults c.args.service c.in-Err.done c.after_deliverer-in-Err.result _ _ _ back.0
    c.start_deliverer.ensures.counted after.merges after.service after.refusals after.ended
    after.started back.1 c.in-Err.ensures.failed after.counted

use denote.Param.Send.{sendable}
use Rattle.session_delivery.proofs.Crossing.{DeliverDone-send, DeliverStart-send}
use Rattle.session_delivery.proofs.DoneLemmas.{IsDelivererStart-of}
use Rattle.session_delivery.proofs.deliver_work.start_deliverer.Goals as goal

-- the bounds stand in `requires-raw`, which search reaches only where it is bound last
pub start_call-requires-send-T : goal.start_call-requires-send-T
start_call-requires-send-T g c κs within =
    let raw = c.requires-raw in search (sendable, DeliverDone-send, raw) depth 30

pub start_call-requires-send-F : goal.start_call-requires-send-F
start_call-requires-send-F g c κs within =
    let raw = c.requires-raw in search (sendable, DeliverStart-send, raw) depth 30

pub returns-clause-started : goal.returns-clause-started
returns-clause-started g c =
    IsDelivererStart-of _ _ _ _ _ _ _ _ c.start_call.result c.new-promise.result
    c.start_call.ensures.started c.new-promise.ensures.end c.new-promise.ensures.shelf
    c.new-promise.ensures.session

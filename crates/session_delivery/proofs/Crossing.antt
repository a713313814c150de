-- The deliverer may go to another thread, and so may what it ends with.
use denote.RattleType.{RattleType}
use denote.Ref.{NamedLft}
use denote.Param.Send.{IsSend, IsSync, sendable}
use Rattle.std.proofs.Crossing.{crosses}
use Rattle.session_run.proofs.Crossing.{Seat_field-send, ShelfSeat_field-send}
use Rattle.session_crews.proofs.Crossing.{RunContext_field-send}
use Rattle.session_delivery.specs.contracts.deliver_done.DeliverDone as DeliverDone
use Rattle.session_delivery.specs.contracts.deliver_end.DeliverEnd as DeliverEnd
use Rattle.session_delivery.specs.contracts.deliver_start.DeliverStart as DeliverStart

-- how it ended may cross
pub DeliverEnd-send : IsSend DeliverEnd.the_row
DeliverEnd-send = search sendable depth 120 fits 100000

-- what a deliverer ends with may cross
pub DeliverDone-send : (W S : RattleType) → IsSend W → IsSend S
    → IsSend (DeliverDone.the_row W S)
DeliverDone-send W S w s =
    search
    (sendable, crosses, DeliverEnd-send, Seat_field-send, ShelfSeat_field-send)
    depth 60 fits 20000

-- so may one that is to be started
pub DeliverStart-send : (κ μ : NamedLft) (R C G W S : RattleType)
    → IsSync R → IsSync C → IsSync G → IsSend W → IsSend S
    → IsSend (DeliverStart.the_row κ μ R C G W S)
DeliverStart-send κ μ R C G W S r c g w s =
    search
    (sendable, crosses, RunContext_field-send, Seat_field-send, ShelfSeat_field-send)
    depth 60

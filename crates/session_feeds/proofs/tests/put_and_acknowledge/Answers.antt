use denote.Param.Send.{IsSync, sendable}
use Rattle.std.proofs.Crossing.{crosses}
use Rattle.session_run.proofs.Crossing.{Seat-send, TurnLock-sync}
use Rattle.session_feeds.specs.contracts.tests.LastRest as LastRest
use Rattle.session_feeds.proofs.tests.put_and_acknowledge.Goals as goal

LastRest-sync : IsSync LastRest.the_row
LastRest-sync = search (sendable, crosses) depth 40

pub join-stopped-requires-send-F : goal.join-stopped-requires-send-F
join-stopped-requires-send-F g c κs within =
    search (sendable, Seat-send, TurnLock-sync, LastRest-sync) depth 20

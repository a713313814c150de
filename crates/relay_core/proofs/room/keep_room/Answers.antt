use Rattle.relay_core.proofs.RoomLemmas.{room-kept}
use Rattle.relay_core.proofs.room.keep_room.Goals as goal

pub returns-clause-same : goal.returns-clause-same
returns-clause-same c s =
    room-kept c.args.rooms.now.entries c.args.session.now s c.insert.new.self.entries
    c.room_for-room.result c.room_for-room.ensures (c.in_ok-insert.ensures.updates.0 s)

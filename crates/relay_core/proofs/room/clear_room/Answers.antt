use Rattle.std.proofs.Common.{List, ℕ, sym, ap, ◌∙◌}
use Rattle.std.specs.BTreeMap.{BTreeMap}
use Rattle.std.specs.Option.{option_copied_mut}
use Rattle.relay_core.specs.declared.room.Room.{Room}
use Rattle.relay_core.specs.Kept.{room_in}
use Rattle.relay_core.proofs.RoomLemmas.{room-none}
use Rattle.relay_core.proofs.room.clear_room.Goals as goal

pub returns-in_default : goal.returns-in_default
returns-in_default c s =
    ap (λ (m : BTreeMap (List ℕ) Room). room_in m.entries s) c.get_mut.follows.holds-at-none
    ∙ room-none c.args.rooms.now.entries c.args.session.now s c.args.conn
    (sym c.get_mut.ensures.value ∙ ap option_copied_mut c.in_default.is)

-- The peer of a connection, as it is found in what is kept.
use Rattle.std.proofs.Common.{◌≡◌, ℕ, false, cond, Option, Some, None, List, sym, ap, ◌∙◌, refl}
use Rattle.chan_values.specs.declared.side.Side.{Side}
use Rattle.chan_values.specs.Sides.{other}
use Rattle.relay_core.specs.declared.event.Event.{Event}
use Rattle.relay_core.specs.declared.place.Place.{Place}
use Rattle.relay_core.specs.declared.room.Room.{Room}
use Rattle.relay_core.specs.Rooms.{across, holder, is_conn}
use Rattle.relay_core.specs.Kept.{Kept, Stands, peer_from, peer_in, place_in}
use Rattle.relay_core.specs.Forwarding.{peer_at, peer_of, place_of, room_told}
use Rattle.relay_core.proofs.EventLemmas.{holder-told}
use Rattle.relay_core.proofs.TestLemmas.{fails, is_conn-true}

-- a connection that is not current has no peer
pub across-none : (conn : ℕ) (role : Side) (room : Room) → is_conn conn (holder role room) ≡ false
    → across conn role room ≡ None
across-none conn role room former =
    ap (λ b. cond b (holder (other role) room) None) former

module _ (kept : Kept) (es : List Event) (stands : Stands kept es) (conn : ℕ) where
  no-peer : (o : Option Place) → place_in kept.places conn ≡ None → peer_at es conn o ≡ None
  no-peer None none = refl
  no-peer (Some q) none =
      across-none conn q.role (room_told es q.session)
      (fails (is_conn conn (holder q.role (room_told es q.session))) (λ holds.
      let placed = stands.current q.session q.role conn
      (sym (holder-told es q.session q.role)
      ∙ is_conn-true conn (holder q.role (room_told es q.session)) holds) in
      cc (none, placed)))

  peer-by : (o : Option Place) → place_in kept.places conn ≡ o
      → peer_from kept.rooms conn o ≡ peer_of es conn
  peer-by None is = sym (no-peer (place_of es conn) is)
  peer-by (Some p) is =
      ap (across conn p.role) (stands.rooms p.session)
      ∙ ap (peer_at es conn) (sym (stands.places conn p is))

  -- the peer that is found is the one that the events tell
  pub peer-told : peer_in kept conn ≡ peer_of es conn
  peer-told = peer-by (place_in kept.places conn) refl

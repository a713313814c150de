-- A seat may go to another thread, and a lock be shared, where the value may go.
use denote.RattleType.{RattleType}
use denote.Param.Send.{IsSend, IsSync, sendable, struct_send, recorded_send}
use denote.Struct.Declared.{shape}
use Rattle.std.proofs.Crossing.{crosses}
use Rattle.std.specs.contracts.option.Option as Option
use Rattle.atomic_table.proofs.shared.Seat.TheSendSync as sent
use Rattle.atomic_table.proofs.shared.Shared.TheSendSync as shared
use Rattle.atomic_table.proofs.send_lease.SendLease.TheSendSync as leased
use Rattle.turn_lock.specs.declared.value.Turn.{Ghosts}
use Rattle.turn_lock.specs.contracts.seat.Seat as Seat
use Rattle.turn_lock.specs.contracts.seat.TurnLock as TurnLock
use Rattle.turn_lock.specs.contracts.view.Locked as Locked
use Rattle.turn_lock.specs.contracts.view.View as View
use Rattle.atomic_table.specs.contracts.shared.Seat as inner

slot_send : (V C A : RattleType) → IsSend V → IsSend (Option.the_row (Locked.the_row V C A))
slot_send V C A v = search (sendable, crosses) depth 20

module _ (V C A T : RattleType) (g : Ghosts V.Denot C.Denot A.Denot T.Denot) (v : IsSend V) where
  inner_send : IsSend (inner.the_field (Option.the_row (Locked.the_row V C A)) (View.the_row C A T)).row
  inner_send = sent.the_send (Option.the_row (Locked.the_row V C A)) (View.the_row C A T) (slot_send V C A v)

  -- a seat that is a field of a struct may cross
  pub Seat_field-send : IsSend (Seat.the_field V C A T g).row
  Seat_field-send = struct_send (shape (Seat.the_type V C A T g)) (inner_send, tt)

  -- so may a seat by itself
  pub Seat-send : IsSend (Seat.the_row V C A T g)
  Seat-send = recorded_send _ _ _ (Seat.the_type V C A T g).to_one Seat_field-send

  -- a reference to a lock may cross
  pub TurnLock-sync : IsSync (TurnLock.the_row V C A T g)
  TurnLock-sync =
      let slot : IsSend (Option.the_row (Locked.the_row V C A)) = slot_send V C A v in
      search (sendable, crosses, leased.the_sync, shared.the_sync) depth 24

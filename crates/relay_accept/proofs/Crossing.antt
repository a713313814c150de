-- A switch may go to another thread, and so may its seats and the workers of a connection; the locks
-- may be shared.
use denote.RattleType.{RattleType}
use denote.Builtin.{unit}
use Rattle.turn_lock.specs.declared.value.Turn.{Ghosts}
use denote.Ref.{NamedLft}
use denote.Param.Send.{IsSend, IsSync, sendable, struct_send, recorded_send}
use denote.Struct.Declared.{shape}
use Rattle.std.proofs.Crossing.{Vec-send, crosses}
use Rattle.std.proofs.MapsCrossing as maps
use Rattle.turn_lock.specs.contracts.seat.Seat as Seat
use Rattle.turn_lock.specs.contracts.seat.TurnLock as TurnLock
use Rattle.turn_lock.proofs.Crossing as lock
use Rattle.chan_io.specs.declared.link_out.LinkOut as LinkOut
use Rattle.relay_run.specs.contracts.drops.Drops as Drops
use Rattle.relay_run.specs.contracts.mark.Mark as Mark
use Rattle.relay_run.specs.contracts.send_job.SendDone as SendDone
use Rattle.relay_run.specs.contracts.send_job.SendJob as SendJob
use Rattle.relay_desk.specs.contracts.desk.Desk as Desk
use Rattle.relay_accept.specs.contracts.conn_done.ConnDone as ConnDone
use Rattle.relay_accept.specs.contracts.conn_start.ConnStart as ConnStart
use Rattle.relay_accept.specs.contracts.relay_context.RelayContext as RelayContext
use Rattle.relay_accept.specs.contracts.relay_seats.RelaySeats as RelaySeats
use Rattle.relay_accept.specs.contracts.relay_seats.SessionSeat as SessionSeat
use Rattle.relay_core.specs.contracts.action.Action as Action
use Rattle.relay_core.specs.contracts.relay.Relay as Relay
use Rattle.relay_switch.specs.contracts.line.Line as Line
use Rattle.relay_switch.specs.contracts.switch.Switch as Switch
use Rattle.relay_switch.specs.contracts.switch.SwitchTurn.TheImpl as turns
use Rattle.relay_switch.specs.contracts.switch_call.SwitchAnswer as SwitchAnswer
use Rattle.relay_switch.specs.contracts.switch_call.SwitchCall as SwitchCall

Action-send : IsSend Action.the_row
Action-send = search (sendable, crosses) depth 40

Line-send : IsSend Line.the_row
Line-send = search (sendable, crosses, Action-send) depth 40

Relay-send : IsSend Relay.the_row
Relay-send = search (sendable, crosses, maps.crosses) depth 60 fits 20000

-- a switch may cross
pub Switch-send : IsSend Switch.the_row
Switch-send = search (sendable, crosses, maps.crosses, Action-send, Line-send, Relay-send) depth 60 fits 20000

abbrev pub TheLock : RattleType
TheLock = TurnLock.the_row Switch.the_row SwitchCall.the_row SwitchAnswer.the_row unit turns.ghosts

-- a lock over a switch may be shared
pub SwitchLock-sync : IsSync TheLock
SwitchLock-sync =
    lock.TurnLock-sync Switch.the_row SwitchCall.the_row SwitchAnswer.the_row unit turns.ghosts
    Switch-send

-- a seat may cross as a field
pub SwitchSeat_field-send :
    IsSend
    (Seat.the_field Switch.the_row SwitchCall.the_row SwitchAnswer.the_row unit turns.ghosts).row
SwitchSeat_field-send =
    lock.Seat_field-send Switch.the_row SwitchCall.the_row SwitchAnswer.the_row unit turns.ghosts
    Switch-send

-- the worker that writes to a connection
pub SendJob-send : (κ : NamedLft) (R C U : RattleType) (u : LinkOut.Ghosts U.Denot)
    → IsSync R → IsSync C → IsSend U
    → IsSend (SendJob.the_row κ R C U u)
SendJob-send κ R C U g r c u =
    search (sendable, crosses, SwitchLock-sync, SwitchSeat_field-send) depth 60 fits 20000

pub SendDone-send : (U : RattleType) (u : LinkOut.Ghosts U.Denot) → IsSend U → IsSend (SendDone.the_row U u)
SendDone-send U g u = search (sendable, crosses, SwitchSeat_field-send) depth 40 fits 20000

-- a desk may cross where its keeper and its random bytes may
pub Desk-send : (K E : RattleType) → IsSend K → IsSend E → IsSend (Desk.the_row K E)
Desk-send K E k e = search (sendable, crosses) depth 40 fits 20000

-- so may what the worker of a connection ends with
pub SessionSeat-send : IsSend SessionSeat.the_row
SessionSeat-send = search (sendable, SwitchSeat_field-send) depth 20

pub SessionSeat_field-send : IsSend (SessionSeat.the_field).row
SessionSeat_field-send = search (sendable, SwitchSeat_field-send) depth 20

Mark-sync : IsSync Mark.the_row
Mark-sync = search (sendable, crosses) depth 30

Drops-sync : IsSync Drops.the_row
Drops-sync = search (sendable, crosses) depth 30

module _ (D C A T : RattleType) (g : Ghosts D.Denot C.Denot A.Denot T.Denot) (d : IsSend D) where
  -- the seats of a worker
  pub RelaySeats_field-send : IsSend (RelaySeats.the_field D C A T g).row
  RelaySeats_field-send =
      struct_send (shape (RelaySeats.the_type D C A T g))
      (lock.Seat_field-send D C A T g d, (Vec-send SessionSeat.the_row SessionSeat-send, tt))

  pub RelaySeats-send : IsSend (RelaySeats.the_row D C A T g)
  RelaySeats-send = recorded_send _ _ _ (RelaySeats.the_type D C A T g).to_one RelaySeats_field-send

  -- what the worker of a connection ends with
  pub ConnDone-send : (W : RattleType) → IsSend W → IsSend (ConnDone.the_row D W C A T g)
  ConnDone-send W w =
      recorded_send _ _ _ (ConnDone.the_type D W C A T g).to_one
      (struct_send (shape (ConnDone.the_type D W C A T g)) (RelaySeats_field-send, (w, (search sendable depth 20, tt))))

  -- what it shares with the others
  pub RelayContext_field-send : (κ μ : NamedLft) (R C' : RattleType)
      → IsSync R → IsSync C'
      → IsSend (RelayContext.the_field κ μ R C' D C A T g).row
  RelayContext_field-send κ μ R C' r c =
      struct_send (shape (RelayContext.the_type κ μ R C' D C A T g)) (
        search (sendable, crosses, r) depth 20,
        (
          search (sendable, crosses) depth 20,
          (
            search sendable depth 20,
            (
              search (sendable, crosses) depth 30,
              (
                search (sendable, crosses, SwitchLock-sync) depth 20,
                (
                  (let desk = lock.TurnLock-sync D C A T g d in search (sendable, desk) depth 20),
                  (
                    search (sendable, crosses, c) depth 20,
                    (
                      search (sendable, Mark-sync) depth 20,
                      (search (sendable, Drops-sync) depth 20, tt),
                    ),
                  ),
                ),
              ),
            ),
          ),
        ),
      )

  -- the worker that is to be started
  pub ConnStart-send : (κ μ : NamedLft) (R C' N U W : RattleType) (o : LinkOut.Ghosts U.Denot)
      → IsSync R → IsSync C' → IsSend N → IsSend U → IsSend W
      → IsSend (ConnStart.the_row κ μ R C' D N U W C A T g o)
  ConnStart-send κ μ R C' N U W o r c n u w =
      recorded_send _ _ _ (ConnStart.the_type κ μ R C' D N U W C A T g o).to_one
      (struct_send (shape (ConnStart.the_type κ μ R C' D N U W C A T g o)) (
        RelayContext_field-send κ μ R C' r c,
        (
          search (sendable, crosses) depth 30,
          (
            search sendable depth 20,
            (n, (u, (RelaySeats_field-send, (w, tt)))),
          ),
        ),
      ))

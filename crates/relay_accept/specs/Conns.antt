-- The worker of a connection, from its start to its end.
use Rattle.std.specs.Prelude.{◌≡◌, ◌<◌, ℕ, List}
use Rattle.turn_lock.specs.declared.seat.Seat.{Seat}
use Rattle.turn_lock.specs.declared.value.Turn.{Ghosts}
use Rattle.session_run.specs.Adds.{AddsCalls}
use Rattle.relay_desk.specs.Desks.{DeskStep}
use Rattle.relay_desk.specs.declared.desk_call.DeskAnswer.{DeskAnswer}
use Rattle.relay_desk.specs.declared.desk_call.DeskCall.{DeskCall}
use Rattle.chan_io.specs.Calls.{IsCallOf}
use Rattle.chan_io.specs.declared.running_call.RunningCall.{RunningCall}
use Rattle.relay_accept.specs.declared.conn_done.ConnDone.{ConnDone}
use Rattle.relay_accept.specs.declared.conn_done.FromConn.{FromConn}
use Rattle.relay_accept.specs.declared.relay_seats.RelaySeats.{RelaySeats}
use Rattle.relay_accept.specs.declared.run_end.RunEnd.{RunEnd}
use Rattle.relay_accept.specs.Ends.{MayEnd}
use Rattle.relay_accept.specs.Seats.{locks_of}

module _ {D T : Type 0} {g : Ghosts D DeskCall DeskAnswer T} where
  -- the calls that this seat made explain the end, unless a start failed
  pub record EndsBy (old new : Seat D DeskCall DeskAnswer T g) (end : RunEnd) (start : Type 0)
      : Type 0 where
    pub calls : List DeskStep
    pub desk : AddsCalls old calls new
    pub ends : MayEnd end calls start ⊥

  -- with these seats a connection was served to this end
  pub record Served (old new : RelaySeats D DeskCall DeskAnswer T g) (end : RunEnd) (start : Type 0)
      : Type 0 where
    pub ends : EndsBy old.desk new.desk end start
    pub switches : locks_of new.switches.items ≡ locks_of old.switches.items

  -- the worker that had these seats has ended so
  abbrev pub ConnEnds : {W : Type 0} → (W → ℕ) → RelaySeats D DeskCall DeskAnswer T g
      → ConnDone D W DeskCall DeskAnswer T g → Type 0
  ConnEnds faults seats done = Served seats done.seats done.end (0 < faults done.spawner)

  -- a call was started whose worker has these seats
  pub record IsStarted {W : Type 0} (faults : W → ℕ) (seats : RelaySeats D DeskCall DeskAnswer T g)
      (call : RunningCall (ConnDone D W DeskCall DeskAnswer T g) (FromConn D DeskCall DeskAnswer T g))
      : Type 0 where
    pub promise : FromConn D DeskCall DeskAnswer T g
    pub is_call :
        IsCallOf
        (λ (p : FromConn D DeskCall DeskAnswer T g) (done : ConnDone D W DeskCall DeskAnswer T g).
        ConnEnds faults p.seats.value done)
        promise call
    pub has : promise.seats.value ≡ seats

-- The accepting worker, while the workers of connections are out.
use Rattle.std.specs.Prelude.{◌≡◌, ◌≤◌, ℕ, Result, Some, true, List, [], ◌∷◌, ◌++◌, map}
use Rattle.std.specs.List.{All}
use Rattle.chan_io.specs.Faults.{Rises}
use Rattle.chan_io.specs.declared.running_call.RunningCall.{RunningCall}
use Rattle.atomic_table.specs.Seated.{TableId}
use Rattle.turn_lock.specs.declared.seat.TurnLock.{TurnLock}
use Rattle.turn_lock.specs.declared.value.Turn.{Ghosts}
use Rattle.turn_lock.specs.declared.view.Entry.{Entry}
use Rattle.turn_lock.specs.declared.view.Share.{Share}
use Rattle.turn_lock.specs.Histories.{calls_of}
use Rattle.turn_lock.specs.Seats.{IsSeatOf, SameLock, mine_of, share_of}
use Rattle.relay_desk.specs.Desks.{DeskStep}
use Rattle.relay_desk.specs.declared.desk_call.DeskAnswer.{DeskAnswer}
use Rattle.relay_desk.specs.declared.desk_call.DeskCall.{DeskCall}
use Rattle.relay_accept.specs.declared.accepting.Acceptor.{Acceptor}
use Rattle.relay_accept.specs.declared.conn_done.ConnDone.{ConnDone}
use Rattle.relay_accept.specs.declared.conn_done.FromConn.{FromConn}
use Rattle.relay_accept.specs.declared.relay_seats.RelaySeats.{RelaySeats}
use Rattle.relay_accept.specs.declared.run_end.RunEnd.{RunEnd}
use Rattle.relay_accept.specs.Conns.{IsStarted}
use Rattle.relay_accept.specs.Ends.{MayEnd}
use Rattle.relay_accept.specs.Gathers.{Gathers}
use Rattle.relay_accept.specs.Seats.{locks_of}

-- an entry of a desk's history
abbrev pub DeskEntry : Type 0
DeskEntry = Entry DeskCall DeskAnswer

-- the calls by which it is asked whether these sessions have ended, each answered that it has
abbrev pub asked_ended : List (List ℕ) → List DeskStep
asked_ended names = map (λ name. (DeskCall.Ended name, DeskAnswer.Ended (Result.Ok (Some true)))) names

-- what the workers that are out promised
abbrev pub promises : {X P L : Type 0} → List (X × P × L) → List P
promises calls = map (λ c. c.1) calls

module _ {D T : Type 0} {g : Ghosts D DeskCall DeskAnswer T} where
  -- the shares of the desk's lock that are out
  abbrev pub shares_out : List (FromConn D DeskCall DeskAnswer T g) → List Share
  shares_out out = map (λ p. share_of p.seats.value.desk) out

  -- what the accepting worker ends with, once all workers were joined
  pub record AcceptsAll (seats : RelaySeats D DeskCall DeskAnswer T g) (count port_was port_now : ℕ)
      (new : RelaySeats D DeskCall DeskAnswer T g) (new_count : ℕ) (end : RunEnd) : Type 0 where
    pub entries : List DeskEntry
    pub desk : Gathers seats.desk entries [] new.desk
    pub switches : locks_of new.switches.items ≡ locks_of seats.switches.items
    pub counted : count ≤ new_count
    pub port_counted : port_was ≤ port_now
    pub ends :
        MayEnd end (calls_of entries) (Rises count new_count) (Rises port_was port_now)

  module _ {W : Type 0} (faults : W → ℕ) where
    -- the accepting worker that began with these seats, and whose spawner's count was so, has these
    -- entries more, while workers with these seats are out; its end is explained by them, by a start
    -- that failed, or by the ports, whose count was and is so
    pub record Holds (seats : RelaySeats D DeskCall DeskAnswer T g) (count port_was port_now : ℕ)
        (out : List (FromConn D DeskCall DeskAnswer T g)) (acceptor : Acceptor D W DeskCall DeskAnswer T g)
        : Type 0 where
      pub entries : List DeskEntry
      pub desk : Gathers seats.desk entries (shares_out out) acceptor.seats.desk
      pub switches : locks_of acceptor.seats.switches.items ≡ locks_of seats.switches.items
      pub counted : count ≤ faults acceptor.spawner
      pub port_counted : port_was ≤ port_now
      pub ends :
          MayEnd acceptor.end (calls_of entries) (Rises count (faults acceptor.spawner))
          (Rises port_was port_now)

    -- from whatever it began with, it goes on so
    abbrev pub Goes : ℕ → ℕ → List (FromConn D DeskCall DeskAnswer T g)
        → List (FromConn D DeskCall DeskAnswer T g) → Acceptor D W DeskCall DeskAnswer T g
        → Acceptor D W DeskCall DeskAnswer T g → Type 0
    Goes port_before port_now old_out new_out old new =
        (seats : RelaySeats D DeskCall DeskAnswer T g) (count port_was : ℕ)
        → Holds seats count port_was port_before old_out old
        → Holds seats count port_was port_now new_out new

    -- one worker less is out
    abbrev pub Loses : FromConn D DeskCall DeskAnswer T g → Acceptor D W DeskCall DeskAnswer T g
        → Acceptor D W DeskCall DeskAnswer T g → Type 0
    Loses promise old new =
        (before behind : List (FromConn D DeskCall DeskAnswer T g)) (port : ℕ)
        → Goes port port (before ++ promise ∷ behind) (before ++ behind) old new

    -- a call is out that was started with new seats of these locks, which stand beside it
    pub record IsOut {L : Type 0} (desk : TurnLock D DeskCall DeskAnswer T) (locks : List TableId)
        (c : RunningCall (ConnDone D W DeskCall DeskAnswer T g) (FromConn D DeskCall DeskAnswer T g)
        × FromConn D DeskCall DeskAnswer T g × L) : Type 0 where
      pub started : IsStarted faults c.1.seats.value c.0
      pub of_desk : IsSeatOf desk c.1.seats.value.desk
      pub none_made : mine_of c.1.seats.value.desk ≡ []
      pub of_switches : locks_of c.1.seats.value.switches.items ≡ locks

    -- the accepting worker and those that are out, before and after a while in which the ports' count
    -- went from one number to the other
    pub record Steps {L : Type 0} (desk : TurnLock D DeskCall DeskAnswer T) (locks : List TableId)
        (port_before port_now : ℕ)
        (old_conns new_conns : List (RunningCall (ConnDone D W DeskCall DeskAnswer T g) (FromConn D DeskCall DeskAnswer T g)
        × FromConn D DeskCall DeskAnswer T g × L))
        (old new : Acceptor D W DeskCall DeskAnswer T g) : Type 0 where
      pub same_desk : SameLock old.seats.desk new.seats.desk
      pub same_switches : locks_of new.seats.switches.items ≡ locks_of old.seats.switches.items
      pub out : All (IsOut desk locks) new_conns
      pub goes : Goes port_before port_now (promises old_conns) (promises new_conns) old new

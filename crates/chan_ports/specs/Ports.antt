-- What is done at ports: listening there, and connections.
use Rattle.std.specs.Prelude.{◌≡◌, ◌<◌, ℕ, ◌+◌, ◌-◌, ◌^◌, min, Option, Some, None, List, [], ◌∷◌, ◌++◌, Result, Ok, Err}
use Rattle.chan_io.specs.declared.failed.Failed.{Failed}
use Rattle.chan_ports.specs.declared.connection.Connection.{Connection}

-- what was done at ports that tell: the ports listened at, how many accepts found no connection, and
-- the connections that were made, in order
pub record Usage (C : Type 0) : Type 0 where
  pub listened : List ℕ
  pub idle : ℕ
  pub connections : List C

-- ports in memory: what was done there, and how many of their calls failed
pub record MemoryPorts (C : Type 0) : Type 0 where
  pub usage : Usage C
  pub faults : ℕ

-- the port that was asked for; where 0 was, any other
abbrev pub IsPortFor : ℕ → ℕ → Type 0
IsPortFor asked port = (0 < port) × (0 < asked → port ≡ asked)

module _ {C : Type 0} where
  -- nothing was done yet
  abbrev pub unused : Usage C
  unused = record { listened = []; idle = 0; connections = [] }

  -- one port more is listened at
  abbrev pub listening : ℕ → Usage C → Usage C
  listening port before = record before { listened = before.listened ++ port ∷ [] }

  -- one more accept found no connection; the number of times stops at 2^64 - 1
  abbrev pub idle_once_more : Usage C → Usage C
  idle_once_more before = record before { idle = min (before.idle + 1) (2 ^ 64 - 1) }

  -- one connection more was made
  abbrev pub connected : C → Usage C → Usage C
  connected connection before =
      record before { connections = before.connections ++ connection ∷ [] }

  -- a port is listened at from then on; a failure changes nothing
  abbrev pub Listens : ℕ → Result ℕ Failed → Option (Usage C) → Option (Usage C) → Type 0
  Listens asked result None after = after ≡ None
  Listens asked (Ok port) (Some before) after =
      IsPortFor asked port × (after ≡ Some (listening port before))
  Listens asked (Err fault) (Some before) after = after ≡ Some before

  -- the connection that came was made, by the relation of its ends to what is told of it, or none came;
  -- a failure, or want of memory, changes nothing
  abbrev pub Accepts : {X F : Type 0} → (X → C → Type 0) → Result (Option X) F
      → Option (Usage C) → Option (Usage C) → Type 0
  Accepts IsOf result None after = after ≡ None
  Accepts IsOf (Ok (Some ends)) (Some before) after =
      (connection : C) × IsOf ends connection × (after ≡ Some (connected connection before))
  Accepts IsOf (Ok None) (Some before) after = after ≡ Some (idle_once_more before)
  Accepts IsOf (Err fault) (Some before) after = after ≡ Some before

-- the connection to this port was made; a failure changes nothing
abbrev pub Connects : {X : Type 0} → ℕ → Result X Failed → Option (Usage Connection) → Option (Usage Connection)
    → Type 0
Connects port result None after = after ≡ None
Connects port (Ok ends) (Some before) after = after ≡ Some (connected (Connection.Connected port) before)
Connects port (Err fault) (Some before) after = after ≡ Some before

-- The messages that a link sends.
use Rattle.std.specs.Prelude.{◌≡◌, ℕ, ◌+◌, ◌-◌, ◌^◌, min, Option, Some, None, List, [], ◌∷◌, ◌++◌, Result, Ok, Err}
use Rattle.chan_io.specs.declared.failed.IoFault.{IoFault}
use Rattle.chan_io.specs.declared.got.Got.{Got}

-- what a link that tells has sent, as the other end gets it, and how often it was shut
pub record Departures : Type 0 where
  pub sent : List Got
  pub shuts : ℕ

-- a link in memory: its messages, and how many of its calls failed
pub record MemoryLinkOut : Type 0 where
  pub departures : Departures
  pub faults : ℕ

-- nothing was sent yet
abbrev pub unsent : Departures
unsent = record { sent = []; shuts = 0 }

-- what a send adds: the message, unless it failed or wanted memory
abbrev pub sent_by : Got → Result Unit IoFault → List Got
sent_by message (Ok done) = message ∷ []
sent_by message (Err fault) = []

-- the message was sent, or all stays
abbrev pub Sends : Got → Result Unit IoFault → Option Departures → Option Departures → Type 0
Sends message result None after = after ≡ None
Sends message result (Some before) after =
    after ≡ Some (record before { sent = before.sent ++ sent_by message result })

-- the link was shut; the number of times stops at 2^64 - 1
abbrev pub Shuts : Option Departures → Option Departures → Type 0
Shuts None after = after ≡ None
Shuts (Some before) after =
    after ≡ Some (record before { shuts = min (before.shuts + 1) (2 ^ 64 - 1) })

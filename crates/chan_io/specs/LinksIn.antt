-- The messages that a link receives.
use Rattle.std.specs.Prelude.{◌≡◌, ℕ, Option, Some, None, List, [], ◌∷◌, ◌++◌, drop, Result, Ok, Err}
use Rattle.chan_io.specs.declared.failed.IoFault.{IoFault}
use Rattle.chan_io.specs.declared.got.Got.{Got}

-- what a link that tells its messages has answered (None: it failed), and what is to come
pub record Arrivals : Type 0 where
  pub answered : List (Option Got)
  pub coming : List Got

-- a link in memory: its messages, and how many of its calls failed
pub record MemoryLinkIn : Type 0 where
  pub arrivals : Arrivals
  pub faults : ℕ

-- nothing was answered yet
abbrev pub unheard : List Got → Arrivals
unheard coming = record { answered = []; coming = coming }

-- the first of the messages to come; after the last one, the end of a connection
abbrev pub next_of : List Got → Got
next_of [] = Got.Gone
next_of (got ∷ more) = got

-- this was answered, and so many of the messages to come are gone
abbrev pub answered_with : Option Got → ℕ → Arrivals → Arrivals
answered_with answer count before =
    record { answered = before.answered ++ answer ∷ []; coming = drop count before.coming }

-- the next message was received; a failed receive is answered, and messages that were to come may
-- be lost; at want of memory all stays
abbrev pub Receives : Result Got IoFault → Option Arrivals → Option Arrivals → Type 0
Receives result None after = after ≡ None
Receives (Ok got) (Some before) after =
    (got ≡ next_of before.coming) × (after ≡ Some (answered_with (Some got) 1 before))
Receives (Err IoFault.Failed) (Some before) after =
    (lost : ℕ) × (after ≡ Some (answered_with None lost before))
Receives (Err IoFault.NoMemory) (Some before) after = after ≡ Some before

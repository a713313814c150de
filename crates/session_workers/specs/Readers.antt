-- A step of a link reader: what it has before and after.
use Rattle.std.specs.Prelude.{◌≡◌, ℕ, Bool, true, false, Option, Some, None, List, ◌++◌, Ok, Err}
use Rattle.chan_io.specs.LinksIn.{Arrivals}
use Rattle.chan_io.specs.declared.dial.Dial.{Dial}
use Rattle.chan_io.specs.declared.got.Got.{Got}
use Rattle.chan_values.specs.declared.side.Side.{Side}
use Rattle.channel_core.specs.Arrival.{Arrives}
use Rattle.channel_core.specs.Condition.{IsNumbered}
use Rattle.channel_core.specs.declared.message.Incoming.{Incoming}
use Rattle.channel_core.specs.declared.wire.InRefusal.{InRefusal}
use Rattle.session_run.specs.Adds.{AddsCalls}
use Rattle.session_workers.specs.declared.link_reader.LinkReader.{LinkReader}
use Rattle.session_workers.specs.ReaderSteps.{MayRead, reader_after}
use Rattle.session_workers.specs.Reading.{ReaderStep, arrivals_in, dials_in, failed_in, missed_in, reader_calls, reader_shelf_calls}
use Rattle.session_workers.specs.Writing.{CountsFailures}

-- these dials were made, where they are told
abbrev pub DialsAll : List Dial → Option (List Dial) → Option (List Dial) → Type 0
DialsAll made None after = after ≡ None
DialsAll made (Some before) after = after ≡ Some (before ++ made)

-- these answers were given, where they are told
abbrev pub ReceivesAll : List (Option Got) → Option Arrivals → Option Arrivals → Type 0
ReceivesAll given None after = after ≡ None
ReceivesAll given (Some before) after =
    (coming : List Got)
    × (after ≡ Some (record { answered = before.answered ++ given; coming = coming }))

-- what the bytes of a message say; None where they are refused for another cause than memory
abbrev pub Says : Side → List ℕ → Option Incoming → Type 0
Says side bytes (Some incoming) = Arrives side bytes (Ok incoming) × IsNumbered incoming
Says side bytes None = (refusal : InRefusal) × Arrives side bytes (Err refusal)

-- whether a message was refused for want of memory
abbrev pub wants_memory : InRefusal → Bool
wants_memory InRefusal.NoMemory = true
wants_memory refusal = false

module _ {D N : Type 0} (dials_of : D → Option (List Dial)) (dial_faults : D → ℕ)
    (arrivals_of : N → Option Arrivals) (faults : N → ℕ) where
  -- the reader made this step
  pub record Steps (old : LinkReader D N) (step : ReaderStep) (new : LinkReader D N)
      : Type 0 where
    pub may : MayRead old.setting old.state step
    pub setting : new.setting ≡ old.setting
    pub state : new.state ≡ reader_after old.state step
    -- what it asked of the end and of the shelf
    pub end : AddsCalls old.end (reader_calls step) new.end
    pub shelf : AddsCalls old.shelf (reader_shelf_calls step) new.shelf
    -- what it dialed and received, and how often that failed
    pub dials : DialsAll (dials_in step) (dials_of old.dialer) (dials_of new.dialer)
    pub arrivals :
        ReceivesAll (arrivals_in step) (arrivals_of old.input) (arrivals_of new.input)
    pub missed :
        CountsFailures (missed_in step) (dial_faults old.dialer) (dial_faults new.dialer)
    pub failed : CountsFailures (failed_in step) (faults old.input) (faults new.input)

-- A turn of a connection's reading worker: what it has before and after, and what it comes to.
use Rattle.std.specs.Prelude.{◌≡◌, ℕ, Option, Some, None, Result, Ok, Err, List, []}
use Rattle.chan_io.specs.Faults.{IfFailed, Rises, UnlessFailed}
use Rattle.chan_io.specs.LinksIn.{Arrivals, Receives}
use Rattle.chan_io.specs.declared.failed.IoFault.{IoFault}
use Rattle.chan_io.specs.declared.got.Got.{Got}
use Rattle.relay_core.specs.declared.event.Event.{Event}
use Rattle.session_run.specs.Adds.{AddsCalls}
use Rattle.relay_switch.specs.Switching.{Step}
use Rattle.relay_desk.specs.declared.heard.Heard.{Heard}
use Rattle.relay_desk.specs.declared.inlet.Inlet.{Inlet}
use Rattle.relay_desk.specs.Desks.{DeskStep}
use Rattle.relay_desk.specs.Hearing.{Hearing, MayEnd, MayHear, Stepping, hearing_desk, hearing_end, hearing_switch, is_last_heard, stepping_end, stepping_switch}

-- one turn
pub data Reading : Type 0 where
  -- the receive wanted memory
  starves : Reading
  -- this came, or the receive failed, and this was done with it
  hears : Option Got → Hearing → Reading

-- what the receive was answered
abbrev pub received : Reading → Result Got IoFault
received starves = Err IoFault.NoMemory
received (hears (Some got) hearing) = Ok got
received (hears None hearing) = Err IoFault.Failed

-- what came; a receive that failed is the end of the connection
abbrev pub got_in : Option Got → Got
got_in (Some got) = got
got_in None = Got.Gone

-- it is one that may be made on a connection that was let in as an end of the session
abbrev pub MayRead : {N : Type 0} → Inlet N → Reading → Type 0
MayRead inlet starves = Unit {0}
MayRead inlet (hears came hearing) =
    MayHear inlet.conn inlet.session inlet.role (got_in came) hearing

-- its calls of the desk
abbrev pub reading_desk : List ℕ → Reading → List DeskStep
reading_desk session starves = []
reading_desk session (hears came hearing) = hearing_desk session hearing

-- its calls of the switch
abbrev pub reading_switch : Reading → List Step
reading_switch starves = []
reading_switch (hears came hearing) = hearing_switch hearing

-- what it comes to
abbrev pub reading_end : Reading → Heard
reading_end starves = Heard.NoMemory
reading_end (hears came hearing) = hearing_end hearing

-- the inlet made these calls of the switch, and nothing else changed but whether it is over
pub record Makes {N : Type 0} (old : Inlet N) (calls : List Step) (new : Inlet N) (heard : Heard)
    : Type 0 where
  pub conn : new.conn ≡ old.conn
  pub session : new.session ≡ old.session
  pub role : new.role ≡ old.role
  pub seat : AddsCalls old.seat calls new.seat
  pub over : new.over ≡ is_last_heard heard

-- the inlet stepped an event without a message of its own
pub record StepsEvent {N : Type 0} (old : Inlet N) (event : Event) (made : Heard)
    (stepping : Stepping) (new : Inlet N) (heard : Heard) : Type 0 where
  pub makes : Makes old (stepping_switch event stepping) new heard
  pub input : new.input ≡ old.input
  pub comes : heard ≡ stepping_end made stepping

-- the inlet did this with what came, without a message of its own
pub record Hears {N : Type 0} (old : Inlet N) (got : Got) (hearing : Hearing) (new : Inlet N)
    (heard : Heard) : Type 0 where
  pub may : MayHear old.conn old.session old.role got hearing
  pub makes : Makes old (hearing_switch hearing) new heard
  pub input : new.input ≡ old.input
  pub comes : heard ≡ hearing_end hearing

-- the inlet ended its session: the register failed, or the end was stepped behind that in the register
pub record EndsSession {N : Type 0} (old : Inlet N) (hearing : Hearing) (new : Inlet N)
    (heard : Heard) : Type 0 where
  pub may : MayEnd old.session hearing
  pub makes : Makes old (hearing_switch hearing) new heard
  pub input : new.input ≡ old.input
  pub comes : heard ≡ hearing_end hearing

module _ {N : Type 0} (arrivals : N → Option Arrivals) (faults : N → ℕ) where
  -- the inlet made this turn
  pub record Reads (old : Inlet N) (reading : Reading) (new : Inlet N) (heard : Heard)
      : Type 0 where
    pub may : MayRead old reading
    pub makes : Makes old (reading_switch reading) new heard
    pub input : Receives (received reading) (arrivals old.input) (arrivals new.input)
    pub steady : UnlessFailed (received reading) (faults new.input ≡ faults old.input)
    pub failed : IfFailed (received reading) (Rises (faults old.input) (faults new.input))
    pub comes : heard ≡ reading_end reading

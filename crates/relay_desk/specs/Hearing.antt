-- What a connection's reading worker does with a message that came.
use Rattle.std.specs.Prelude.{◌≡◌, ℕ, Bool, true, false, Option, Some, None, is_some, Result, Ok, Err, List, [], ◌∷◌, ◌++◌, codes, if◌then◌else◌}
use Rattle.chan_io.specs.declared.failed.Failed.{Failed}
use Rattle.chan_io.specs.declared.failed.IoFault.{IoFault}
use Rattle.chan_io.specs.declared.got.Got.{Got}
use Rattle.chan_values.specs.declared.side.Side.{Side}
use Rattle.relay_core.specs.declared.event.Event.{Event}
use Rattle.session_register.specs.Names.{same_name}
use Rattle.session_register.specs.declared.answer.Closing.{Closing}
use Rattle.relay_switch.specs.declared.switch_call.SwitchCall.{SwitchCall}
use Rattle.relay_switch.specs.Kinds.{done_or_not}
use Rattle.relay_switch.specs.Switching.{Step}
use Rattle.relay_desk.specs.declared.desk_call.DeskCall.{DeskCall}
use Rattle.relay_desk.specs.declared.desk_call.DeskAnswer.{DeskAnswer}
use Rattle.relay_desk.specs.declared.heard.Heard.{Heard}
use Rattle.relay_desk.specs.Desks.{DeskStep}

-- the end-of-session text
abbrev pub end_session : List ℕ
end_session = codes "{\"MessageType\":\"end_session\"}"

-- whether this text of an end ends its session: the agent's alone does
abbrev pub ends_session : Side → List ℕ → Bool
ends_session Side.Agent text = same_name text end_session
ends_session Side.Plugin text = false

-- the event due at what came, on a connection that was let in as an end of the session
abbrev pub event_due : ℕ → List ℕ → Side → Got → Option Event
event_due conn session role (Got.Binary bytes) = Some (Event.Binary conn bytes)
event_due conn session role (Got.Text text) =
    if ends_session role text then Some (Event.EndSession session) else None
event_due conn session role Got.Gone = Some (Event.Gone conn)

-- ---- one step of the switch, with a drawn id

pub data Stepping : Type 0 where
  -- the draw failed
  undrawn : Failed → Stepping
  -- the event was stepped with this id at this moment, or there was no memory for it
  steps : List ℕ → ℕ → Bool → Stepping

-- its calls of the desk
abbrev pub stepping_desk : Stepping → List DeskStep
stepping_desk (undrawn fault) = (DeskCall.Draw, DeskAnswer.Draw (Err fault)) ∷ []
stepping_desk (steps id now done) = (DeskCall.Draw, DeskAnswer.Draw (Ok id)) ∷ []

-- its calls of the switch
abbrev pub stepping_switch : Event → Stepping → List Step
stepping_switch event (undrawn fault) = []
stepping_switch event (steps id now done) = (SwitchCall.Step event id now, done_or_not done) ∷ []

-- what it comes to, where a step that is made comes to this
abbrev pub stepping_end : Heard → Stepping → Heard
stepping_end made (undrawn fault) = Heard.Entropy
stepping_end made (steps id now true) = made
stepping_end made (steps id now false) = Heard.NoMemory

-- ---- a message

pub data Hearing : Type 0 where
  -- it is passed over
  passes : Hearing
  -- it ends the session, and the register failed
  unended : IoFault → Hearing
  -- its event was stepped, behind the end of the session in the register where it is one
  goes : Event → Option Closing → Stepping → Hearing

-- whether an event is the end of a session
abbrev pub is_end : Event → Bool
is_end (Event.EndSession session) = true
is_end event = false

-- it is one that may be made at what came
abbrev pub MayHear : ℕ → List ℕ → Side → Got → Hearing → Type 0
MayHear conn session role got passes = event_due conn session role got ≡ None
MayHear conn session role got (unended fault) =
    event_due conn session role got ≡ Some (Event.EndSession session)
MayHear conn session role got (goes event closing stepping) =
    (event_due conn session role got ≡ Some event) × (is_some closing ≡ is_end event)

-- it is one that may be made at the end of the session
abbrev pub MayEnd : List ℕ → Hearing → Type 0
MayEnd session passes = ⊥
MayEnd session (unended fault) = Unit {0}
MayEnd session (goes event closing stepping) =
    (event ≡ Event.EndSession session) × (is_some closing ≡ true)

-- the end of the session in the register
abbrev pub ending : List ℕ → Option Closing → List DeskStep
ending session None = []
ending session (Some closing) = (DeskCall.End session, DeskAnswer.End (Ok closing)) ∷ []

-- its calls of the desk
abbrev pub hearing_desk : List ℕ → Hearing → List DeskStep
hearing_desk session passes = []
hearing_desk session (unended fault) = (DeskCall.End session, DeskAnswer.End (Err fault)) ∷ []
hearing_desk session (goes event closing stepping) =
    ending session closing ++ stepping_desk stepping

-- its calls of the switch
abbrev pub hearing_switch : Hearing → List Step
hearing_switch passes = []
hearing_switch (unended fault) = []
hearing_switch (goes event closing stepping) = stepping_switch event stepping

-- what the step of an event comes to
abbrev pub made_by : Event → Heard
made_by (Event.Binary conn bytes) = Heard.Binary
made_by (Event.EndSession session) = Heard.Ended
made_by event = Heard.Gone

-- what a failure of the register comes to
abbrev pub store_end : IoFault → Heard
store_end IoFault.Failed = Heard.Store
store_end IoFault.NoMemory = Heard.NoMemory

-- what it comes to
abbrev pub hearing_end : Hearing → Heard
hearing_end passes = Heard.Passed
hearing_end (unended fault) = store_end fault
hearing_end (goes event closing stepping) = stepping_end (made_by event) stepping

-- whether it is the last
abbrev pub is_last_heard : Heard → Bool
is_last_heard Heard.Opened = false
is_last_heard Heard.Binary = false
is_last_heard Heard.Ended = false
is_last_heard Heard.Passed = false
is_last_heard heard = true

-- The histories of a switch: a relay with a line of what goes out for each connection.
use Rattle.std.specs.Prelude.{◌≡◌, ◌⊎◌, ℕ, ◌+◌, Bool, true, false, not, ◌&&◌, List, [], ◌∷◌, ◌++◌, drop, nat_eq, nat_lt, if◌then◌else◌}
use Rattle.std.specs.BTreeMap.{is_at}
use Rattle.std.specs.List.{All, fold, list_any}
use Rattle.std.specs.Ordering.{nat_cmp}
use Rattle.channel_core.specs.Call.{with_earlier}
use Rattle.relay_core.specs.declared.action.Action.{Action}
use Rattle.relay_core.specs.declared.event.Event.{Event}
use Rattle.relay_core.specs.Forwarding.{AreNew, actions, openings}
use Rattle.relay_core.specs.Kept.{Kept}
use Rattle.relay_core.specs.Kept as relay
use Rattle.relay_switch.specs.declared.switch_call.SwitchCall.{SwitchCall}
use Rattle.relay_switch.specs.declared.switch_call.SwitchAnswer.{SwitchAnswer}
use Rattle.relay_switch.specs.Lines.{LineState, Lines, bytes_in, empty_line, line_in, to_conn, waiting_in}

-- a call with its answer
abbrev pub Step : Type 0
Step = SwitchCall × SwitchAnswer

-- ---- events

-- whether the event lets in a connection that an earlier one let in
abbrev pub is_repeat : List Event → Event → Bool
is_repeat es (Event.Opened conn session role reply) = list_any (λ c. nat_eq c conn) (openings es)
is_repeat es event = false

-- one step more: its event, where the step was made and lets in no connection a second time
abbrev pub event_added : List Event → Step → List Event
event_added es (SwitchCall.Step event id now, SwitchAnswer.Done) =
    if is_repeat es event then es else es ++ event ∷ []
event_added es step = es

-- the events of a history
unfoldable pub events_of : List Step → List Event
events_of h = fold event_added [] h

-- ---- what waits for a connection

-- the most bytes that may wait when a message is forwarded, that message among them
abbrev pub max_waiting : ℕ
max_waiting = 16777216

abbrev pub is_binary : Event → Bool
is_binary (Event.Binary conn bytes) = true
is_binary event = false

abbrev pub is_drop : Action → Bool
is_drop (Action.Drop conn) = true
is_drop action = false

-- of the actions due at a connection, those that find room behind what waits: a message that is
-- forwarded does not where all that waits would pass the limit with it
abbrev pub admitted : Event → List Action → List Action → List Action
admitted event waiting due =
    if is_binary event && nat_lt max_waiting (bytes_in waiting + bytes_in due) then [] else due

-- whether a connection is open after an event: from the one that lets it in to its loss
abbrev pub open_after : ℕ → Bool → Event → Bool
open_after conn was (Event.Opened c session role reply) = if nat_eq c conn then true else was
open_after conn was (Event.Gone c) = if nat_eq c conn then false else was
open_after conn was event = was

-- the line of a connection after a step that was made, behind these events
abbrev pub line_stepped : ℕ → List Event → LineState → Event → List ℕ → ℕ → LineState
line_stepped conn es line event id now =
    record {
      waiting =
          line.waiting ++ admitted event line.waiting (to_conn conn (actions es id now event));
      is_open = open_after conn line.is_open event;
    }

-- the line without the action that was taken; once its drop was taken the connection is not open
abbrev pub line_taken : LineState → Action → LineState
line_taken line action =
    record { waiting = drop 1 line.waiting; is_open = line.is_open && not (is_drop action) }

-- the line of a connection after one call more
abbrev pub line_after : ℕ → List Event → LineState → Step → LineState
line_after conn es line (SwitchCall.Step event id now, SwitchAnswer.Done) =
    if is_repeat es event then line else line_stepped conn es line event id now
line_after conn es line (SwitchCall.Take c, SwitchAnswer.Next action) =
    if nat_eq c conn then line_taken line action else line
line_after conn es line step = line

-- the line of a connection
unfoldable pub line_of : List Step → ℕ → LineState
line_of h conn = fold (λ line p. line_after conn (events_of p.0) line p.1) empty_line (with_earlier h)

-- ---- which answers there are

abbrev pub answer_by : List Action → Bool → SwitchAnswer
answer_by (action ∷ waiting) is_open = SwitchAnswer.Next action
answer_by [] is_open = if is_open then SwitchAnswer.Nothing else SwitchAnswer.Over

-- the answer that a call is due after these calls; at a step memory may be wanted
abbrev pub IsDue : List Step → SwitchCall → SwitchAnswer → Type 0
IsDue h (SwitchCall.Step event id now) answer =
    (answer ≡ SwitchAnswer.Done) ⊎ (answer ≡ SwitchAnswer.NoMemory)
IsDue h (SwitchCall.Take conn) answer =
    answer ≡ answer_by (line_of h conn).waiting (line_of h conn).is_open

-- each call got an answer that it was due after the calls before it
unfoldable pub IsLegalSwitch : List Step → Type 0
IsLegalSwitch h = All (λ p. IsDue p.0 p.1.0 p.1.1) (with_earlier h)

-- ---- what a switch keeps

pub record SwitchState : Type 0 where
  pub relay : Kept
  -- what waits, and what was added last and stands behind that
  pub lines : Lines
  pub added : List Action
  -- the connections that were let in
  pub opened : List ℕ

-- whether the connection is among these
abbrev pub is_among : List ℕ → ℕ → Bool
is_among conns conn = list_any (is_at (nat_cmp conn)) conns

-- the switch keeps what the history tells
pub record StandsForSwitch (switch : SwitchState) (h : List Step) : Type 0 where
  pub new : AreNew (events_of h)
  pub relay : relay.Stands switch.relay (events_of h)
  pub waiting : (conn : ℕ)
      → waiting_in switch.lines switch.added conn ≡ (line_of h conn).waiting
  pub is_open : (conn : ℕ) → (line_in switch.lines conn).is_open ≡ (line_of h conn).is_open
  pub opened : (conn : ℕ)
      → is_among switch.opened conn ≡ list_any (λ c. nat_eq c conn) (openings (events_of h))

-- one call more: whatever legal history the switch stood for, with this entry it is legal, and the
-- switch stands for it
abbrev pub SwitchFollows : SwitchState → SwitchState → SwitchCall → SwitchAnswer → Type 0
SwitchFollows old new call answer = (h : List Step)
    → IsLegalSwitch h
    → StandsForSwitch old h
    → IsLegalSwitch (h ++ (call, answer) ∷ []) × StandsForSwitch new (h ++ (call, answer) ∷ [])

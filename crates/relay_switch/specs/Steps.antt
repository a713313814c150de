-- How one call changes what a switch keeps.
use Rattle.std.specs.Prelude.{◌≡◌, ◌⊎◌, ℕ, ◌+◌, Bool, true, false, not, ◌&&◌, Option, Some, None, List, [], ◌∷◌, ◌++◌, drop, length, nat_eq, nat_lt, slice_get, if◌then◌else◌}
use Rattle.std.specs.BTreeMap.{is_at}
use Rattle.std.specs.Ordering.{nat_cmp}
use Rattle.relay_core.specs.declared.action.Action.{Action}
use Rattle.relay_core.specs.declared.event.Event.{Event}
use Rattle.relay_core.specs.Forwarding.{IsNew, actions}
use Rattle.relay_core.specs.Kept as relay
use Rattle.relay_switch.specs.declared.switch.Change.{Change}
use Rattle.relay_switch.specs.Lines.{Lines, WaitsSame, bytes_in, line_in, to_conn, waiting_in}
use Rattle.relay_switch.specs.Switching.{SwitchState, is_among, is_binary, is_drop, max_waiting}

-- whether the one message that is forwarded finds no room in its line
abbrev pub overflows : Lines → List Action → Bool
overflows lines (Action.Send conn bytes ∷ []) =
    nat_lt max_waiting (bytes_in (line_in lines conn).waiting + length bytes)
overflows lines told = false

-- what is added: nothing where a forwarded message finds no room
abbrev pub added_by : Bool → Lines → List Action → List Action
added_by forwards lines told = if forwards && overflows lines told then [] else told

-- whether the event lets in one of these connections
abbrev pub is_known : List ℕ → Event → Bool
is_known opened (Event.Opened conn session role reply) = is_among opened conn
is_known opened event = false

-- what the event does to its connection
abbrev pub change_of : Event → Change
change_of (Event.Opened conn session role reply) = Change.Opens conn
change_of (Event.Gone conn) = Change.Loses conn
change_of event = Change.Nothing

-- whether this connection is let in
abbrev pub lets_in : Change → ℕ → Bool
lets_in (Change.Opens conn) c = is_at (nat_cmp conn) c
lets_in change c = false

-- the connections after it
abbrev pub LetsIn : Change → List ℕ → List ℕ → Type 0
LetsIn change old new = (c : ℕ)
    → is_among new c ≡ (if lets_in change c then true else is_among old c)

-- whether a connection is open after it
abbrev pub open_by : Change → ℕ → Bool → Bool
open_by (Change.Opens conn) c was = if is_at (nat_cmp conn) c then true else was
open_by (Change.Loses conn) c was = if is_at (nat_cmp conn) c then false else was
open_by Change.Nothing c was = was

-- the connection that it lets in has a line
abbrev pub HasLine : Change → (ℕ → Type 0) → Type 0
HasLine (Change.Opens conn) Has = Has conn
HasLine change Has = Unit {0}

-- the same waits in each line, and the connections are open that are open after the change
pub record OpensLines (change : Change) (old new : Lines) : Type 0 where
  pub waiting : (c : ℕ) → (line_in new c).waiting ≡ (line_in old c).waiting
  pub is_open : (c : ℕ) → (line_in new c).is_open ≡ open_by change c (line_in old c).is_open

-- by look-ups nothing changed
pub record SameSwitch (old new : SwitchState) : Type 0 where
  pub relay : (es : List Event) → relay.Stands old.relay es → relay.Stands new.relay es
  pub waits : WaitsSame old.lines old.added new.lines new.added
  pub opened : (c : ℕ) → is_among new.opened c ≡ is_among old.opened c

-- a step that was made
pub record Steps (old : SwitchState) (event : Event) (id : List ℕ) (now : ℕ) (new : SwitchState)
    : Type 0 where
  -- what the relay told
  pub told : List Action
  pub follows : (es : List Event) → relay.Stands old.relay es → IsNew es event
      → (told ≡ actions es id now event) × relay.Stands new.relay (es ++ event ∷ [])
  -- what waited before, with all of it in the lines
  pub settled : Lines
  pub before : (c : ℕ) → (line_in settled c).waiting ≡ waiting_in old.lines old.added c
  pub waiting : (c : ℕ) → waiting_in new.lines new.added c
      ≡ (line_in settled c).waiting ++ to_conn c (added_by (is_binary event) settled told)
  pub is_open : (c : ℕ)
      → (line_in new.lines c).is_open ≡ open_by (change_of event) c (line_in old.lines c).is_open
  pub opened : LetsIn (change_of event) old.opened new.opened

-- a step that was made, or one that lets in a connection that is known, at which nothing changes
abbrev pub StepsOrNot : SwitchState → Event → List ℕ → ℕ → SwitchState → Type 0
StepsOrNot old event id now new =
    ((is_known old.opened event ≡ true) × (new ≡ old))
    ⊎ ((is_known old.opened event ≡ false) × Steps old event id now new)

-- whether the connection is dropped
abbrev pub is_dropping : Option Action → Bool
is_dropping None = false
is_dropping (Some action) = is_drop action

-- this is the first action that waits for the connection, if one does, and it left
pub record TakesFirst (old : Lines) (added : List Action) (conn : ℕ) (action : Option Action)
    (new : Lines) (rest : List Action) : Type 0 where
  pub first : action ≡ slice_get (waiting_in old added conn) 0
  pub waiting : (c : ℕ) → waiting_in new rest c
      ≡ (if nat_eq conn c then drop 1 (waiting_in old added c) else waiting_in old added c)
  pub is_open : (c : ℕ) → (line_in new c).is_open ≡ (line_in old c).is_open

-- a take: that action left, and where it is a drop the connection is not open
pub record Takes (old : SwitchState) (conn : ℕ) (action : Option Action) (new : SwitchState)
    : Type 0 where
  pub relay : new.relay ≡ old.relay
  pub opened : new.opened ≡ old.opened
  pub first : action ≡ slice_get (waiting_in old.lines old.added conn) 0
  pub waiting : (c : ℕ) → waiting_in new.lines new.added c
      ≡ (if nat_eq conn c then drop 1 (waiting_in old.lines old.added c)
      else waiting_in old.lines old.added c)
  pub is_open : (c : ℕ) → (line_in new.lines c).is_open
      ≡ (if nat_eq conn c then (line_in old.lines c).is_open && not (is_dropping action)
      else (line_in old.lines c).is_open)

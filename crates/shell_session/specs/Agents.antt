-- The agent's end of a shell session, and what it did of the account that it stands for.
use Rattle.std.specs.Prelude.{◌≡◌, ◌<◌, ◌≤◌, ◌-◌, ℕ, ℤ, Bool, true, false, Option, Some, None, IfSome, is_some, List, [], ◌∷◌, ◌++◌, All, take, ◌⊎◌, cond}
use Rattle.chan_io.specs.Faults.{Rises}
use Rattle.chan_values.specs.declared.item.Item.{Item}
use Rattle.handshake.specs.Agent.{AgentAgrees, AgentRefuses}
use Rattle.handshake.specs.AgentState.{AgentStands, new_agent}
use Rattle.handshake.specs.Items.{completion_item, request_item}
use Rattle.handshake.specs.declared.agent.AgentStage.{AgentStage}
use Rattle.handshake.specs.declared.agreed.Agreed.{Agreed}
use Rattle.handshake.specs.declared.agreed.SessionType.{SessionType}
use Rattle.session_feeds.specs.Sessions.{Account}
use Rattle.session_feeds.specs.declared.feeder.Came.{Came}
use Rattle.session_feeds.specs.declared.session.SessionFault.{SessionFault}
use Rattle.session_run.specs.declared.parcel.Parcel.{Parcel}
use Rattle.shell_session.specs.Children.{ChildState, TookInput}
use Rattle.shell_session.specs.Items.{exit_item, joined, of_type}
use Rattle.shell_session.specs.Parcels.{arrived, behind_first, overs}
use Rattle.shell_session.specs.Readings.{Reading}

pub record ShellAgentState : Type 0 where
  -- the program that it starts
  pub program : List ℕ
  -- what its side of the handshake awaits, and whether the handshake is done
  pub stage : AgentStage
  pub agreed : Bool
  pub begun : Bool
  pub refused : Option SessionFault
  pub starter_faults : ℕ
  -- the child, once it was started
  pub child : Option ChildState
  -- the feeders of the child's output and errors, once they came back
  pub output : Option Reading
  pub errors : Option Reading

-- the session that it asks for
abbrev pub standard : Agreed
standard =
    record {
      session = SessionType.Standard;
      properties = record { local_port = None; port = None; kind = None };
    }

-- a new one
abbrev pub new_shell_agent : List ℕ → ℕ → ShellAgentState
new_shell_agent program faults =
    record {
      program = program;
      stage = new_agent standard;
      agreed = false;
      begun = false;
      refused = None;
      starter_faults = faults;
      child = None;
      output = None;
      errors = None;
    }

-- the mark of a feeder that is out
abbrev pub missing : ℕ → Option Reading → List ℕ
missing mark None = mark ∷ []
missing mark (Some reading) = []

-- the marks of the feeders that are out: of type 1 of the output, and of type 11 of the errors
abbrev pub agent_out : ShellAgentState → List ℕ
agent_out s = cond (is_some s.child) (missing 2 s.output ++ missing 23 s.errors) []

-- how many items of the handshake were put in
abbrev pub steps_made : Bool → Bool → ℕ
steps_made false agreed = 0
steps_made true false = 1
steps_made true true = 2

-- the items that an agent puts in: those of the handshake, as far as it got, and behind them those
-- of the session, once a child is there
pub record IsTalk (s : ShellAgentState) (given : List Item) : Type 0 where
  pub steps : ℕ
  pub asked : ℕ
  pub now : ℕ
  pub rest : List Item
  pub items : given
      ≡ take steps (request_item standard ∷ completion_item asked now ∷ []) ++ rest
  pub exact : s.refused ≡ None → steps ≡ steps_made s.begun s.agreed
  pub early : s.child ≡ None → rest ≡ []
  pub session : All
      (λ item. (item.ptype ≡ 1) ⊎ ((item.ptype ≡ 11) ⊎ (item.ptype ≡ 12))) rest

-- the items of a type that were given are what a feeder read that came back, from the beginning on
abbrev pub IsOfFeeder : ℕ → Option Reading → List Item → Type 0
IsOfFeeder ptype None given = of_type ptype given ≡ []
IsOfFeeder ptype (Some reading) given =
    (of_type ptype given ≡ reading.pieces)
    × IfSome reading.now (λ input. input.given ≡ joined ptype given)

-- the child's status was not asked for, or want of memory or a failed wait came in its place
pub record GaveNoStatus (s : ShellAgentState) (a : Account ℕ) : Type 0 where
  pub items : of_type 12 a.given ≡ []
  pub early : s.refused ≡ None → overs (behind_first a.taken) < 2
  pub unasked : s.refused ≡ None → IfSome s.child
      (λ c. IfSome c.statuses (λ statuses. statuses ≡ []))

-- the status that the child's end answered was given, behind the ends of both feeders
pub record GaveStatus (s : ShellAgentState) (a : Account ℕ) : Type 0 where
  pub status : ℤ
  pub items : of_type 12 a.given ≡ exit_item status ∷ []
  pub child : ChildState
  pub is : s.child ≡ Some child
  pub answered : IfSome child.statuses (λ statuses. statuses ≡ status ∷ [])
  pub ends : 2 ≤ overs (behind_first a.taken)

-- why a call was refused: by an item that the handshake refuses, or where the count of faults rose
-- of the starter, or of the child's end
abbrev pub IsAgentFault : SessionFault → ShellAgentState → Account ℕ → Type 0
IsAgentFault (SessionFault.Handshake why) s a = AgentRefuses (arrived a.taken) why
IsAgentFault SessionFault.Start s a = Rises a.contents s.starter_faults
IsAgentFault SessionFault.Child s a =
    (c : ChildState) × (s.child ≡ Some c) × Rises 0 c.end_faults
IsAgentFault SessionFault.NoMemory s a = Unit {0}
IsAgentFault fault s a = ⊥

-- a feeder that came back, with how it came to its end
abbrev pub IsBack : ShellAgentState → ℕ × Option Came → Type 0
IsBack s back =
    ((reading : Reading) × (s.output ≡ Some reading) × (back ≡ (2, reading.came)))
    ⊎ ((reading : Reading) × (s.errors ≡ Some reading) × (back ≡ (23, reading.came)))

-- this stands in the list
abbrev pub IsAmong : {X : Type 0} → X → List X → Type 0
IsAmong {X} x xs = (before : List X) × (after : List X) × (xs ≡ before ++ x ∷ after)

-- a child of the session: what its input took behind the handshake, and how many outputs are fed
pub record IsChild (s : ShellAgentState) (taken : List Parcel) (c : ChildState) : Type 0 where
  pub agreed : s.agreed ≡ true
  pub input : TookInput (behind_first taken) c
  pub feeding : c.feeding ≡ 2 - overs (behind_first taken)

-- what the agent did of this account, of which the contents are how many starts had failed at first
pub record AgentStandsFor (s : ShellAgentState) (a : Account ℕ) : Type 0 where
  -- nothing was taken before it begins
  pub fresh : s.begun ≡ false
      → (s.stage ≡ new_agent standard) × (s.agreed ≡ false) × (s.refused ≡ None) × (a.taken ≡ [])
  -- the handshake: no item has arrived, or the first made it done
  pub asks : s.begun ≡ true → s.refused ≡ None → s.agreed ≡ false
      → (arrived a.taken ≡ []) × ((asked : ℕ) × AgentStands standard asked s.stage [])
  pub agrees : s.agreed ≡ true → AgentAgrees (arrived a.taken)
  -- the child, which is there once the handshake is done
  pub started : s.refused ≡ None → is_some s.child ≡ s.agreed
  pub child : IfSome s.child (IsChild s a.taken)
  -- what was given
  pub talk : IsTalk s a.given
  pub output : IsOfFeeder 1 s.output a.given
  pub errors : IsOfFeeder 11 s.errors a.given
  pub status : GaveNoStatus s a ⊎ GaveStatus s a
  -- the feeders that came back are those that are here
  pub back : All (IsBack s) a.back
  pub output_back : IfSome s.output (λ reading. IsAmong (2, reading.came) a.back)
  pub errors_back : IfSome s.errors (λ reading. IsAmong (23, reading.came) a.back)
  -- why it was refused
  pub fault : IfSome s.refused (λ fault. IsAgentFault fault s a)
  pub counted : a.contents ≤ s.starter_faults

-- the fault of one call: the count rose in it of the starter, or of the child's end
abbrev pub IsRaised : SessionFault → ShellAgentState → ShellAgentState → Type 0
IsRaised (SessionFault.Handshake why) old new = Unit {0}
IsRaised SessionFault.Start old new = Rises old.starter_faults new.starter_faults
IsRaised SessionFault.Child old new =
    (b : ChildState) × (c : ChildState) × (old.child ≡ Some b) × (new.child ≡ Some c)
    × Rises b.end_faults c.end_faults
IsRaised SessionFault.NoMemory old new = Unit {0}
IsRaised fault old new = ⊥

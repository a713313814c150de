-- What an agent keeps, and the items that it stands for.
use Rattle.std.specs.Prelude.{◌≡◌, ◌≢◌, ◌≤◌, ℕ, Bool, true, false, List, [], length}
use Rattle.chan_values.specs.Limits.{max_payload}
use Rattle.chan_values.specs.declared.item.Item.{Item}
use Rattle.json_members.specs.declared.body_fault.BodyFault.{BodyFault}
use Rattle.json_bodies.specs.HandshakeRequest.{request_text}
use Rattle.handshake.specs.Agent.{AgentAgrees, AgentRefuses, IsAgentStep}
use Rattle.handshake.specs.Items.{request_item}
use Rattle.handshake.specs.Sessions.{request_for}
use Rattle.handshake.specs.Steps.{items_after}
use Rattle.handshake.specs.declared.agent.AgentStage.{AgentStage}
use Rattle.handshake.specs.declared.agreed.Agreed.{Agreed}
use Rattle.handshake.specs.declared.step.Step.{Step}
use Rattle.handshake.specs.declared.step.Why.{Why}

-- whether the request was asked
abbrev pub is_asked : AgentStage → Bool
is_asked (AgentStage.Unasked choice) = false
is_asked stage = true

-- a new agent, which will ask for this session
abbrev pub new_agent : Agreed → AgentStage
new_agent choice = AgentStage.Unasked choice

-- the request for the session fits a message
abbrev pub IsShort : Agreed → Type 0
IsShort choice = length (request_text (request_for choice)) ≤ max_payload

-- the request that is to come fits a message, and a kept refusal is not want of memory
abbrev pub IsSoundAgent : AgentStage → Type 0
IsSoundAgent (AgentStage.Unasked choice) = IsShort choice
IsSoundAgent (AgentStage.Refused why) = why ≢ Why.Body BodyFault.NoMemory
IsSoundAgent stage = Unit {0}

-- an agent that asked for the session at a moment keeps what the items given since tell
abbrev pub AgentStands : Agreed → ℕ → AgentStage → List Item → Type 0
AgentStands choice asked (AgentStage.Unasked session) given = ⊥
AgentStands choice asked (AgentStage.ExpectResponse session moment) given =
    (given ≡ []) × (session ≡ choice) × (moment ≡ asked)
AgentStands choice asked AgentStage.Done given = AgentAgrees given
AgentStands choice asked (AgentStage.Refused why) given = AgentRefuses given why

-- the request is asked now: its item, and an agent that stands for no items
pub record Asks (choice : Agreed) (now : ℕ) (item : Item) (agent : AgentStage) : Type 0 where
  pub request : item ≡ request_item choice
  pub stands : AgentStands choice now agent []
  pub asked : is_asked agent ≡ true

-- one item more: whatever items the agent stood for, the step is the one behind them, and the
-- agent stands for them with this one
abbrev pub AgentFollows : AgentStage → AgentStage → Item → ℕ → Step → Type 0
AgentFollows old new item now step =
    (choice : Agreed) (asked : ℕ) (given : List Item)
    → AgentStands choice asked old given
    → IsAgentStep choice asked given item now step
    × AgentStands choice asked new (items_after given item step)

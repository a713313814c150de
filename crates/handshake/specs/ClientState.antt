-- What a client keeps, and the items that it stands for.
use Rattle.std.specs.Prelude.{◌≡◌, ◌≢◌, ℕ, Option, Some, None, List, [], ◌∷◌, ◌++◌}
use Rattle.chan_values.specs.declared.item.Item.{Item}
use Rattle.json_bodies.specs.declared.handshake_request.HandshakeRequest.{HandshakeRequest}
use Rattle.json_members.specs.declared.body_fault.BodyFault.{BodyFault}
use Rattle.handshake.specs.Client.{ClientAgrees, ClientRefuses, IsClientStep, IsRequest}
use Rattle.handshake.specs.Sessions.{agreed_session}
use Rattle.handshake.specs.Steps.{items_after}
use Rattle.handshake.specs.declared.agreed.Agreed.{Agreed}
use Rattle.handshake.specs.declared.client.ClientStage.{ClientStage}
use Rattle.handshake.specs.declared.step.Step.{Step}
use Rattle.handshake.specs.declared.step.Why.{Why}

-- a client, as contracts see it
pub record ClientState : Type 0 where
  -- the version that its response tells
  pub version : List ℕ
  -- what is awaited
  pub stage : ClientStage

-- what is awaited behind a request, by the session that it is agreed on
abbrev pub stage_behind : Option Agreed → ClientStage
stage_behind None = ClientStage.Refused Why.NoSession
stage_behind (Some agreed) = ClientStage.ExpectComplete agreed

-- a kept refusal is not want of memory
abbrev pub IsSoundStage : ClientStage → Type 0
IsSoundStage (ClientStage.Refused why) = why ≢ Why.Body BodyFault.NoMemory
IsSoundStage stage = Unit {0}

-- what is awaited behind these items; once one is refused, so is each list that goes on
abbrev pub IsClientStage : List ℕ → ClientStage → List Item → Type 0
IsClientStage version ClientStage.ExpectRequest given = given ≡ []
IsClientStage version (ClientStage.ExpectComplete agreed) given =
    (first : Item) × (given ≡ first ∷ [])
    × ((request : HandshakeRequest) × IsRequest version first request
    × (agreed_session request ≡ Some agreed))
IsClientStage version ClientStage.Done given = (agreed : Agreed) × ClientAgrees version given agreed
IsClientStage version (ClientStage.Refused why) given =
    (item : Item) → ClientRefuses version (given ++ item ∷ []) why

-- a client with this version keeps what the items given so far tell
pub record ClientStands (version : List ℕ) (client : ClientState) (given : List Item) : Type 0 where
  pub told : client.version ≡ version
  pub kept : IsClientStage version client.stage given

-- one item more: whatever items the client stood for, the step is the one behind them, and the
-- client stands for them with this one
abbrev pub ClientFollows : ClientState → ClientState → Item → Step → Type 0
ClientFollows old new item step =
    (version : List ℕ) (given : List Item)
    → ClientStands version old given
    → IsClientStep version given item step × ClientStands version new (items_after given item step)

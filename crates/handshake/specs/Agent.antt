-- The agent's side: a response is awaited, and what follows belongs to the session.
use Rattle.std.specs.Prelude.{◌≡◌, ◌≢◌, ◌⊎◌, ℕ, Option, Some, None, List, [], ◌∷◌, ◌++◌}
use Rattle.chan_values.specs.declared.item.Item.{Item}
use Rattle.json_bodies.specs.HandshakeResponse.{IsResponseBody, response_faults}
use Rattle.json_bodies.specs.Reading.{Shows}
use Rattle.json_bodies.specs.declared.handshake_response.HandshakeResponse.{HandshakeResponse}
use Rattle.handshake.specs.Items.{IsOther, completion_item}
use Rattle.handshake.specs.Sessions.{session_status}
use Rattle.handshake.specs.declared.agreed.Agreed.{Agreed}
use Rattle.handshake.specs.declared.step.Step.{Step}
use Rattle.handshake.specs.declared.step.Why.{Why}

-- ---- the first item

-- it is a response by which the session succeeded
pub record IsConsent (item : Item) : Type 0 where
  pub typed : item.ptype ≡ 6
  pub response : HandshakeResponse
  pub body : IsResponseBody item.payload response
  pub success : session_status response ≡ Some 1

-- what is wrong with the status of a session
abbrev pub IsFailure : Option ℕ → Why → Type 0
IsFailure None why = why ≡ Why.NoSession
IsFailure (Some status) why = (status ≢ 1) × (why ≡ Why.Failed status)

-- it is a response by which the session did not succeed
pub record IsRejection (item : Item) (why : Why) : Type 0 where
  pub typed : item.ptype ≡ 6
  pub response : HandshakeResponse
  pub body : IsResponseBody item.payload response
  pub failure : IsFailure (session_status response) why

-- why it is refused
abbrev pub IsNoConsent : Item → Why → Type 0
IsNoConsent item why = IsOther 6 (Shows response_faults) item why ⊎ IsRejection item why

-- ---- the items given so far

-- they begin with a response by which the session succeeded
abbrev pub AgentAgrees : List Item → Type 0
AgentAgrees [] = ⊥
AgentAgrees (first ∷ items) = IsConsent first

-- the first is refused
abbrev pub AgentRefuses : List Item → Why → Type 0
AgentRefuses [] why = ⊥
AgentRefuses (first ∷ items) why = IsNoConsent first why

-- the step with an item now, behind the items given before, of an agent that asked for a session
abbrev pub IsAgentStep : Agreed → ℕ → List Item → Item → ℕ → Step → Type 0
IsAgentStep choice asked before item now (Step.Finish out agreed) =
    (before ≡ []) × IsConsent item × (out ≡ completion_item asked now) × (agreed ≡ choice)
IsAgentStep choice asked before item now (Step.Pass back) = (back ≡ item) × AgentAgrees before
IsAgentStep choice asked before item now (Step.Refused why) = AgentRefuses (before ++ item ∷ []) why
IsAgentStep choice asked before item now (Step.NoMemory back) = back ≡ item
IsAgentStep choice asked before item now (Step.Put out) = ⊥
IsAgentStep choice asked before item now (Step.Done agreed) = ⊥

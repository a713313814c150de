-- The client's side: a request and then its completion are awaited, and what follows belongs to
-- the session.
use Rattle.std.specs.Prelude.{◌≡◌, ◌⊎◌, ◌<◌, ◌≤◌, ℕ, Option, Some, None, List, [], ◌∷◌, ◌++◌, length}
use Rattle.chan_values.specs.Limits.{max_payload}
use Rattle.chan_values.specs.declared.item.Item.{Item}
use Rattle.json_bodies.specs.HandshakeComplete.{IsCompleteBody, complete_faults}
use Rattle.json_bodies.specs.HandshakeRequest.{IsRequestBody, request_faults}
use Rattle.json_bodies.specs.HandshakeResponse.{response_text}
use Rattle.json_bodies.specs.Reading.{Shows}
use Rattle.json_bodies.specs.declared.handshake_complete.HandshakeComplete.{HandshakeComplete}
use Rattle.json_bodies.specs.declared.handshake_request.HandshakeRequest.{HandshakeRequest}
use Rattle.json_members.specs.declared.body_fault.BodyFault.{BodyFault}
use Rattle.json_members.specs.declared.member.Member.TheVariants as member
use Rattle.handshake.specs.Items.{IsOther, response_item}
use Rattle.handshake.specs.Sessions.{agreed_session, response_to}
use Rattle.handshake.specs.declared.agreed.Agreed.{Agreed}
use Rattle.handshake.specs.declared.step.Step.{Step}
use Rattle.handshake.specs.declared.step.Why.{Why}

-- ---- the first item

-- it is a request whose response an item can carry
pub record IsRequest (version : List ℕ) (item : Item) (request : HandshakeRequest) : Type 0 where
  pub typed : item.ptype ≡ 5
  pub body : IsRequestBody item.payload request
  pub short : length (response_text (response_to version request)) ≤ max_payload

-- it is a request whose response no item can carry, which is told as a fault of its actions
pub record IsTooLong (version : List ℕ) (item : Item) (why : Why) : Type 0 where
  pub typed : item.ptype ≡ 5
  pub request : HandshakeRequest
  pub body : IsRequestBody item.payload request
  pub long : max_payload < length (response_text (response_to version request))
  pub told : why ≡ Why.Body (BodyFault.Range member.RequestedClientActions)

-- why it is refused
abbrev pub IsNoRequest : List ℕ → Item → Why → Type 0
IsNoRequest version item why =
    IsOther 5 (Shows request_faults) item why ⊎ IsTooLong version item why

-- ---- the second item

-- it is the completion
pub record IsCompletion (item : Item) : Type 0 where
  pub typed : item.ptype ≡ 7
  pub complete : HandshakeComplete
  pub body : IsCompleteBody item.payload complete

-- why it is refused, by the session that is agreed on: whatever it is, where there is none
abbrev pub IsNoCompletion : Option Agreed → Item → Why → Type 0
IsNoCompletion None item why = why ≡ Why.NoSession
IsNoCompletion (Some agreed) item why = IsOther 7 (Shows complete_faults) item why

-- ---- the items given so far

-- they begin with a request and its completion, and this session is agreed on
abbrev pub ClientAgrees : List ℕ → List Item → Agreed → Type 0
ClientAgrees version (first ∷ second ∷ items) agreed =
    (request : HandshakeRequest) × IsRequest version first request
    × (agreed_session request ≡ Some agreed) × IsCompletion second
ClientAgrees version items agreed = ⊥

-- the first is refused, or the second behind a request
abbrev pub ClientRefuses : List ℕ → List Item → Why → Type 0
ClientRefuses version [] why = ⊥
ClientRefuses version (first ∷ []) why = IsNoRequest version first why
ClientRefuses version (first ∷ second ∷ items) why =
    IsNoRequest version first why
    ⊎ ((request : HandshakeRequest) × IsRequest version first request
    × IsNoCompletion (agreed_session request) second why)

-- the step with an item, behind the items given before
abbrev pub IsClientStep : List ℕ → List Item → Item → Step → Type 0
IsClientStep version before item (Step.Put out) =
    (before ≡ [])
    × ((request : HandshakeRequest) × IsRequest version item request
    × (out ≡ response_item version request))
IsClientStep version before item (Step.Done agreed) =
    (length before ≡ 1) × ClientAgrees version (before ++ item ∷ []) agreed
IsClientStep version before item (Step.Pass back) =
    (back ≡ item) × ((agreed : Agreed) × ClientAgrees version before agreed)
IsClientStep version before item (Step.Refused why) =
    ClientRefuses version (before ++ item ∷ []) why
IsClientStep version before item (Step.NoMemory back) = back ≡ item
IsClientStep version before item (Step.Finish out agreed) = ⊥

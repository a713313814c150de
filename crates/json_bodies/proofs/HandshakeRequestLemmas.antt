-- A handshake request: no object gives two, and what is written gives it back.
use Rattle.std.proofs.Common.{◌≡◌, [], All, IsUtf8, flat_map, refl}
use Rattle.std.proofs.lemmas.List.Elements.{All-map, All-weaker}
use Rattle.serde_json.specs.Data.{Data}
use Rattle.json_bodies.specs.declared.handshake_request.HandshakeRequest.{HandshakeRequest}
use Rattle.json_members.specs.declared.member.Member.TheVariants.{RequestedClientActions}
use Rattle.json_bodies.specs.Action.{GivesAction, IsInRangeAction, IsTypedAction, action_faults, action_fields}
use Rattle.json_bodies.specs.HandshakeRequest.{GivesRequest, IsInRangeRequest, request_faults, request_fields}
use Rattle.json_members.specs.Object.{object_with}
use Rattle.json_members.specs.Members.{objects_at}
use Rattle.json_bodies.proofs.ActionLemmas.{IsKept-action, action_given, action_table}
use Rattle.json_bodies.proofs.KeptLemmas.{AreKept, IsKept, IsKept-array, IsKept-string}
use Rattle.json_bodies.proofs.NestedLemmas.{all_faultless, all_given, all_same, found_faultless, found_same, objects_at-written}
use Rattle.json_bodies.proofs.ReadingLemmas.{IsForm, IsTable}

same : (body : Data) (a b : HandshakeRequest) → GivesRequest body a → GivesRequest body b → a ≡ b
same body a b g h =
    let agent_version : a.agent_version ≡ b.agent_version = cc (g.agent_version, h.agent_version) in
    let actions : a.actions ≡ b.actions = found_same (objects_at body RequestedClientActions) a.actions b.actions g.actions h.actions
    (λ list. all_same GivesAction action_table.same list a.actions b.actions) in
    λ i. record { agent_version = agent_version i; actions = actions i }

faultless : (body : Data) (request : HandshakeRequest) → GivesRequest body request → request_faults body ≡ []
faultless body request g =
    rw (
      g.agent_version,
      found_faultless (flat_map action_faults) (objects_at body RequestedClientActions) g.actions
          (λ list. all_faultless GivesAction action_faults action_table.faultless list request.actions),
    ) refl

pub request_table : IsTable GivesRequest request_faults
request_table = record { same = same; faultless = faultless }

-- the texts of a request
pub record IsTypedRequest (request : HandshakeRequest) : Type 0 where
  pub agent_version : IsUtf8 request.agent_version
  pub actions : All IsTypedAction request.actions

kept : (request : HandshakeRequest) → IsTypedRequest request → AreKept 126 (request_fields request)
unfolding request_fields
kept request typed =
    let each = All-weaker IsTypedAction (λ action. IsKept 125 (object_with (action_fields action))) (IsKept-action 122) request.actions typed.actions in
    let objects = All-map (IsKept 125) (λ action. object_with (action_fields action)) request.actions each in
    (IsKept-string _ _ typed.agent_version, (IsKept-array 125 _ objects, tt))

gives : (request : HandshakeRequest) → IsInRangeRequest request → GivesRequest (object_with (request_fields request)) request
unfolding request_fields
gives request range =
    let list = objects_at-written action_fields request.actions (object_with (request_fields request)) RequestedClientActions refl in
    record {
      agent_version = refl;
      actions = rw list (all_given GivesAction (λ action. object_with (action_fields action)) IsInRangeAction action_given request.actions range);
    }

pub request_form : IsForm GivesRequest request_fields IsTypedRequest IsInRangeRequest
unfolding request_fields
request_form = record { order = λ request. refl; kept = kept; gives = λ request typed. gives request }

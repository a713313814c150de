-- A handshake response: no object gives two, and what is written gives it back.
use Rattle.std.proofs.Common.{◌≡◌, [], All, IsUtf8, flat_map, refl}
use Rattle.std.proofs.lemmas.List.Elements.{All-map, All-weaker}
use Rattle.serde_json.specs.Data.{Data, string}
use Rattle.json_bodies.specs.declared.handshake_response.HandshakeResponse.{HandshakeResponse}
use Rattle.json_members.specs.declared.member.Member.TheVariants.{Errors, ProcessedClientActions}
use Rattle.json_bodies.specs.HandshakeResponse.{GivesResponse, IsInRangeResponse, response_faults, response_fields}
use Rattle.json_members.specs.Object.{object_with}
use Rattle.json_bodies.specs.Processed.{GivesProcessed, IsInRangeProcessed, IsTypedProcessed, processed_faults, processed_fields}
use Rattle.json_members.specs.Members.{objects_at}
use Rattle.json_bodies.proofs.KeptLemmas.{AreKept, IsKept, IsKept-array, IsKept-string}
use Rattle.json_bodies.proofs.NestedLemmas.{all_faultless, all_given, all_same, found_faultless, found_same, objects_at-written, texts_at-written}
use Rattle.json_bodies.proofs.ProcessedLemmas.{IsKept-processed, processed_given, processed_table}
use Rattle.json_bodies.proofs.ReadingLemmas.{IsForm, IsTable}

same : (body : Data) (a b : HandshakeResponse) → GivesResponse body a → GivesResponse body b → a ≡ b
same body a b g h =
    let client_version : a.client_version ≡ b.client_version = cc (g.client_version, h.client_version) in
    let errors : a.errors ≡ b.errors = cc (g.errors, h.errors) in
    let actions : a.actions ≡ b.actions = found_same (objects_at body ProcessedClientActions) a.actions b.actions g.actions h.actions
    (λ list. all_same GivesProcessed processed_table.same list a.actions b.actions) in
    λ i. record { client_version = client_version i; errors = errors i; actions = actions i }

faultless : (body : Data) (response : HandshakeResponse) → GivesResponse body response → response_faults body ≡ []
faultless body response g =
    rw (
      g.client_version,
      g.errors,
      found_faultless (flat_map processed_faults) (objects_at body ProcessedClientActions) g.actions
          (λ list. all_faultless GivesProcessed processed_faults processed_table.faultless list response.actions),
    ) refl

pub response_table : IsTable GivesResponse response_faults
response_table = record { same = same; faultless = faultless }

-- the texts and numbers of a response
pub record IsTypedResponse (response : HandshakeResponse) : Type 0 where
  pub client_version : IsUtf8 response.client_version
  pub errors : All IsUtf8 response.errors
  pub actions : All IsTypedProcessed response.actions

kept : (response : HandshakeResponse) → IsTypedResponse response → AreKept 126 (response_fields response)
unfolding response_fields
kept response typed =
    let texts = All-map (IsKept 125) string response.errors
    (All-weaker IsUtf8 (λ text. IsKept 125 (string text)) (IsKept-string 125) response.errors typed.errors) in
    let each = All-weaker IsTypedProcessed (λ action. IsKept 125 (object_with (processed_fields action))) (IsKept-processed 124) response.actions typed.actions in
    let objects = All-map (IsKept 125) (λ action. object_with (processed_fields action)) response.actions each in
    (IsKept-string _ _ typed.client_version, (IsKept-array 125 _ texts, (IsKept-array 125 _ objects, tt)))

gives : (response : HandshakeResponse) → IsInRangeResponse response → GivesResponse (object_with (response_fields response)) response
unfolding response_fields
gives response range =
    let list = objects_at-written processed_fields response.actions (object_with (response_fields response)) ProcessedClientActions refl in
    record {
      client_version = refl;
      errors = texts_at-written response.errors (object_with (response_fields response)) Errors refl;
      actions = rw list (all_given GivesProcessed (λ action. object_with (processed_fields action)) IsInRangeProcessed processed_given response.actions range);
    }

pub response_form : IsForm GivesResponse response_fields IsTypedResponse IsInRangeResponse
unfolding response_fields
response_form = record { order = λ response. refl; kept = kept; gives = λ response typed. gives response }

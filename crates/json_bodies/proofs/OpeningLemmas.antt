-- An opening: no object gives two, and what is written gives it back.
use Rattle.std.specs.Prelude.{⊤}
use Rattle.std.proofs.Common.{◌≡◌, refl}
use Rattle.serde_json.specs.Data.{Data}
use Rattle.json.proofs.Printed.Utf8.{IsUtf8-are_ascii}
use Rattle.json_bodies.specs.declared.opening.Opening.{Opening}
use Rattle.json_members.specs.declared.member.Member.TheVariants.{ClientId, ClientVersion, MessageSchemaVersion, RequestId, TokenValue}
use Rattle.json_members.specs.Object.{object_with}
use Rattle.json_bodies.specs.Opening.{GivesOpening, opening_faults, opening_fields, IsWritableOpening, schema_version}
use Rattle.json_bodies.proofs.KeptLemmas.{AreKept, IsKept-string, kept_string_if}
use Rattle.json_bodies.proofs.MemberLemmas.{text_at-found, optional_text_at-found, fixed_text_at-found}
use Rattle.json_bodies.proofs.ReadingLemmas.{IsTable, IsForm}

same : (body : Data) (a b : Opening) → GivesOpening body a → GivesOpening body b → a ≡ b
same body a b g h =
    let client_id : a.client_id ≡ b.client_id = cc (g.client_id, h.client_id) in
    let client_version : a.client_version ≡ b.client_version = cc (g.client_version, h.client_version) in
    let request_id : a.request_id ≡ b.request_id = cc (g.request_id, h.request_id) in
    let token : a.token ≡ b.token = cc (g.token, h.token) in
    λ i. record {
      client_id = client_id i;
      client_version = client_version i;
      request_id = request_id i;
      token = token i;
    }

pub opening_table : IsTable GivesOpening opening_faults
opening_table = record {
  same = same;
  faultless = λ body opening g.
      rw (g.client_id, g.client_version, g.schema, g.request_id, g.token) refl;
}

kept : (opening : Opening) → IsWritableOpening opening → AreKept 126 (opening_fields opening)
unfolding opening_fields
kept opening w = (
  IsKept-string _ _ w.client_id,
  (
    kept_string_if _ opening.client_version w.client_version,
    (
      IsKept-string _ _ (IsUtf8-are_ascii schema_version refl),
      (
        IsKept-string _ _ w.request_id,
        (IsKept-string _ _ w.token, tt),
      ),
    ),
  ),
)

gives : (opening : Opening) → GivesOpening (object_with (opening_fields opening)) opening
unfolding opening_fields
gives opening = record {
  client_id = text_at-found (opening_fields opening) ClientId opening.client_id refl;
  client_version = optional_text_at-found (opening_fields opening) ClientVersion opening.client_version refl;
  schema = fixed_text_at-found (opening_fields opening) MessageSchemaVersion schema_version refl refl;
  request_id = text_at-found (opening_fields opening) RequestId opening.request_id refl;
  token = text_at-found (opening_fields opening) TokenValue opening.token refl;
}

pub opening_form : IsForm GivesOpening opening_fields IsWritableOpening (λ _. ⊤)
unfolding opening_fields
opening_form = record { order = λ opening. refl; kept = kept; gives = λ opening w _. gives opening }

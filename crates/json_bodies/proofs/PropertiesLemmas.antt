-- The properties of a session: no object gives two, and what is written gives them back.
use Rattle.std.proofs.Common.{◌≡◌, ℕ, ◌+◌, refl}
use Rattle.serde_json.specs.Data.{Data}
use Rattle.json_bodies.specs.declared.properties.Properties.{Properties}
use Rattle.json_members.specs.declared.member.Member.TheVariants.{LocalPortNumber, PortNumber, Type_}
use Rattle.json_members.specs.Object.{object_with}
use Rattle.json_bodies.specs.Properties.{GivesProperties, properties_faults, properties_fields, IsWritableProperties}
use Rattle.json_bodies.proofs.KeptLemmas.{IsKept, IsKept-object_with, kept_string_if}
use Rattle.json_bodies.proofs.MemberLemmas.{optional_text_at-found}
use Rattle.json_bodies.proofs.ReadingLemmas.{IsTable}

same : (body : Data) (a b : Properties) → GivesProperties body a → GivesProperties body b → a ≡ b
same body a b g h =
    let local_port : a.local_port ≡ b.local_port = cc (g.local_port, h.local_port) in
    let port : a.port ≡ b.port = cc (g.port, h.port) in
    let kind : a.kind ≡ b.kind = cc (g.kind, h.kind) in
    λ i. record { local_port = local_port i; port = port i; kind = kind i }

pub properties_table : IsTable GivesProperties properties_faults
properties_table = record {
  same = same;
  faultless = λ body properties g. rw (g.local_port, g.port, g.kind) refl;
}

pub IsKept-properties : (n : ℕ) (properties : Properties) → IsWritableProperties properties → IsKept (n + 1) (object_with (properties_fields properties))
unfolding properties_fields
IsKept-properties n properties w =
    IsKept-object_with n (properties_fields properties) refl (
      kept_string_if n properties.local_port w.local_port,
      (
        kept_string_if n properties.port w.port,
        (kept_string_if n properties.kind w.kind, tt),
      ),
    )

pub properties_given : (properties : Properties) → GivesProperties (object_with (properties_fields properties)) properties
unfolding properties_fields
properties_given properties = record {
  local_port = optional_text_at-found (properties_fields properties) LocalPortNumber properties.local_port refl;
  port = optional_text_at-found (properties_fields properties) PortNumber properties.port refl;
  kind = optional_text_at-found (properties_fields properties) Type_ properties.kind refl;
}

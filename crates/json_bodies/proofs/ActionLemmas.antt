-- A requested action: no object gives two, and what is written gives it back.
use Rattle.std.proofs.Common.{◌≡◌, ℕ, ◌+◌, List, [], false, refl, ap, ◌∙◌, true≢false}
use Rattle.serde_json.specs.Data.{Data}
use Rattle.json.proofs.Printed.Utf8.{IsUtf8-are_ascii}
use Rattle.json_bodies.specs.declared.action.Action.{Action}
use Rattle.json_bodies.specs.declared.action.Action.TheVariants.{Session, Other}
use Rattle.json_members.specs.declared.member.Member.TheVariants as member
use Rattle.json_bodies.specs.declared.properties.Properties.{Properties}
use Rattle.json_bodies.specs.Action.{GivesAction, GivesParameters, IsInRangeAction, IsTypedAction, action_faults, action_fields, parameters_faults, parameters_fields, session_action}
use Rattle.json_members.specs.Object.{object_with}
use Rattle.json_bodies.specs.Properties.{properties_faults}
use Rattle.json_members.specs.Members.{object_at, object_or_empty_at, same_text}
use Rattle.json_bodies.proofs.KeptLemmas.{IsKept, IsKept-object_with, IsKept-string}
use Rattle.json_bodies.proofs.NestedLemmas.{found_same, found_faultless}
use Rattle.json_bodies.proofs.PropertiesLemmas.{IsKept-properties, properties_given, properties_table}
use Rattle.json_bodies.proofs.ReadingLemmas.{IsTable}

-- ---- no object gives two

same_session : (body : Data) (n m : List ℕ) (p q : Properties) → GivesParameters body n p → GivesParameters body m q → Session n p ≡ Session m q
same_session body n m p q g h =
    let name : n ≡ m = cc (g.name, h.name) in
    let properties = found_same (object_or_empty_at body member.Properties) p q g.properties h.properties (λ object. properties_table.same object p q) in
    λ i. Session (name i) (properties i)

not_other : (name : List ℕ) → session_action ≡ name → same_text name session_action ≡ false → ⊥
not_other name is other = true≢false (ap (λ text. same_text text session_action) is ∙ other)

same : (body : Data) (a b : Action) → GivesAction body a → GivesAction body b → a ≡ b
same body (Session n p) (Session m q) g h =
    found_same (object_at body member.ActionParameters) (Session n p) (Session m q) g.1 h.1 (λ parameters. same_session parameters n m p q)
same body (Session n p) (Other m) g h =
    let is : session_action ≡ m = cc (g.0, h.0) in absurd (not_other m is h.1)
same body (Other n) (Session m q) g h =
    let is : session_action ≡ n = cc (g.0, h.0) in absurd (not_other n is g.1)
same body (Other n) (Other m) g h = let name : n ≡ m = cc (g.0, h.0) in ap Other name

-- ---- what it gives has no fault

parameters_faultless : (body : Data) (name : List ℕ) (properties : Properties) → GivesParameters body name properties → parameters_faults body ≡ []
parameters_faultless body name properties g =
    rw (
      g.name,
      found_faultless properties_faults (object_or_empty_at body member.Properties) g.properties
          (λ object. properties_table.faultless object properties),
    ) refl

faultless : (body : Data) (action : Action) → GivesAction body action → action_faults body ≡ []
faultless body (Session name properties) g =
    rw (
      g.0,
      found_faultless parameters_faults (object_at body member.ActionParameters) g.1
          (λ parameters. parameters_faultless parameters name properties),
    ) refl
faultless body (Other name) g = rw (g.0, g.1) refl

pub action_table : IsTable GivesAction action_faults
action_table = record { same = same; faultless = faultless }

-- ---- what is written

pub IsKept-action : (n : ℕ) (action : Action) → IsTypedAction action → IsKept (n + 1 + 1 + 1) (object_with (action_fields action))
unfolding action_fields parameters_fields
IsKept-action n (Session name properties) typed =
    let parameters = IsKept-object_with (n + 1) (parameters_fields name properties) refl
    (IsKept-properties n properties typed.1, (IsKept-string (n + 1) name typed.0, tt)) in
    IsKept-object_with (n + 1 + 1) (action_fields (Session name properties)) refl
    (parameters, (IsKept-string _ _ (IsUtf8-are_ascii session_action refl), tt))
IsKept-action n (Other name) typed =
    let parameters = IsKept-object_with (n + 1) [] refl tt in
    IsKept-object_with (n + 1 + 1) (action_fields (Other name)) refl
    (parameters, (IsKept-string _ _ typed, tt))

parameters_given : (name : List ℕ) (properties : Properties) → GivesParameters (object_with (parameters_fields name properties)) name properties
unfolding parameters_fields
parameters_given name properties = record { name = refl; properties = properties_given properties }

pub action_given : (action : Action) → IsInRangeAction action → GivesAction (object_with (action_fields action)) action
unfolding action_fields
action_given (Session name properties) range = (refl, parameters_given name properties)
action_given (Other name) range = (refl, range)

-- What tests of connections and roles tell.
use Rattle.std.proofs.Common.{◌≡◌, ℕ, Bool, true, false, nat_eq, Option, Some, None, ap, refl}
use Rattle.std.specs.BTreeMap.{is_at}
use Rattle.std.specs.Cmp.{unsigned_tied}
use Rattle.std.specs.Ordering.{nat_cmp}
use Rattle.std.proofs.lemmas.Bool.{eqb-true}
use Rattle.chan_values.specs.declared.side.Side.{Side}
use Rattle.chan_values.specs.declared.side.Side.TheVariants.{Plugin, Agent}
use Rattle.session_register.specs.Chains.{same_side}
use Rattle.relay_core.specs.declared.place.Place.{Place}
use Rattle.relay_core.specs.Rooms.{is_conn}

-- a map's test of a key is that of two connections
pub key-conn : (a b : ℕ) → is_at (nat_cmp a) b ≡ nat_eq a b
key-conn a b = unsigned_tied a b

-- roles that are told to be one are one
pub same_side-true : (a b : Side) → same_side a b ≡ true → a ≡ b
same_side-true Plugin Plugin is = refl
same_side-true Agent Agent is = refl
same_side-true Plugin Agent is = cc
same_side-true Agent Plugin is = cc

pub is_conn-true : (conn : ℕ) (held : Option ℕ) → is_conn conn held ≡ true → held ≡ Some conn
is_conn-true conn None is = cc
is_conn-true conn (Some c) is = ap Some (eqb-true c conn is)

pub some-same : (p q : Place) → Some p ≡ Some q → p ≡ q
some-same p q is = cc

-- a test that cannot pass
pub fails : (b : Bool) → (b ≡ true → ⊥) → b ≡ false
fails true not = absurd (not refl)
fails false not = refl

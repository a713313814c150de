-- Values by number, of which the numbers from a base on have room.
use Rattle.std.specs.Prelude.{ℕ, ◌+◌, ◌<◌, ◌≤◌, ◌==◌, not, nat_eq, nat_lt, Option, List, [], ◌∷◌, ◌++◌, filter, All, AllPairs, refl}
use Rattle.std.specs.Coded.{Coded, code_by, coded×, coded_ℕ, coded_list}
use Rattle.std.specs.Map.{lookup}

-- a ring
pub record Ring (T : Type 0) : Type 0 where
  -- the least number that has room
  pub base : ℕ
  -- how many numbers from there on have room
  pub capacity : ℕ
  -- the values with their numbers, by number
  pub held : List (ℕ × T)

-- a ring is stored as the tuple of its fields
abbrev pub ring_code : {T : Type 0} → Coded T → Coded (Ring T)
ring_code {T} code =
    code_by
    (ℕ × (ℕ × List (ℕ × T)))
    (coded× coded_ℕ (coded× coded_ℕ (coded_list (coded× coded_ℕ code))))
    (λ r. (r.base, (r.capacity, r.held)))
    (λ p. record { base = p.0; capacity = p.1.0; held = p.1.1 })
    (λ _. refl)

module _ {T : Type 0} where
  -- room for so many numbers from a base on, and no value
  abbrev pub empty_ring : ℕ → ℕ → Ring T
  empty_ring base capacity = record { base = base; capacity = capacity; held = [] }

  -- a number has room
  abbrev pub HasRoom : Ring T → ℕ → Type 0
  HasRoom r n = (r.base ≤ n) × (n < r.base + r.capacity)

  -- the value with a number
  abbrev pub value_with : List (ℕ × T) → ℕ → Option T
  value_with held n = lookup (nat_eq n) held

  -- these values with this one at a number
  abbrev pub with_value : List (ℕ × T) → ℕ → T → List (ℕ × T)
  with_value held n v =
      filter (λ (e : ℕ × T). nat_lt e.0 n) held
      ++ (n, v) ∷ filter (λ (e : ℕ × T). nat_lt n e.0) held

  -- these values without the one with a number
  abbrev pub without : List (ℕ × T) → ℕ → List (ℕ × T)
  without held n = filter (λ (e : ℕ × T). not (e.0 == n)) held

  -- the numbers ascend, and each has room
  pub record IsRing (r : Ring T) : Type 0 where
    pub ascending : AllPairs (λ (e f : ℕ × T). e.0 < f.0) r.held
    pub within : All (λ (e : ℕ × T). HasRoom r e.0) r.held

-- The names of a relay's sessions, one more at a time.
use Rattle.std.proofs.Common.{◌≡◌, ℕ, ◌+◌, ◌<◌, ◌≤◌, ◌∙◌, Bool, true, false, ◌||◌, List, []}
use Rattle.std.proofs.Common.{◌∷◌, ◌++◌, length, take, drop, refl, ap, sym, subst, arith, get_or, zero, suc, map, Bor}
use Rattle.std.proofs.lemmas.Bool.{false≢true}
use Rattle.std.specs.List.{All, AllByRecursion, IsDistinct, list_any}
use Rattle.std.proofs.lemmas.List.{take_more}
use Rattle.std.proofs.lemmas.List.Elements.{All-append}
use Rattle.std.proofs.lemmas.Grind.{common_steps}
use Rattle.session_register.specs.Names.{IsSessionName, same_name}
use Rattle.program_words.specs.SessionLists.{AreSessions}

-- ---- lists without equal elements

module _ {K : Type 0} (e : K → K → Bool) where
  or_false : (a b : Bool) → (a || b) ≡ false → (a ≡ false) × (b ≡ false)
  or_false true b h = absurd (false≢true (sym h))
  or_false false b h = (refl, h)

  all_push : (P : K → Type 0) (xs : List K) (y : K) → AllByRecursion P xs → P y
      → AllByRecursion P (xs ++ y ∷ [])
  all_push P [] y all one = (one, tt)
  all_push P (x ∷ xs) y all one = (all.0, all_push P xs y all.1 one)

  all_there : (P : K → Type 0) (xs : List K) (y : K) (zs : List K)
      → AllByRecursion P (xs ++ y ∷ zs) → P y
  all_there P [] y zs all = all.0
  all_there P (x ∷ xs) y zs all = all_there P xs y zs all.1

  -- one more that none before it equals
  pub differ_push : (xs : List K) (y : K) → IsDistinct e xs → list_any (λ x. e x y) xs ≡ false
      → IsDistinct e (xs ++ y ∷ [])
  unfolding IsDistinct
  differ_push [] y d none = (tt, tt)
  differ_push (x ∷ xs) y d none =
      let two = or_false (e x y) (list_any (λ z. e z y) xs) none in
      (all_push (λ z. e x z ≡ false) xs y d.0 two.0, differ_push xs y d.1 two.1)

  -- none before an element equals it
  pub differ_at : (xs : List K) (y : K) (zs : List K) → IsDistinct e (xs ++ y ∷ zs)
      → list_any (λ x. e x y) xs ≡ false
  unfolding IsDistinct
  differ_at [] y zs d = refl
  differ_at (x ∷ xs) y zs d =
      let first : e x y ≡ false = all_there (λ z. e x z ≡ false) xs y zs d.0 in
      ap (λ b. b || list_any (λ z. e z y) xs) first ∙ differ_at xs y zs d.1

-- ---- the first names

-- the first i of the names, as a relay's
pub record AreFirst (all : List (List ℕ)) (i : ℕ) (names : List (List ℕ)) : Type 0 where
  pub first : names ≡ take i all
  pub few : length names ≤ 64
  pub named : All IsSessionName names
  pub different : IsDistinct same_name names

-- the name at a place, behind those before it
cut_at : (all : List (List ℕ)) (i : ℕ) (d : List ℕ) → i < length all
    → all ≡ take i all ++ get_or all i d ∷ drop (i + 1) all
cut_at all i d below = grind (arith, common_steps)

-- a part behind its reference
pub part_at : (parts : List (Bor (List ℕ))) (i : ℕ) (d : Bor (List ℕ)) → i < length parts
    → (get_or parts i d).now ≡ get_or (map (λ s. s.now) parts) i []
part_at [] i d below = absurd (omega (arith, below))
part_at (x ∷ xs) zero d below = refl
part_at (x ∷ xs) (suc i) d below = part_at xs i d (omega (arith, below))

pub none_first : (all : List (List ℕ)) → AreFirst all 0 []
unfolding IsDistinct
none_first all = record {
  first = refl;
  few = omega arith;
  named = λ k d below. absurd (omega (arith, below));
  different = tt;
}

pub one_more : (all names : List (List ℕ)) (i : ℕ) (name : List ℕ) → AreFirst all i names
    → i < length all → name ≡ get_or all i [] → IsSessionName name → length names < 64
    → list_any (λ x. same_name x name) names ≡ false → AreFirst all (i + 1) (names ++ name ∷ [])
one_more all names i name f below is named few other = record {
  first = grind (arith, common_steps, take_more all i [] below, f.first, is);
  few = grind (arith, common_steps, few);
  named = All-append IsSessionName names (name ∷ []) f.named (one_name name named);
  different = differ_push same_name names name f.different other;
}
  where
    one_name : (n : List ℕ) → IsSessionName n → All IsSessionName (n ∷ [])
    one_name n h zero d below = h
    one_name n h (suc k) d below = absurd (omega (arith, below))

pub all_first : (all names : List (List ℕ)) (i : ℕ) → AreFirst all i names → length all ≤ i
    → 1 ≤ length all → AreSessions names × (names ≡ all)
all_first all names i f past some =
    let whole : names ≡ all = f.first ∙ grind (arith, common_steps, past) in
    (record { some = rw whole some; few = f.few; named = f.named; different = f.different }, whole)

-- ---- why the parts are not those of a relay

pub too_many : (all names : List (List ℕ)) (i : ℕ) → AreFirst all i names → i < length all
    → length names ≡ 64 → AreSessions all → ⊥
too_many all names i f below full s = grind (arith, common_steps, f.first, full, s.few)

pub no_name : (all : List (List ℕ)) (i : ℕ) (part : List ℕ) → i < length all
    → part ≡ get_or all i [] → (IsSessionName part → ⊥) → AreSessions all → ⊥
no_name all i part below is other s = other (subst IsSessionName (sym is) (s.named i [] below))

pub twice : (all names : List (List ℕ)) (i : ℕ) (part : List ℕ) → AreFirst all i names
    → i < length all → part ≡ get_or all i []
    → list_any (λ x. same_name x part) names ≡ true → AreSessions all → ⊥
twice all names i part f below is found s =
    let cut = subst (IsDistinct same_name) (cut_at all i [] below) s.different in
    let apart = differ_at same_name (take i all) (get_or all i []) (drop (i + 1) all) cut in
    let here : list_any (λ x. same_name x part) names ≡ false = rw (f.first, is) apart in
    absurd (false≢true (sym here ∙ found))

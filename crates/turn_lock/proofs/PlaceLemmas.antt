-- Lists read by place, and sums over them.
use Rattle.std.proofs.Common.{◌≡◌, ℕ, zero, suc, ◌+◌, ◌<◌, ◌≤◌, ◌≢◌, ◌⊎◌, List, [], ◌∷◌, ◌++◌, length, get_or, set, sym, refl, ap, subst, ◌∙◌, inl, inr, ⊎_elim, arith}
use mathlib.Core.Option.{some, some-injective, some-ne-none}
use mathlib.Core.Logic.{dite}
use native.Mathlib.Decide.{ℕ_discrete}
use lib.ListN.{get_elem?}
use Rattle.std.specs.List.{sum_by}
use Rattle.std.proofs.lemmas.List.Sums.{sum_by-cons, sum_by-set}
use Rattle.atomic_table.proofs.Lists.{set_else}

-- the element a stands at the place i
abbrev pub At : {A : Type 0} → List A → ℕ → A → Type 0
At l i a = get_elem? l i ≡ some a

module _ {A : Type 0} where
  -- one element stands at a place
  pub same_at : (l : List A) (i : ℕ) (a b : A) → At l i a → At l i b → a ≡ b
  same_at l i a b p q = some-injective a b (sym p ∙ q)

  -- the same, where the places are equal
  pub same_there : (l : List A) (i j : ℕ) (a b : A) → i ≡ j → At l i a → At l j b → a ≡ b
  same_there l i j a b is p q = same_at l j a b (subst (λ (k : ℕ). At l k a) is p) q

  pub at_below : (l : List A) (i : ℕ) (a : A) → At l i a → i < length l
  at_below [] i a e = absurd (some-ne-none a (sym e))
  at_below (x ∷ xs) zero a e = omega arith
  at_below (x ∷ xs) (suc i) a e = let below = at_below xs i a e in omega arith

  pub at_get : (l : List A) (i : ℕ) (d : A) → i < length l → At l i (get_or l i d)
  at_get [] i d h = absurd (omega arith)
  at_get (x ∷ xs) zero d h = refl
  at_get (x ∷ xs) (suc i) d h = at_get xs i d (omega arith)

  -- what stands in a list that got longer by a
  pub at_end : (l : List A) (a b : A) (j : ℕ) → At (l ++ a ∷ []) j b → At l j b ⊎ ((j ≡ length l) × (a ≡ b))
  at_end [] a b zero e = inr (refl, some-injective a b e)
  at_end [] a b (suc j) e = absurd (some-ne-none b (sym e))
  at_end (x ∷ xs) a b zero e = inl e
  at_end (x ∷ xs) a b (suc j) e =
      ⊎_elim (λ t. inl t) (λ t. let last = t.0 in inr (omega arith, t.1)) (at_end xs a b j e)

  -- what stands in a list of one element
  pub at_only : (a b : A) (j : ℕ) → At (a ∷ []) j b → (j ≡ 0) × (a ≡ b)
  at_only a b zero e = (refl, some-injective a b e)
  at_only a b (suc j) e = absurd (some-ne-none b (sym e))

  -- what holds of v, and of each element once v became w, held of each before
  pub each_before : (P : A → Type 0) (l : List A) (i : ℕ) (v w : A) → At l i v → P v
      → ((j : ℕ) (u : A) → At (set l i w) j u → P u) → (j : ℕ) (u : A) → At l j u → P u
  each_before P l i v w at here now j u e = dite (ℕ_discrete j i)
      (λ is. subst P (sym (same_there l j i u v is e at)) here)
      (λ other. now j u (set_else l i j w other ∙ e))

  pub sum_by-set_at : (f : A → ℕ) (l : List A) (i : ℕ) (v w : A) → At l i v
      → sum_by f (set l i w) + f v ≡ sum_by f l + f w
  sum_by-set_at f l i v w at =
      let below = at_below l i v at in
      let is : get_or l i v ≡ v = same_at l i (get_or l i v) v (at_get l i v below) at in
      subst (λ (x : A). sum_by f (set l i w) + f x ≡ sum_by f l + f w) is (sum_by-set f l i w v below)

  -- a sum is not below one of its terms
  pub sum_by_one : (f : A → ℕ) (l : List A) (i : ℕ) (v : A) → At l i v → f v ≤ sum_by f l
  sum_by_one f [] i v e = absurd (some-ne-none v (sym e))
  sum_by_one f (x ∷ xs) zero v e =
      let is : f x ≡ f v = ap f (some-injective x v e) in
      let more = sum_by-cons f x xs in omega arith
  sum_by_one f (x ∷ xs) (suc i) v e =
      let rest = sum_by_one f xs i v e in
      let more = sum_by-cons f x xs in omega arith

  -- nor below two of them
  pub sum_by_two : (f : A → ℕ) (l : List A) (i j : ℕ) (v w : A) → At l i v → At l j w → i ≢ j
      → f v + f w ≤ sum_by f l
  sum_by_two f [] i j v w p q ne = absurd (some-ne-none v (sym p))
  sum_by_two f (x ∷ xs) zero zero v w p q ne = absurd (ne refl)
  sum_by_two f (x ∷ xs) zero (suc j) v w p q ne =
      let is : f x ≡ f v = ap f (some-injective x v p) in
      let rest = sum_by_one f xs j w q in
      let more = sum_by-cons f x xs in omega arith
  sum_by_two f (x ∷ xs) (suc i) zero v w p q ne =
      let is : f x ≡ f w = ap f (some-injective x w q) in
      let rest = sum_by_one f xs i v p in
      let more = sum_by-cons f x xs in omega arith
  sum_by_two f (x ∷ xs) (suc i) (suc j) v w p q ne =
      let rest = sum_by_two f xs i j v w p q (λ e. ne (ap suc e)) in
      let more = sum_by-cons f x xs in omega arith

  -- some number is not below f of any element
  pub upper_bound : (f : A → ℕ) (l : List A) → (d : ℕ) × ((j : ℕ) (v : A) → At l j v → f v ≤ d)
  upper_bound f l = (sum_by f l, λ j v e. sum_by_one f l j v e)

  pub none_held : (l : List A) → length l ≡ 0 → l ≡ []
  none_held [] e = refl
  none_held (x ∷ xs) e = absurd (omega arith)

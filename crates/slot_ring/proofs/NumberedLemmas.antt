-- Values by number over a range: what a look-up finds, and what changes with one number.
use Rattle.std.proofs.Common.{◌≡◌, ℕ, ◌+◌, ◌<◌, ◌≤◌, zero, suc, Bool, true, false, cond, not, Option, Some, None, is_some, List, [], ◌∷◌, ◌++◌, filter, length, eqb, ltb, ⊎_elim, refl, sym, ap, ◌∙◌, arith}
use Rattle.std.specs.List.{All, AllPairs, cons_option}
use Rattle.std.specs.Option.{option_map}
use Rattle.std.proofs.lemmas.Bool.{cases_eq, eq-eqb, le-ltb, lt-ltb, ne_eqb}
use Rattle.std.proofs.lemmas.List.Elements.{All-cons, All-nil}
use Rattle.std.proofs.lemmas.List.Kept.{AllPairs-cons}
use Rattle.slot_ring.specs.Inside.{numbered}
use Rattle.slot_ring.specs.Ring.{value_with, with_value, without}

module _ {T : Type 0} where
  -- one number's entry, if it has one, before others
  abbrev pub entry : ℕ → Option T → List (ℕ × T) → List (ℕ × T)
  entry n o es = cons_option (option_map (λ v. (n, v)) o) es

  -- two functions that agree in a range have the same values there
  pub numbered-agree : (f g : ℕ → Option T) (a m : ℕ)
      → ((k : ℕ) → a ≤ k → k < a + m → f k ≡ g k)
      → numbered f a m ≡ numbered g a m
  numbered-agree f g a zero same = refl
  numbered-agree f g a (suc m) same =
      ap (λ (o : Option T). entry a o (numbered f (a + 1) m)) (same a (omega arith) (omega arith))
      ∙ ap (entry a (g a))
      (numbered-agree f g (a + 1) m (λ k low high. same k (omega arith) (omega arith)))

  -- a look-up of another number passes an entry by
  value_with-other : (n a : ℕ) (o : Option T) (es : List (ℕ × T)) → (n ≡ a → ⊥)
      → value_with (entry a o es) n ≡ value_with es n
  value_with-other n a None es differ = refl
  value_with-other n a (Some v) es differ = rw (ne_eqb n a differ) refl

  -- a number below the range has no value in it
  pub value_with-below : (g : ℕ → Option T) (a m k : ℕ)
      → k < a
      → value_with (numbered g a m) k ≡ None
  value_with-below g a zero k below = refl
  value_with-below g a (suc m) k below =
      value_with-other k a (g a) (numbered g (a + 1) m) (λ e. omega arith)
      ∙ value_with-below g (a + 1) m k (omega arith)

  -- nor has one past it
  pub value_with-past : (g : ℕ → Option T) (a m k : ℕ)
      → a + m ≤ k
      → value_with (numbered g a m) k ≡ None
  value_with-past g a zero k past = refl
  value_with-past g a (suc m) k past =
      value_with-other k a (g a) (numbered g (a + 1) m) (λ e. omega arith)
      ∙ value_with-past g (a + 1) m k (omega arith)

  -- a number of the range has its value
  pub value_with-numbered : (g : ℕ → Option T) (a m k : ℕ)
      → a ≤ k
      → k < a + m
      → value_with (numbered g a m) k ≡ g k
  value_with-numbered g a zero k low high = absurd (omega arith)
  value_with-numbered g a (suc m) k low high =
      ⊎_elim
      (λ (here : k ≡ a). rw here
      (first (g a) (value_with-below g (a + 1) m a (omega arith))))
      (λ (differ : k ≡ a → ⊥). value_with-other k a (g a) (numbered g (a + 1) m) differ
      ∙ value_with-numbered g (a + 1) m k (omega arith) (omega arith))
      (cases_eq k a)
    where
      first : (o : Option T)
          → value_with (numbered g (a + 1) m) a ≡ None
          → value_with (entry a o (numbered g (a + 1) m)) a ≡ o
      first None none = none
      first (Some v) none = rw (eq-eqb a a refl) refl

  -- a test that fails from a number on leaves nothing
  filter-none : (p : ℕ → Bool) (g : ℕ → Option T) (a m : ℕ)
      → ((k : ℕ) → a ≤ k → p k ≡ false)
      → filter (λ (e : ℕ × T). p e.0) (numbered g a m) ≡ []
  filter-none p g a zero fails = refl
  filter-none p g a (suc m) fails =
      drops (g a) (filter-none p g (a + 1) m (λ k low. fails k (omega arith)))
    where
      drops : (o : Option T)
          → filter (λ (e : ℕ × T). p e.0) (numbered g (a + 1) m) ≡ []
          → filter (λ (e : ℕ × T). p e.0) (entry a o (numbered g (a + 1) m)) ≡ []
      drops None rest = rest
      drops (Some v) rest = let f : p a ≡ false = fails a (omega arith) in rw f rest

  -- one that holds from a number on leaves all
  filter-all : (p : ℕ → Bool) (g : ℕ → Option T) (a m : ℕ)
      → ((k : ℕ) → a ≤ k → p k ≡ true)
      → filter (λ (e : ℕ × T). p e.0) (numbered g a m) ≡ numbered g a m
  filter-all p g a zero holds = refl
  filter-all p g a (suc m) holds =
      keeps (g a) (filter-all p g (a + 1) m (λ k low. holds k (omega arith)))
    where
      keeps : (o : Option T)
          → filter (λ (e : ℕ × T). p e.0) (numbered g (a + 1) m) ≡ numbered g (a + 1) m
          → filter (λ (e : ℕ × T). p e.0) (entry a o (numbered g (a + 1) m))
          ≡ entry a o (numbered g (a + 1) m)
      keeps None rest = rest
      keeps (Some v) rest = let t : p a ≡ true = holds a (omega arith) in
          rw t (ap (λ (es : List (ℕ × T)). (a, v) ∷ es) rest)

  -- the entry of a number that passes a test, and of one that doesn't
  filter-kept : (p : ℕ → Bool) (a : ℕ) (o : Option T) (es : List (ℕ × T))
      → p a ≡ true
      → filter (λ (e : ℕ × T). p e.0) (entry a o es)
      ≡ entry a o (filter (λ (e : ℕ × T). p e.0) es)
  filter-kept p a None es passes = refl
  filter-kept p a (Some v) es passes = rw passes refl

  filter-dropped : (p : ℕ → Bool) (a : ℕ) (o : Option T) (es : List (ℕ × T))
      → p a ≡ false
      → filter (λ (e : ℕ × T). p e.0) (entry a o es) ≡ filter (λ (e : ℕ × T). p e.0) es
  filter-dropped p a None es fails = refl
  filter-dropped p a (Some v) es fails = rw fails refl

  entry-append : (a : ℕ) (o : Option T) (es fs : List (ℕ × T))
      → entry a o es ++ fs ≡ entry a o (es ++ fs)
  entry-append a None es fs = refl
  entry-append a (Some v) es fs = refl

  -- one number gets a value
  pub numbered-set : (f g : ℕ → Option T) (a m n : ℕ) (v : T)
      → a ≤ n
      → n < a + m
      → f n ≡ Some v
      → ((k : ℕ) → a ≤ k → k < a + m → (k ≡ n → ⊥) → f k ≡ g k)
      → numbered f a m ≡ with_value (numbered g a m) n v
  numbered-set f g a zero n v low high is others = absurd (omega arith)
  numbered-set f g a (suc m) n v low high is others =
      ⊎_elim
      (λ (here : n ≡ a). rw (← here) (first here))
      (λ (differ : n ≡ a → ⊥).
      let below : ltb a n ≡ true = lt-ltb a n (omega arith) in
      let above : ltb n a ≡ false = le-ltb n a (omega arith) in
      let rest = numbered-set f g (a + 1) m n v (omega arith) (omega arith) is
      (λ k l h d. others k (omega arith) (omega arith) d) in
      ap (λ (o : Option T). entry a o (numbered f (a + 1) m))
      (others a (omega arith) (omega arith) (λ e. differ (sym e)))
      ∙ ap (entry a (g a)) rest
      ∙ sym (entry-append a (g a) (filter (λ (e : ℕ × T). ltb e.0 n) (numbered g (a + 1) m))
      ((n, v) ∷ filter (λ (e : ℕ × T). ltb n e.0) (numbered g (a + 1) m)))
      ∙ ap (λ (es : List (ℕ × T)).
      es ++ (n, v) ∷ filter (λ (e : ℕ × T). ltb n e.0) (numbered g (a + 1) m))
      (sym (filter-kept (λ k. ltb k n) a (g a) (numbered g (a + 1) m) below))
      ∙ ap (λ (es : List (ℕ × T)).
      filter (λ (e : ℕ × T). ltb e.0 n) (numbered g a (suc m)) ++ (n, v) ∷ es)
      (sym (filter-dropped (λ k. ltb n k) a (g a) (numbered g (a + 1) m) above)))
      (cases_eq n a)
    where
      first : n ≡ a → numbered f n (suc m) ≡ with_value (numbered g n (suc m)) n v
      first here =
          let equal : ltb n n ≡ false = le-ltb n n (omega arith) in
          let none = filter-none (λ k. ltb k n) g n (suc m)
          (λ k from. le-ltb k n (omega arith)) in
          let all = filter-dropped (λ k. ltb n k) n (g n) (numbered g (n + 1) m) equal
          ∙ filter-all (λ k. ltb n k) g (n + 1) m (λ k from. lt-ltb n k (omega arith)) in
          ap (λ (o : Option T). entry n o (numbered f (n + 1) m)) is
          ∙ ap (λ (es : List (ℕ × T)). (n, v) ∷ es)
          (numbered-agree f g (n + 1) m
          (λ k l h. others k (omega arith) (omega arith) (λ e. omega arith)) ∙ sym all)
          ∙ ap (λ (es : List (ℕ × T)).
          es ++ (n, v) ∷ filter (λ (e : ℕ × T). ltb n e.0) (numbered g n (suc m))) (sym none)

  -- one number loses its value
  pub numbered-without : (f g : ℕ → Option T) (a m n : ℕ)
      → f n ≡ None
      → ((k : ℕ) → a ≤ k → k < a + m → (k ≡ n → ⊥) → f k ≡ g k)
      → numbered f a m ≡ without (numbered g a m) n
  numbered-without f g a zero n is others = refl
  numbered-without f g a (suc m) n is others =
      let rest = numbered-without f g (a + 1) m n is
      (λ k l h d. others k (omega arith) (omega arith) d) in
      ⊎_elim
      (λ (here : a ≡ n).
      ap (λ (o : Option T). entry a o (numbered f (a + 1) m)) (ap f here ∙ is)
      ∙ rest
      ∙ sym (filter-dropped (λ k. not (eqb k n)) a (g a) (numbered g (a + 1) m)
      (rw (eq-eqb a n here) refl)))
      (λ (differ : a ≡ n → ⊥).
      ap (λ (o : Option T). entry a o (numbered f (a + 1) m))
      (others a (omega arith) (omega arith) differ)
      ∙ ap (entry a (g a)) rest
      ∙ sym (filter-kept (λ k. not (eqb k n)) a (g a) (numbered g (a + 1) m)
      (rw (ne_eqb a n differ) refl)))
      (cases_eq a n)

  -- how many values a slot has
  abbrev pub one_if : Option T → ℕ
  one_if o = cond (is_some o) 1 0

  length-entry : (a : ℕ) (o : Option T) (es : List (ℕ × T))
      → length (entry a o es) ≡ one_if o + length es
  length-entry a None es = omega arith
  length-entry a (Some v) es = omega arith

  -- a change of one number changes the count by that number
  pub length-numbered : (f g : ℕ → Option T) (a m n : ℕ)
      → a ≤ n
      → n < a + m
      → ((k : ℕ) → a ≤ k → k < a + m → (k ≡ n → ⊥) → f k ≡ g k)
      → length (numbered f a m) + one_if (g n) ≡ length (numbered g a m) + one_if (f n)
  length-numbered f g a zero n low high others = absurd (omega arith)
  length-numbered f g a (suc m) n low high others =
      let left = length-entry a (f a) (numbered f (a + 1) m) in
      let right = length-entry a (g a) (numbered g (a + 1) m) in
      ⊎_elim
      (λ (here : a ≡ n).
      let rest = ap length (numbered-agree f g (a + 1) m
      (λ k l h. others k (omega arith) (omega arith) (λ e. omega arith))) in
      let fs = ap (λ (k : ℕ). one_if (f k)) here in
      let gs = ap (λ (k : ℕ). one_if (g k)) here in
      omega (arith, left, right, rest, fs, gs))
      (λ (differ : a ≡ n → ⊥).
      let rest = length-numbered f g (a + 1) m n (omega arith) (omega arith)
      (λ k l h d. others k (omega arith) (omega arith) d) in
      let same = ap one_if (others a (omega arith) (omega arith) differ) in
      omega (arith, left, right, rest, same))
      (cases_eq a n)

  -- there are no more values than numbers
  pub length-numbered-le : (g : ℕ → Option T) (a m : ℕ) → length (numbered g a m) ≤ m
  length-numbered-le g a zero = omega arith
  length-numbered-le g a (suc m) =
      adds (g a) (length-numbered-le g (a + 1) m)
    where
      adds : (o : Option T)
          → length (numbered g (a + 1) m) ≤ m
          → length (entry a o (numbered g (a + 1) m)) ≤ suc m
      adds None rest = omega arith
      adds (Some v) rest = omega arith

  -- to remove a number outside the range leaves all
  pub without-outside : (g : ℕ → Option T) (a m n : ℕ)
      → ((k : ℕ) → a ≤ k → k < a + m → k ≡ n → ⊥)
      → without (numbered g a m) n ≡ numbered g a m
  without-outside g a m n outside =
      let f : ℕ → Option T = λ k. cond (eqb k n) None (g k) in
      sym (numbered-without f g a m n (rw (eq-eqb n n refl) refl)
      (λ k low high differ. rw (ne_eqb k n differ) refl))
      ∙ numbered-agree f g a m (λ k low high. rw (ne_eqb k n (outside k low high)) refl)

  -- numbers without values at the end of a range add nothing
  pub numbered-longer : (g : ℕ → Option T) (a m n : ℕ)
      → m ≤ n
      → ((k : ℕ) → a + m ≤ k → k < a + n → g k ≡ None)
      → numbered g a n ≡ numbered g a m
  numbered-longer g a zero zero more none = refl
  numbered-longer g a zero (suc n) more none =
      ap (λ (o : Option T). entry a o (numbered g (a + 1) n)) (none a (omega arith) (omega arith))
      ∙ numbered-longer g (a + 1) zero n (omega arith)
      (λ k low high. none k (omega arith) (omega arith))
  numbered-longer g a (suc m) zero more none = absurd (omega arith)
  numbered-longer g a (suc m) (suc n) more none =
      ap (entry a (g a))
      (numbered-longer g (a + 1) m n (omega arith)
      (λ k low high. none k (omega arith) (omega arith)))

  -- a range that begins at a number without a value may begin one later
  pub numbered-pass : (g : ℕ → Option T) (a m : ℕ)
      → g a ≡ None
      → g (a + m) ≡ None
      → numbered g a m ≡ numbered g (a + 1) m
  numbered-pass g a zero first last = refl
  numbered-pass g a (suc m) first last =
      let count : suc m ≡ m + 1 = omega arith in
      ap (λ (o : Option T). entry a o (numbered g (a + 1) m)) first
      ∙ sym (ap (numbered g (a + 1)) count
      ∙ numbered-longer g (a + 1) m (m + 1) (omega arith) (λ k low high.
      let at : k ≡ a + suc m = omega arith in ap g at ∙ last))

  -- the numbers of a range lie in it
  pub numbered-within : (g : ℕ → Option T) (low high a m : ℕ)
      → low ≤ a
      → a + m ≤ high
      → All (λ (e : ℕ × T). (low ≤ e.0) × (e.0 < high)) (numbered g a m)
  numbered-within g low high a zero from to = All-nil (λ (e : ℕ × T). (low ≤ e.0) × (e.0 < high))
  numbered-within g low high a (suc m) from to =
      adds (g a) (numbered-within g low high (a + 1) m (omega arith) (omega arith))
    where
      adds : (o : Option T)
          → All (λ (e : ℕ × T). (low ≤ e.0) × (e.0 < high)) (numbered g (a + 1) m)
          → All (λ (e : ℕ × T). (low ≤ e.0) × (e.0 < high)) (entry a o (numbered g (a + 1) m))
      adds None rest = rest
      adds (Some v) rest =
          All-cons (λ (e : ℕ × T). (low ≤ e.0) × (e.0 < high)) (a, v) (numbered g (a + 1) m)
          (omega arith, omega arith) rest

  -- they ascend
  pub numbered-ascending : (g : ℕ → Option T) (a m : ℕ)
      → AllPairs (λ (e f : ℕ × T). e.0 < f.0) (numbered g a m)
  numbered-ascending g a zero = λ i j d low high. absurd (omega arith)
  numbered-ascending g a (suc m) = adds (g a) (numbered-ascending g (a + 1) m)
    where
      adds : (o : Option T)
          → AllPairs (λ (e f : ℕ × T). e.0 < f.0) (numbered g (a + 1) m)
          → AllPairs (λ (e f : ℕ × T). e.0 < f.0) (entry a o (numbered g (a + 1) m))
      adds None rest = rest
      adds (Some v) rest =
          AllPairs-cons (λ (e f : ℕ × T). e.0 < f.0) (a, v) (numbered g (a + 1) m)
          (λ k d low. let within = numbered-within g (a + 1) (a + 1 + m) (a + 1) m
          (omega arith) (omega arith) k d low in omega arith)
          rest

-- Slots with ascending numbers: the first of them, and what a filter, a search and a change find.
use Rattle.std.proofs.Common.{◌≡◌, ℕ, ◌<◌, ◌≤◌, suc, Bool, true, false, cond, not, Some, None, List, [], ◌∷◌, ◌++◌, map, filter, find, get_or, eqb, ltb, ⊎_elim, refl, sym, ap, subst, ◌∙◌, arith}
use Rattle.std.specs.List.{All, AllPairs}
use Rattle.std.specs.Option.{IsSome, option_map}
use Rattle.std.proofs.lemmas.Bool.{cases_eq, cases_lt, eq-eqb, eqb-true, le-ltb, lt-ltb, ne_eqb}
use Rattle.std.proofs.lemmas.List.{map-id}
use Rattle.std.proofs.lemmas.List.Elements.{All-cons, All-head, All-tail}
use Rattle.std.proofs.lemmas.Map.Entries.{lookup-filter-keys}
use Rattle.std.proofs.lemmas.Map.Made.{IsSome-lookup_same_keys}
use Rattle.slot_ring.specs.Ring.{value_with, with_value, without}
use Rattle.resend_queue.specs.declared.slot.Slot.{Slot}

-- the numbers ascend
abbrev pub Ascends : List (ℕ × Slot) → Type 0
Ascends es = AllPairs (λ (e f : ℕ × Slot). e.0 < f.0) es

-- the numbers after the first are above it
pub above_first : (e : ℕ × Slot) (es : List (ℕ × Slot))
    → Ascends (e ∷ es)
    → All (λ (f : ℕ × Slot). e.0 < f.0) es
above_first e es ascends = λ k d below. ascends 0 (suc k) d (omega arith) (omega arith)

-- and ascend
pub ascends_after : (e : ℕ × Slot) (es : List (ℕ × Slot)) → Ascends (e ∷ es) → Ascends es
ascends_after e es ascends =
    λ i j d low high. ascends (suc i) (suc j) d (omega arith) (omega arith)

-- two functions that agree on each element map a list to the same list
pub map-agree : {X Y : Type 0} (f g : X → Y) (xs : List X)
    → All (λ x. f x ≡ g x) xs
    → map f xs ≡ map g xs
map-agree f g [] all = refl
map-agree {X} {Y} f g (x ∷ xs) all =
    ap (λ (y : Y). y ∷ map f xs) (All-head (λ (x : X). f x ≡ g x) x xs all)
    ∙ ap (λ (ys : List Y). g x ∷ ys) (map-agree f g xs (All-tail (λ (x : X). f x ≡ g x) x xs all))

-- a map after a map
pub map-map : {X Y Z : Type 0} (g : Y → Z) (f : X → Y) (xs : List X)
    → map g (map f xs) ≡ map (λ x. g (f x)) xs
map-map g f [] = refl
map-map {X} {Y} {Z} g f (x ∷ xs) = ap (λ (zs : List Z). g (f x) ∷ zs) (map-map g f xs)

-- a filter after a map
pub filter-map : {X Y : Type 0} (p : Y → Bool) (f : X → Y) (xs : List X)
    → filter p (map f xs) ≡ map f (filter (λ x. p (f x)) xs)
filter-map p f [] = refl
filter-map {X} {Y} p f (x ∷ xs) = elim (p (f x)) as
    (λ b. cond b (f x ∷ filter p (map f xs)) (filter p (map f xs))
    ≡ map f (cond b (x ∷ filter (λ x. p (f x)) xs) (filter (λ x. p (f x)) xs))) [
      | true ↦ ap (λ (ys : List Y). f x ∷ ys) (filter-map p f xs)
      | false ↦ filter-map p f xs
    ]

-- a search after a map
pub find-map : {X Y : Type 0} (p : Y → Bool) (f : X → Y) (xs : List X)
    → find p (map f xs) ≡ option_map f (find (λ x. p (f x)) xs)
find-map p f [] = refl
find-map {X} {Y} p f (x ∷ xs) = elim (p (f x)) as
    (λ b. cond b (Some (f x)) (find p (map f xs))
    ≡ option_map f (cond b (Some x) (find (λ x. p (f x)) xs))) [
      | true ↦ refl
      | false ↦ find-map p f xs
    ]

-- a filter that all pass, and one that none does
pub filter-all : {X : Type 0} (p : X → Bool) (xs : List X)
    → All (λ x. p x ≡ true) xs
    → filter p xs ≡ xs
filter-all p [] all = refl
filter-all {X} p (x ∷ xs) all =
    rw (All-head (λ (x : X). p x ≡ true) x xs all)
    (ap (λ (ys : List X). x ∷ ys) (filter-all p xs (All-tail (λ (x : X). p x ≡ true) x xs all)))

pub filter-none : {X : Type 0} (p : X → Bool) (xs : List X)
    → All (λ x. p x ≡ false) xs
    → filter p xs ≡ []
filter-none p [] all = refl
filter-none {X} p (x ∷ xs) all =
    rw (All-head (λ (x : X). p x ≡ false) x xs all)
    (filter-none p xs (All-tail (λ (x : X). p x ≡ false) x xs all))

-- a search that none passes
pub find-none : {X : Type 0} (p : X → Bool) (xs : List X)
    → All (λ x. p x ≡ false) xs
    → find p xs ≡ None
find-none p [] all = refl
find-none {X} p (x ∷ xs) all =
    rw (All-head (λ (x : X). p x ≡ false) x xs all)
    (find-none p xs (All-tail (λ (x : X). p x ≡ false) x xs all))

-- a number below all has no slot
pub value_with-below : (n : ℕ) (es : List (ℕ × Slot))
    → All (λ (e : ℕ × Slot). n < e.0) es
    → value_with es n ≡ None
value_with-below n [] below = refl
value_with-below n (e ∷ es) below =
    let first = All-head (λ (e : ℕ × Slot). n < e.0) e es below in
    rw (ne_eqb n e.0 (λ same. omega arith))
    (value_with-below n es (All-tail (λ (e : ℕ × Slot). n < e.0) e es below))

-- where the first number isn't below one with a slot, it is that one
pub first_held : (n : ℕ) (slot : Slot) (e : ℕ × Slot) (es : List (ℕ × Slot))
    → Ascends (e ∷ es)
    → n ≤ e.0
    → value_with (e ∷ es) n ≡ Some slot
    → e ≡ (n, slot)
first_held n slot e es ascends low found =
    ⊎_elim
    (λ (here : n ≡ e.0).
    let is : Some e.1 ≡ Some slot = rw (eq-eqb n e.0 here) at found in
    let same : e.1 ≡ slot = cc in
    ap (λ (k : ℕ). (k, e.1)) (sym here) ∙ ap (λ (s : Slot). (n, s)) same)
    (λ (differ : n ≡ e.0 → ⊥).
    let above = above_first e es ascends in
    let none = value_with-below n (e ∷ es)
    (All-cons (λ (f : ℕ × Slot). n < f.0) e es (omega arith)
    (λ k d below. let more = above k d below in omega arith)) in
    let no : None ≡ Some slot = sym none ∙ found in cc)
    (cases_eq n e.0)

-- the lowest number that may have a slot has the first
pub first_of : (low : ℕ) (slot : Slot) (es : List (ℕ × Slot))
    → Ascends es
    → All (λ (e : ℕ × Slot). low ≤ e.0) es
    → value_with es low ≡ Some slot
    → (rest : List (ℕ × Slot)) × (es ≡ (low, slot) ∷ rest)
first_of low slot [] ascends from found = absurd (none found)
  where
    none : None ≡ Some slot → ⊥
    none is = cc
first_of low slot (e ∷ es) ascends from found = (
  es,
  ap (λ (f : ℕ × Slot). f ∷ es)
      (first_held low slot e es ascends (All-head (λ (f : ℕ × Slot). low ≤ f.0) e es from) found),
)

-- where no number is left there are no slots
pub none_between : (low high : ℕ) (es : List (ℕ × Slot))
    → high ≤ low
    → All (λ (e : ℕ × Slot). low ≤ e.0) es
    → All (λ (e : ℕ × Slot). e.0 < high) es
    → es ≡ []
none_between low high [] empty from below = refl
none_between low high (e ∷ es) empty from below =
    let first = All-head (λ (f : ℕ × Slot). low ≤ f.0) e es from in
    let last = All-head (λ (f : ℕ × Slot). f.0 < high) e es below in
    absurd (omega arith)

-- a search finds the slot of a number where nothing below it passes
pub find-held : (p : ℕ × Slot → Bool) (n : ℕ) (slot : Slot) (es : List (ℕ × Slot))
    → Ascends es
    → value_with es n ≡ Some slot
    → All (λ (e : ℕ × Slot). e.0 < n → p e ≡ false) es
    → p (n, slot) ≡ true
    → find p es ≡ Some (n, slot)
find-held p n slot [] ascends found fails passes = cc
find-held p n slot (e ∷ es) ascends found fails passes =
    ⊎_elim
    (λ (below : e.0 < n).
    rw (All-head (λ (e : ℕ × Slot). e.0 < n → p e ≡ false) e es fails below)
    (find-held p n slot es (ascends_after e es ascends)
    (rw (ne_eqb n e.0 (λ same. omega arith)) at found)
    (All-tail (λ (e : ℕ × Slot). e.0 < n → p e ≡ false) e es fails) passes))
    (λ (low : n ≤ e.0).
    rw (first_held n slot e es ascends low found, passes) refl)
    (cases_lt e.0 n)

-- a slot with a number above all goes to the end
pub with_value-last : (n : ℕ) (slot : Slot) (es : List (ℕ × Slot))
    → All (λ (e : ℕ × Slot). e.0 < n) es
    → with_value es n slot ≡ es ++ (n, slot) ∷ []
with_value-last n slot es below =
    ap (λ (fs : List (ℕ × Slot)). fs ++ (n, slot) ∷ filter (λ (e : ℕ × Slot). ltb n e.0) es)
    (filter-all (λ (e : ℕ × Slot). ltb e.0 n) es (λ k d in'. lt-ltb _ n (below k d in')))
    ∙ ap (λ (fs : List (ℕ × Slot)). es ++ (n, slot) ∷ fs)
    (filter-none (λ (e : ℕ × Slot). ltb n e.0) es
    (λ k d in'. let less = below k d in' in le-ltb n _ (omega arith)))

-- a slot at a number that has one takes its place
pub with_value-held : (n : ℕ) (old new : Slot) (es : List (ℕ × Slot))
    → Ascends es
    → value_with es n ≡ Some old
    → with_value es n new ≡ map (λ (e : ℕ × Slot). cond (eqb e.0 n) (n, new) e) es
with_value-held n old new [] ascends found = cc
with_value-held n old new (e ∷ es) ascends found =
    ⊎_elim
    (λ (below : e.0 < n).
    rw (lt-ltb e.0 n below, le-ltb n e.0 (omega arith), ne_eqb e.0 n (λ same. omega arith))
    (ap (λ (fs : List (ℕ × Slot)). e ∷ fs)
    (with_value-held n old new es (ascends_after e es ascends)
    (rw (ne_eqb n e.0 (λ same. omega arith)) at found))))
    (λ (low : n ≤ e.0).
    let is = first_held n old e es ascends low found in
    let number : e.0 ≡ n = ap (λ (f : ℕ × Slot). f.0) is in
    let above = above_first e es ascends in
    rw (le-ltb e.0 n (omega arith), le-ltb n e.0 (omega arith), eq-eqb e.0 n number)
    (ap (λ (fs : List (ℕ × Slot)). fs ++ (n, new) ∷ filter (λ (f : ℕ × Slot). ltb n f.0) es)
    (filter-none (λ (f : ℕ × Slot). ltb f.0 n) es
    (λ k d in'. let more = above k d in' in le-ltb _ n (omega arith)))
    ∙ ap (λ (fs : List (ℕ × Slot)). (n, new) ∷ fs)
    (filter-all (λ (f : ℕ × Slot). ltb n f.0) es
    (λ k d in'. let more = above k d in' in lt-ltb n _ (omega arith))
    ∙ sym (map-id es)
    ∙ map-agree (λ (f : ℕ × Slot). f) (λ (f : ℕ × Slot). cond (eqb f.0 n) (n, new) f) es
    (λ k d in'. let more : n < (get_or es k d).0 = omega (arith, above k d in') in
    rw (ne_eqb (get_or es k d).0 n (λ same. omega arith)) refl))))
    (cases_lt e.0 n)

-- each number has its slot
pub value_with-each : (es : List (ℕ × Slot))
    → Ascends es
    → All (λ (e : ℕ × Slot). value_with es e.0 ≡ Some e.1) es
value_with-each [] ascends = λ k d below. absurd (omega arith)
value_with-each (e ∷ es) ascends =
    let above = above_first e es ascends in
    let rest = value_with-each es (ascends_after e es ascends) in
    All-cons (λ (f : ℕ × Slot). value_with (e ∷ es) f.0 ≡ Some f.1) e es
    (rw (eq-eqb e.0 e.0 refl) refl)
    (λ k d below. let more : e.0 < (get_or es k d).0 = above k d below in
    rw (ne_eqb (get_or es k d).0 e.0 (λ same. omega arith)) (rest k d below))

-- what holds of each slot holds of the one that a look-up finds
pub All-found : (P : ℕ × Slot → Type 0) (n : ℕ) (slot : Slot) (es : List (ℕ × Slot))
    → All P es
    → value_with es n ≡ Some slot
    → P (n, slot)
All-found P n slot [] all found = absurd (cc)
All-found P n slot (e ∷ es) all found =
    ⊎_elim
    (λ (here : n ≡ e.0).
    let is : Some e.1 ≡ Some slot = rw (eq-eqb n e.0 here) at found in
    let same : e.1 ≡ slot = cc in
    subst P (ap (λ (k : ℕ). (k, e.1)) (sym here) ∙ ap (λ (s : Slot). (n, s)) same)
    (All-head P e es all))
    (λ (differ : n ≡ e.0 → ⊥).
    All-found P n slot es (All-tail P e es all) (rw (ne_eqb n e.0 differ) at found))
    (cases_eq n e.0)

-- a number with a slot keeps one behind which another is put
pub value_with-kept : (k n : ℕ) (slot : Slot) (es : List (ℕ × Slot))
    → IsSome (value_with es k)
    → IsSome (value_with (es ++ (n, slot) ∷ []) k)
value_with-kept k n slot [] some = cc
value_with-kept k n slot (e ∷ es) some =
    ⊎_elim
    (λ (here : k ≡ e.0). rw (eq-eqb k e.0 here) refl)
    (λ (differ : k ≡ e.0 → ⊥). rw (ne_eqb k e.0 differ)
    (value_with-kept k n slot es (rw (ne_eqb k e.0 differ) at some)))
    (cases_eq k e.0)

-- the number that is put has one
pub value_with-put : (n : ℕ) (slot : Slot) (es : List (ℕ × Slot))
    → IsSome (value_with (es ++ (n, slot) ∷ []) n)
value_with-put n slot [] = rw (eq-eqb n n refl) refl
value_with-put n slot (e ∷ es) =
    ⊎_elim
    (λ (here : n ≡ e.0). rw (eq-eqb n e.0 here) refl)
    (λ (differ : n ≡ e.0 → ⊥). rw (ne_eqb n e.0 differ) (value_with-put n slot es))
    (cases_eq n e.0)

-- a number has a slot after the change of one exactly where it had one before
pub value_with-changed : (k n : ℕ) (slot : Slot) (es : List (ℕ × Slot))
    → IsSome (value_with es k)
    → IsSome (value_with (map (λ (e : ℕ × Slot). cond (eqb e.0 n) (n, slot) e) es) k)
value_with-changed k n slot es some =
    (IsSome-lookup_same_keys (eqb k) es
    (map (λ (e : ℕ × Slot). cond (eqb e.0 n) (n, slot) e) es)
    (sym (map-map (λ (e : ℕ × Slot). e.0) (λ (e : ℕ × Slot). cond (eqb e.0 n) (n, slot) e) es
    ∙ map-agree (λ (e : ℕ × Slot). (λ (f : ℕ × Slot). f.0) (cond (eqb e.0 n) (n, slot) e))
    (λ (e : ℕ × Slot). e.0) es (λ i d below. number (get_or es i d))))).0 some
  where
    number : (e : ℕ × Slot) → (λ (f : ℕ × Slot). f.0) (cond (eqb e.0 n) (n, slot) e) ≡ e.0
    number e =
        ⊎_elim
        (λ (here : e.0 ≡ n). rw (eq-eqb e.0 n here) (sym here))
        (λ (differ : e.0 ≡ n → ⊥). rw (ne_eqb e.0 n differ) refl)
        (cases_eq e.0 n)

-- a number other than the one that is taken out keeps its slot
pub value_with-without : (k n : ℕ) (es : List (ℕ × Slot))
    → (k ≡ n → ⊥)
    → value_with (without es n) k ≡ value_with es k
value_with-without k n es differ =
    lookup-filter-keys (eqb k) (λ j. not (eqb j n)) true
    (λ j is. let same : k ≡ j = eqb-true k j is in
    rw (ne_eqb j n (λ e. differ (same ∙ e))) refl) es

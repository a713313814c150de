-- Numbers in a list, and the least one that is missing.
use Rattle.std.proofs.Common.{◌≡◌, ◌≢◌, ℕ, ◌+◌, ◌<◌, ◌≤◌, zero, suc, Bool, true, false, not, cond, ◌||◌, Option, Some, None, List, [], ◌∷◌, ◌++◌, ◌⊎◌, inl, inr, ⊎_elim, refl, sym, ap, subst, ◌∙◌, arith, eqb}
use Rattle.std.specs.List.{cons_option, filter, sum}
use Rattle.std.proofs.lemmas.Bool.{both_ways, cases_Bool, cases_eq, cases_lt, cases_order, eq-eqb, eqb-true, ne_eqb, not-false, not-true, or_cases, or_left, or_right}
use Rattle.std.proofs.lemmas.List.{append-nil}
use Rattle.std.proofs.lemmas.List.Folds.{list_any-append}
use Rattle.std.proofs.lemmas.List.Sums.{sum_by-cons}
use Rattle.std.proofs.lemmas.Option.{cond_some}
use Rattle.channel_core.specs.Numbers.{has_number, least_absent, least_below, or_else}

-- a value that is there, or not
pub cases_option : {X : Type 0} (o : Option X) → (o ≡ None) ⊎ ((x : X) × (o ≡ Some x))
cases_option None = inl refl
cases_option (Some x) = inr (x, refl)

-- where a choice is a value, one of the two is
pub or_else-some : {X : Type 0} (o p : Option X) (x : X)
    → or_else o p ≡ Some x
    → (o ≡ Some x) ⊎ ((o ≡ None) × (p ≡ Some x))
or_else-some (Some y) p x is = inl is
or_else-some None p x is = inr (refl, is)

-- where a choice is none, both are
pub or_else-none : {X : Type 0} (o p : Option X) → or_else o p ≡ None → (o ≡ None) × (p ≡ None)
or_else-none (Some x) p is = cc
or_else-none None p is = (refl, is)

-- a test that gives none has failed
cond_none : {X : Type 0} (b : Bool) (x : X) → cond b (Some x) None ≡ None → b ≡ false
cond_none true x is = cc
cond_none false x is = refl

-- where no least number passes, none below the bound does
pub least_below-none : (test : ℕ → Bool) (bound : ℕ)
    → least_below test bound ≡ None
    → (k : ℕ)
    → k < bound
    → test k ≡ false
least_below-none test zero is k below = absurd (omega arith)
least_below-none test (suc bound) is k below =
    let parts = or_else-none (least_below test bound) (cond (test bound) (Some bound) None) is in
    ⊎_elim
    (λ (same : k ≡ bound). rw same (cond_none (test bound) bound parts.1))
    (λ (apart : k ≡ bound → ⊥). least_below-none test bound parts.0 k (omega arith))
    (cases_eq k bound)

-- the least number that passes does so, and none below it
pub least_below-some : (test : ℕ → Bool) (bound n : ℕ)
    → least_below test bound ≡ Some n
    → (n < bound) × (test n ≡ true) × ((k : ℕ) → k < n → test k ≡ false)
least_below-some test zero n is = cc
least_below-some test (suc bound) n is =
    ⊎_elim
    (λ (before : least_below test bound ≡ Some n).
    let found = least_below-some test bound n before in (omega arith, found.1, found.2))
    (λ (last : (least_below test bound ≡ None) × (cond (test bound) (Some bound) None ≡ Some n)).
    let passed = cond_some (test bound) bound n last.1 in
    let same : bound ≡ n = passed.1 in
    let none : (k : ℕ) → k < n → test k ≡ false
    = λ k below. least_below-none test bound last.0 k (omega arith) in
    (omega arith, subst (λ k. test k ≡ true) same passed.0, none))
    (or_else-some (least_below test bound) (cond (test bound) (Some bound) None) n is)

-- a number that passes, with none below it, is the least
pub least_below-is : (test : ℕ → Bool) (bound n : ℕ)
    → n < bound
    → test n ≡ true
    → ((k : ℕ) → k < n → test k ≡ false)
    → least_below test bound ≡ Some n
least_below-is test bound n below passes least =
    ⊎_elim
    (λ (none : least_below test bound ≡ None).
    absurd (both_ways (test n) (least_below-none test bound none n below) passes))
    (λ (found : (m : ℕ) × (least_below test bound ≡ Some m)).
    let of_found = least_below-some test bound found.0 found.1 in
    same found.0 found.1 of_found.1 of_found.2 (cases_order n found.0))
    (cases_option (least_below test bound))
  where
    same : (m : ℕ)
        → least_below test bound ≡ Some m
        → test m ≡ true
        → ((k : ℕ) → k < m → test k ≡ false)
        → (n ≡ m) ⊎ ((n < m) ⊎ (m < n))
        → least_below test bound ≡ Some n
    same m is passes_m least_m (inl equal) = rw equal is
    same m is passes_m least_m (inr (inl less)) =
        absurd (both_ways (test n) (least_m n less) passes)
    same m is passes_m least_m (inr (inr more)) =
        absurd (both_ways (test m) (least m more) passes_m)

-- a number in a list is at most its sum
pub has_number-le_sum : (numbers : List ℕ) (n : ℕ) → has_number numbers n ≡ true → n ≤ sum numbers
has_number-le_sum [] n there = cc
has_number-le_sum (k ∷ numbers) n there =
    let total = sum_by-cons (λ (m : ℕ). m) k numbers in
    ⊎_elim
    (λ (first : eqb n k ≡ true). let same = eqb-true n k first in omega arith)
    (λ (later : has_number numbers n ≡ true).
    let below = has_number-le_sum numbers n later in omega arith)
    (or_cases (eqb n k) (has_number numbers n) there)

-- the least absent number is absent, and each smaller one is there
pub least_absent-is : (numbers : List ℕ)
    → (has_number numbers (least_absent numbers) ≡ false)
    × ((k : ℕ) → k < least_absent numbers → has_number numbers k ≡ true)
unfolding least_absent
least_absent-is numbers =
    let absent : ℕ → Bool = λ n. not (has_number numbers n) in
    let above = sum numbers + 1 in
    ⊎_elim
    (λ (none : least_below absent (sum numbers + 2) ≡ None).
    let gone = least_below-none absent (sum numbers + 2) none above (omega arith) in
    let there = not-false (has_number numbers above) gone in
    let low = has_number-le_sum numbers above there in
    absurd (omega arith))
    (λ (found : (n : ℕ) × (least_below absent (sum numbers + 2) ≡ Some n)).
    let of_found = least_below-some absent (sum numbers + 2) found.0 found.1 in
    rw found.1 (
      not-true (has_number numbers found.0) of_found.1,
      λ k below.
          not-false (has_number numbers k) (of_found.2 k below),
    ))
    (cases_option (least_below absent (sum numbers + 2)))

-- a number that is absent while each smaller one is there is the least absent one
pub least_absent-unique : (numbers : List ℕ) (n : ℕ)
    → has_number numbers n ≡ false
    → ((k : ℕ) → k < n → has_number numbers k ≡ true)
    → least_absent numbers ≡ n
least_absent-unique numbers n absent below =
    let least = least_absent numbers in
    let is = least_absent-is numbers in
    same least is.0 is.1 (cases_order least n)
  where
    same : (least : ℕ)
        → has_number numbers least ≡ false
        → ((k : ℕ) → k < least → has_number numbers k ≡ true)
        → (least ≡ n) ⊎ ((least < n) ⊎ (n < least))
        → least ≡ n
    same least gone there (inl equal) = equal
    same least gone there (inr (inl less)) =
        absurd (both_ways (has_number numbers least) gone (below least less))
    same least gone there (inr (inr more)) =
        absurd (both_ways (has_number numbers n) absent (there n more))

-- a number that is absent is at least the least absent one
pub least_absent-le : (numbers : List ℕ) (n : ℕ)
    → has_number numbers n ≡ false
    → least_absent numbers ≤ n
least_absent-le numbers n absent =
    ⊎_elim
    (λ (below : n < least_absent numbers).
    absurd (both_ways (has_number numbers n) absent ((least_absent-is numbers).1 n below)))
    (λ (above : least_absent numbers ≤ n). above)
    (cases_lt n (least_absent numbers))

-- a number stands in a joined list where it stands in one of the two
pub has_number-append : (ms ns : List ℕ) (n : ℕ)
    → has_number (ms ++ ns) n ≡ (has_number ms n || has_number ns n)
has_number-append ms ns n = list_any-append (λ (k : ℕ). eqb n k) ms ns

-- a number that is there stays where more come
pub has_number-more : (ms ns : List ℕ) (n : ℕ)
    → has_number ms n ≡ true
    → has_number (ms ++ ns) n ≡ true
has_number-more ms ns n there =
    has_number-append ms ns n ∙ or_left (has_number ms n) (has_number ns n) there

-- a number added at the end is there
pub has_number-last : (numbers : List ℕ) (n : ℕ) → has_number (numbers ++ n ∷ []) n ≡ true
has_number-last numbers n =
    has_number-append numbers (n ∷ []) n
    ∙ or_right (has_number numbers n) (eqb n n || false) (or_left (eqb n n) false (eq-eqb n n refl))

-- a number added at the end changes nothing for the others
pub has_number-other : (numbers : List ℕ) (n k : ℕ)
    → k ≢ n
    → has_number (numbers ++ n ∷ []) k ≡ has_number numbers k
has_number-other [] n k apart = rw (ne_eqb k n apart) refl
has_number-other (m ∷ numbers) n k apart =
    ap (λ (b : Bool). eqb k m || b) (has_number-other numbers n k apart)

-- a number in a list with at most one more at its end is an old one, or that one
pub has_number-pushed : (numbers : List ℕ) (o : Option ℕ) (n : ℕ)
    → has_number (numbers ++ cons_option o []) n ≡ true
    → (has_number numbers n ≡ true) ⊎ (o ≡ Some n)
has_number-pushed numbers None n there = inl (rw append-nil at there)
has_number-pushed numbers (Some k) n there =
    ⊎_elim
    (λ (same : n ≡ k). inr (ap (λ (m : ℕ). Some m) (sym same)))
    (λ (apart : n ≡ k → ⊥). inl (sym (has_number-other numbers k n apart) ∙ there))
    (cases_eq n k)

-- the least absent number doesn't fall where more come
pub least_absent-grows : (ms ns : List ℕ) → least_absent ms ≤ least_absent (ms ++ ns)
least_absent-grows ms ns =
    let new = least_absent (ms ++ ns) in
    ⊎_elim
    (λ (there : has_number ms new ≡ true).
    let gone = (least_absent-is (ms ++ ns)).0 in
    absurd (both_ways (has_number (ms ++ ns) new) gone (has_number-more ms ns new there)))
    (λ (absent : has_number ms new ≡ false). least_absent-le ms new absent)
    (cases_Bool (has_number ms new))

-- the list without a number has it no more
pub has_number-without : (numbers : List ℕ) (n : ℕ)
    → has_number (filter (λ k. not (eqb k n)) numbers) n ≡ false
has_number-without [] n = refl
has_number-without (m ∷ numbers) n =
    ⊎_elim
    (λ (same : m ≡ n). rw (eq-eqb m n same) (has_number-without numbers n))
    (λ (apart : m ≡ n → ⊥).
    rw (ne_eqb m n apart, ne_eqb n m (λ e. apart (sym e))) (has_number-without numbers n))
    (cases_eq m n)

-- the list without a number has all the others
pub has_number-kept : (numbers : List ℕ) (n k : ℕ)
    → k ≢ n
    → has_number (filter (λ m. not (eqb m n)) numbers) k ≡ has_number numbers k
has_number-kept [] n k apart = refl
has_number-kept (m ∷ numbers) n k apart =
    ⊎_elim
    (λ (same : m ≡ n).
    rw (eq-eqb m n same, ne_eqb k m (λ e. apart (e ∙ same))) (has_number-kept numbers n k apart))
    (λ (other : m ≡ n → ⊥).
    rw (ne_eqb m n other) (ap (λ (b : Bool). eqb k m || b) (has_number-kept numbers n k apart)))
    (cases_eq m n)

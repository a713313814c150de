-- How many numbers below a bound pass a test.
use Rattle.std.proofs.Common.{◌≡◌, ◌≢◌, ℕ, ◌+◌, ◌-◌, ◌<◌, ◌≤◌, zero, suc, Bool, true, false, ⊎_elim, refl, ap, arith}
use Rattle.std.proofs.lemmas.Bool.{cases_eq, cases_lt}

-- one where it is true
abbrev pub one_if : Bool → ℕ
one_if true = 1
one_if false = 0

-- how many numbers below a bound pass a test
abbrev pub count_below : (ℕ → Bool) → ℕ → ℕ
count_below test zero = 0
count_below test (suc n) = count_below test n + one_if (test n)

-- tests that agree below the bound count the same
pub count_below-agree : (t u : ℕ → Bool) (n : ℕ)
    → ((k : ℕ) → k < n → t k ≡ u k)
    → count_below t n ≡ count_below u n
count_below-agree t u zero same = refl
count_below-agree t u (suc n) same =
    let front = count_below-agree t u n (λ k below. same k (omega arith)) in
    let last : one_if (t n) ≡ one_if (u n) = ap one_if (same n (omega arith)) in
    omega (arith, front, last)

-- where one number passes no more, the count falls by one
pub count_below-less : (t u : ℕ → Bool) (n m : ℕ)
    → m < n
    → t m ≡ true
    → u m ≡ false
    → ((k : ℕ) → k ≢ m → t k ≡ u k)
    → count_below u n + 1 ≡ count_below t n
count_below-less t u zero m below passed fails same = absurd (omega arith)
count_below-less t u (suc n) m below passed fails same =
    ⊎_elim
    (λ (last : n ≡ m).
    let front = count_below-agree t u n (λ k less. same k (λ equal. omega arith)) in
    let with : one_if (t n) ≡ 1 = rw (last, passed) refl in
    let without : one_if (u n) ≡ 0 = rw (last, fails) refl in
    omega (arith, front, with, without))
    (λ (apart : n ≡ m → ⊥).
    let front = count_below-less t u n m (omega arith) passed fails same in
    let last : one_if (t n) ≡ one_if (u n) = ap one_if (same n apart) in
    omega (arith, front, last))
    (cases_eq n m)

-- a count is at most what is above the numbers that fail
pub count_below-few : (test : ℕ → Bool) (n bound : ℕ)
    → ((k : ℕ) → k < bound → test k ≡ false)
    → count_below test n ≤ n - bound
count_below-few test zero bound fails = omega arith
count_below-few test (suc n) bound fails =
    let front = count_below-few test n bound fails in
    ⊎_elim
    (λ (less : n < bound).
    let last : one_if (test n) ≡ 0 = rw (fails n less) refl in omega (arith, front, last))
    (λ (more : bound ≤ n).
    let last : one_if (test n) ≤ 1
    = elim (test n) as (λ b. one_if b ≤ 1) [ true ↦ omega arith | false ↦ omega arith ] in
    omega (arith, front, last))
    (cases_lt n bound)

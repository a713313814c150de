-- How many numbers the window of a legal history holds.
use Rattle.std.proofs.Common.{◌≡◌, ◌≢◌, ℕ, ◌+◌, ◌-◌, ◌<◌, ◌≤◌, zero, suc, Bool, true, false, not, List, [], ◌∷◌, ◌++◌, ⊎_elim, refl, sym, ap, ◌∙◌, arith, eqb, get_or, length, ltb}
use Rattle.std.specs.List.{All, AllPairs, filter, range_with_len}
use Rattle.std.proofs.lemmas.Bool.{cases_lt, eqb-false, eqb-true, ltb-true, not-true}
use Rattle.std.proofs.lemmas.List.Elements.{All-filter, filter-append, filter_passes}
use Rattle.std.proofs.lemmas.List.Filters.{length-filter_both}
use Rattle.std.proofs.lemmas.List.Kept.{AllPairs-filter}
use Rattle.std.proofs.lemmas.List.Sums.{count_by-le-length, length-filter}
use Rattle.chan_values.specs.declared.item.Item.{Item}
use Rattle.channel_core.specs.Call.{Entry}
use Rattle.channel_core.specs.History.{acked_numbers, early_items, lowest_unacked, next_in_order, put_messages, taken_items}
use Rattle.channel_core.specs.Laws.{IsWithinWindow}
use Rattle.channel_core.specs.Numbers.{has_number}
use Rattle.channel_core.proofs.ItemLemmas.{range_with_len-add}
use Rattle.channel_core.proofs.NumberLemmas.{least_absent-is}
use Rattle.channel_core.proofs.SoundLemmas.{IsConsistent, sound}

-- of items with different numbers, at most one has this number
at_most_one : (n : ℕ) (ps : List (ℕ × Item))
    → AllPairs (λ p q. p.0 ≢ q.0) ps
    → All (λ p. eqb p.0 n ≡ true) ps
    → length ps ≤ 1
at_most_one n [] apart same = omega arith
at_most_one n (p ∷ []) apart same = omega arith
at_most_one n (p ∷ q ∷ ps) apart same =
    let first = eqb-true p.0 n (same 0 p (omega arith)) in
    let second = eqb-true q.0 n (same 1 p (omega arith)) in
    absurd (apart 0 1 p (omega arith) (omega arith) (first ∙ sym second))

-- items with different numbers in a range are no more than the range is long
pub length-distinct : (k low : ℕ) (ps : List (ℕ × Item))
    → AllPairs (λ p q. p.0 ≢ q.0) ps
    → All (λ p. (low ≤ p.0) × (p.0 < low + k)) ps
    → length ps ≤ k
length-distinct zero low [] apart within = omega arith
length-distinct zero low (p ∷ ps) apart within =
    let first = within 0 p (omega arith) in absurd (omega (arith, first.0, first.1))
length-distinct (suc k) low ps apart within =
    let Apart : ℕ × Item → ℕ × Item → Type 0 = λ p q. p.0 ≢ q.0 in
    let last : ℕ × Item → Bool = λ p. eqb p.0 (low + k) in
    let other : ℕ × Item → Bool = λ p. not (last p) in
    let Within : ℕ × Item → Type 0 = λ p. (low ≤ p.0) × (p.0 < low + suc k) in
    let both = length-filter_both last other (λ p. refl) ps in
    let apart_last = AllPairs-filter Apart last ps apart in
    let one = at_most_one (low + k) (filter last ps) apart_last (filter_passes last ps) in
    let kept = All-filter other Within ps within in
    let unlike = filter_passes other ps in
    let rest = length-distinct k low (filter other ps) (AllPairs-filter Apart other ps apart)
    (λ i d inside.
    let bounds = kept i d inside in
    let p = get_or (filter other ps) i d in
    let differs = eqb-false p.0 (low + k) (not-true (eqb p.0 (low + k)) (unlike i d inside)) in
    (bounds.0, omega (arith, bounds.1, differs))) in
    omega (arith, both, one, rest)

-- a test that fails throughout a range keeps nothing of it
filter_range-none : (test : ℕ → Bool) (from n : ℕ)
    → ((k : ℕ) → from ≤ k → k < from + n → test k ≡ false)
    → filter test (range_with_len from n) ≡ []
filter_range-none test from zero fails = refl
filter_range-none test from (suc n) fails =
    rw (fails from (omega arith) (omega arith))
    (filter_range-none test (from + 1) n (λ k low high. fails k (omega arith) (omega arith)))

-- a range of numbers is as long as it says
length-range : (from n : ℕ) → length (range_with_len from n) ≡ n
length-range from zero = refl
length-range from (suc n) = let rest = length-range (from + 1) n in omega (arith, rest)

-- a test that fails below a bound keeps at most what is above it
filter_range-few : (test : ℕ → Bool) (bound n : ℕ)
    → ((k : ℕ) → k < bound → test k ≡ false)
    → length (filter test (range_with_len 0 n)) ≤ n - bound
filter_range-few test bound n fails =
    ⊎_elim
    (λ (less : n < bound).
    rw (filter_range-none test 0 n (λ k low high. fails k (omega arith))) (omega arith))
    (λ (more : bound ≤ n).
    let parts : n ≡ bound + (n - bound) = omega arith in
    let rest = range_with_len (0 + bound) (n - bound) in
    let split : range_with_len 0 n ≡ range_with_len 0 bound ++ rest
    = ap (range_with_len 0) parts ∙ range_with_len-add 0 bound (n - bound) in
    let kept : filter test (range_with_len 0 n) ≡ filter test rest
    = ap (filter test) split
    ∙ filter-append test (range_with_len 0 bound) rest
    ∙ ap
    (λ (l : List ℕ). l ++ filter test rest)
    (filter_range-none test 0 bound (λ k low high. fails k (omega arith))) in
    let count = length-filter test rest in
    let bounded = count_by-le-length test rest in
    let long = length-range (0 + bound) (n - bound) in
    rw kept (omega (arith, count, bounded, long)))
    (cases_lt n bound)

-- a sound history is within the window
pub within_window : (w : ℕ) (h : List Entry) → IsConsistent w h → IsWithinWindow w h
within_window w h sound =
    let next = next_in_order h in
    let Near : ℕ × Item → Type 0 = λ p. p.0 < next + w in
    let ahead : ℕ × Item → Bool = λ p. ltb next p.0 in
    let unacked = filter_range-few
    (λ n. not (has_number (acked_numbers h) n)) (lowest_unacked h) (length (put_messages h))
    (λ k below. rw ((least_absent-is (acked_numbers h)).1 k below) refl) in
    let room = sound.room in
    let kept = All-filter ahead Near (taken_items h) sound.near in
    let above = filter_passes ahead (taken_items h) in
    let early = length-distinct (w - 1) (next + 1) (early_items h)
    (AllPairs-filter (λ (p q : ℕ × Item). p.0 ≢ q.0) ahead (taken_items h) sound.once)
    (λ i d inside.
    let p = get_or (early_items h) i d in
    let near = kept i d inside in
    let far = ltb-true next p.0 (above i d inside) in
    (omega (arith, far), omega (arith, near, far))) in
    record { unacked = omega (arith, unacked, room); early = early; owed = sound.few_owed }

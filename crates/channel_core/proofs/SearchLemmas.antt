-- One of the unacknowledged messages: the lowest, the first that may go, one by its number.
use Rattle.std.proofs.Common.{◌≡◌, ◌≢◌, ℕ, ◌+◌, ◌-◌, ◌<◌, ◌≤◌, zero, suc, Bool, true, false, cond, Option, Some, None, List, [], ◌∷◌, ◌++◌, ◌⊎◌, inl, inr, ⊎_elim, refl, sym, ap, ◌∙◌, arith, length, find, eqb, slice_get}
use Rattle.std.specs.List.{filter_map, cons_option, range_with_len}
use Rattle.std.specs.Option.{option_and_then}
use Rattle.std.proofs.lemmas.Bool.{cases_Bool, cases_eq, cases_lt, eq-eqb, ne_eqb}
use Rattle.std.proofs.lemmas.List.Elements.{filter_map-append}
use Rattle.resend_queue.specs.Queue.{Pending, first_number}
use Rattle.channel_core.specs.History.{PutMessage}
use Rattle.channel_core.specs.Numbers.{has_number, least_absent, least_below, or_else}
use Rattle.channel_core.proofs.NumberLemmas.{least_absent-is, least_below-some}
use Rattle.channel_core.proofs.ItemLemmas.{range_with_len-add}
use Rattle.channel_core.proofs.PendingLemmas.{Sending, kept_all, kept_at, message_at, message_of, none_over, slice_get-past}
use Rattle.channel_core.proofs.KeptLemmas.{kept_at-seq}

-- whether a value is there and passes
abbrev pub passes_at : {Y : Type 0} → (Y → Bool) → Option Y → Bool
passes_at test None = false
passes_at test (Some y) = test y

-- the first of two lists, or else of the second
find-append : {Y : Type 0} (test : Y → Bool) (xs ys : List Y)
    → find test (xs ++ ys) ≡ or_else (find test xs) (find test ys)
find-append test [] ys = refl
find-append test (x ∷ xs) ys =
    ⊎_elim
    (λ (yes : test x ≡ true). rw yes refl)
    (λ (no : test x ≡ false). rw no (find-append test xs ys))
    (cases_Bool (test x))

-- the first message that passes is the one with the least number that does
pub find-least : {Y : Type 0} (test : Y → Bool) (f : ℕ → Option Y) (len : ℕ)
    → find test (filter_map f (range_with_len 0 len)) ≡ option_and_then f
    (least_below (λ n. passes_at test (f n)) len)
find-least test f zero = refl
find-least {Y} test f (suc len) =
    let one : suc len ≡ len + 1 = omega arith in
    let at : 0 + len ≡ len = omega arith in
    ap (λ (n : ℕ). find test (filter_map f (range_with_len 0 n))) one
    ∙ ap (λ (l : List ℕ). find test (filter_map f l))
    (range_with_len-add 0 len 1 ∙ ap (λ (k : ℕ). range_with_len 0 len ++ k ∷ []) at)
    ∙ ap (find test) (filter_map-append f (range_with_len 0 len) (len ∷ []))
    ∙ find-append test (filter_map f (range_with_len 0 len)) (cons_option (f len) [])
    ∙ ap (λ (o : Option Y). or_else o (find test (cons_option (f len) []))) (find-least test f len)
    ∙ last (least_below (λ n. passes_at test (f n)) len) (f len) refl
    (λ k is. (least_below-some (λ n. passes_at test (f n)) len k is).1)
  where
    there : (o : Option Y) → passes_at test o ≡ true → (other : Option Y) → or_else o other ≡ o
    there None passes other = cc
    there (Some y) passes other = refl

    alone : (x : Option Y)
        → f len ≡ x
        → find test (cons_option x []) ≡ option_and_then f (cond (passes_at test x) (Some len) None)
    alone None is = refl
    alone (Some y) is =
        ⊎_elim
        (λ (yes : test y ≡ true). rw yes (sym is))
        (λ (no : test y ≡ false). rw no refl)
        (cases_Bool (test y))

    last : (o : Option ℕ) (x : Option Y)
        → f len ≡ x
        → ((k : ℕ) → o ≡ Some k → passes_at test (f k) ≡ true)
        → or_else (option_and_then f o) (find test (cons_option x [])) ≡ option_and_then f
        (or_else o (cond (passes_at test x) (Some len) None))
    last None x is passes = alone x is
    last (Some k) x is passes = there (f k) (passes k refl) (find test (cons_option x []))

-- least_below of tests that agree
pub least_below-agree : (p q : ℕ → Bool) (bound : ℕ)
    → ((k : ℕ) → p k ≡ q k)
    → least_below p bound ≡ least_below q bound
least_below-agree p q zero same = refl
least_below-agree p q (suc bound) same = rw (least_below-agree p q bound same, same bound) refl

-- no message stands past the last number
pub message_at-past : (s : Sending) (n : ℕ) → length s.put ≤ n → message_at s n ≡ None
message_at-past s n past = rw (slice_get-past s.put n past) refl

-- a number below the count has a message
pub message_there : (put : List PutMessage) (n : ℕ)
    → n < length put
    → (m : PutMessage) × (slice_get put n ≡ Some m)
message_there [] n within = absurd (omega arith)
message_there (m ∷ put) zero within = (m, refl)
message_there (m ∷ put) (suc n) within = message_there put n (omega arith)

-- no message of a range has a number outside it
find_number-none : (f : ℕ → Option Pending) (n : ℕ) (a len : ℕ)
    → ((k : ℕ) (p : Pending) → f k ≡ Some p → p.seq ≡ k)
    → (n < a) ⊎ (a + len ≤ n)
    → find (λ p. eqb p.seq n) (filter_map f (range_with_len a len)) ≡ None
find_number-none f n a zero number outside = refl
find_number-none f n a (suc len) number outside =
    let apart : a ≢ n = λ e. ⊎_elim (λ (below : n < a). omega arith)
    (λ (above : a + suc len ≤ n). omega arith) outside in
    at (f a) (number a) apart
    (find_number-none f n (a + 1) len number
    (⊎_elim
    (λ (below : n < a). let less : n < a + 1 = omega arith in inl less)
    (λ (above : a + suc len ≤ n). let more : a + 1 + len ≤ n = omega arith in inr more)
    outside))
  where
    at : (o : Option Pending)
        → ((p : Pending) → o ≡ Some p → p.seq ≡ a)
        → a ≢ n
        → find (λ p. eqb p.seq n) (filter_map f (range_with_len (a + 1) len)) ≡ None
        → find (λ p. eqb p.seq n) (cons_option o (filter_map f (range_with_len (a + 1) len))) ≡ None
    at None number apart rest = rest
    at (Some p) number apart rest = rw (ne_eqb p.seq n (λ e. apart (sym (number p refl) ∙ e))) rest

-- and one of those in it is found
find_number-in : (f : ℕ → Option Pending) (n : ℕ) (a len : ℕ)
    → ((k : ℕ) (p : Pending) → f k ≡ Some p → p.seq ≡ k)
    → a ≤ n
    → n < a + len
    → find (λ p. eqb p.seq n) (filter_map f (range_with_len a len)) ≡ f n
find_number-in f n a zero number low high = absurd (omega arith)
find_number-in f n a (suc len) number low high =
    ⊎_elim
    (λ (here : a ≡ n). at (f a) (number a) refl here
    (find_number-none f n (a + 1) len number (let less : n < a + 1 = omega arith in inl less)))
    (λ (later : a ≡ n → ⊥). past (f a) (number a) later
    (find_number-in f n (a + 1) len number (omega arith) (omega arith)))
    (cases_eq a n)
  where
    at : (o : Option Pending)
        → ((p : Pending) → o ≡ Some p → p.seq ≡ a)
        → f a ≡ o
        → a ≡ n
        → find (λ p. eqb p.seq n) (filter_map f (range_with_len (a + 1) len)) ≡ None
        → find (λ p. eqb p.seq n) (cons_option o (filter_map f (range_with_len (a + 1) len))) ≡ f n
    at None number is here rest = rest ∙ sym is ∙ ap f here
    at (Some p) number is here rest = rw (eq-eqb p.seq n (number p refl ∙ here))
        (sym is ∙ ap f here)

    past : (o : Option Pending)
        → ((p : Pending) → o ≡ Some p → p.seq ≡ a)
        → (a ≡ n → ⊥)
        → find (λ p. eqb p.seq n) (filter_map f (range_with_len (a + 1) len)) ≡ f n
        → find (λ p. eqb p.seq n) (cons_option o (filter_map f (range_with_len (a + 1) len))) ≡ f n
    past None number later rest = rest
    past (Some p) number later rest = rw
        (ne_eqb p.seq n (λ e. later (sym (number p refl) ∙ e))) rest

-- the message with a number among the unacknowledged ones
pub find_number : (s : Sending) (n : ℕ) → find (λ p. eqb p.seq n) (kept_all s) ≡ kept_at s n
find_number s n =
    ⊎_elim
    (λ (within : n < length s.put). find_number-in (kept_at s) n 0 (length s.put) (kept_at-seq s)
    (omega arith) (omega arith))
    (λ (past : length s.put ≤ n). none_past past)
    (cases_lt n (length s.put))
  where
    kept_none : length s.put ≤ n → kept_at s n ≡ None
    kept_none past = rw (message_at-past s n past)
        (elim (has_number s.acked n) as
        (λ b. cond {A = Option Pending} b None None ≡ None) [ true ↦ refl | false ↦ refl ])

    none_past : length s.put ≤ n → find (λ p. eqb p.seq n) (kept_all s) ≡ kept_at s n
    none_past past =
        let beyond : 0 + length s.put ≤ n = omega arith in
        find_number-none (kept_at s) n 0 (length s.put) (kept_at-seq s) (inr beyond)
        ∙ sym (kept_none past)

-- the messages from the lowest unacknowledged number on
pub kept_all-from_low : (s : Sending) → least_absent s.acked ≤ length s.put
    → kept_all s ≡ filter_map (kept_at s)
    (range_with_len (least_absent s.acked) (length s.put - least_absent s.acked))
kept_all-from_low s low_le =
    let low = least_absent s.acked in
    let count : length s.put ≡ low + (length s.put - low) = omega arith in
    let at : 0 + low ≡ low = omega arith in
    ap (λ (n : ℕ). filter_map (kept_at s) (range_with_len 0 n)) count
    ∙ ap (filter_map (kept_at s)) (range_with_len-add 0 low (length s.put - low))
    ∙ filter_map-append (kept_at s) (range_with_len 0 low)
    (range_with_len (0 + low) (length s.put - low))
    ∙ ap (λ (l : List Pending). l ++ filter_map (kept_at s)
    (range_with_len (0 + low) (length s.put - low)))
    (none_over (kept_at s) 0 low
    (λ k from below. rw ((least_absent-is s.acked).1 k (omega arith)) refl))
    ∙ ap (λ (k : ℕ). filter_map (kept_at s) (range_with_len k (length s.put - low))) at

-- the lowest unacknowledged message is the first
pub kept_all-first : (s : Sending) → least_absent s.acked < length s.put
    → (m : PutMessage) × (rest : List Pending) × (slice_get s.put (least_absent s.acked) ≡ Some m) ×
    (kept_all s ≡ message_of s (least_absent s.acked) m ∷ rest)
kept_all-first s low_lt =
    let low = least_absent s.acked in
    let there = message_there s.put low low_lt in
    let count : length s.put - low ≡ suc (length s.put - low - 1) = omega arith in
    let here : kept_at s low ≡ Some (message_of s low there.0)
    = rw ((least_absent-is s.acked).0, there.1) refl in
    let rest = filter_map (kept_at s) (range_with_len (low + 1) (length s.put - low - 1)) in (
      there.0,
      rest,
      there.1,
      kept_all-from_low s (omega arith)
          ∙ ap (λ (n : ℕ). filter_map (kept_at s) (range_with_len low n)) count
          ∙ ap (λ (o : Option Pending). cons_option o rest) here,
    )

-- where all are acknowledged there is none
pub kept_all-none : (s : Sending) → least_absent s.acked ≡ length s.put → kept_all s ≡ []
kept_all-none s low_eq =
    let none : length s.put - least_absent s.acked ≡ 0 = omega arith in
    kept_all-from_low s (omega arith) ∙ rw none refl

-- the lowest unacknowledged number
pub first_number-kept : (s : Sending)
    → least_absent s.acked ≤ length s.put
    → first_number (kept_all s) (length s.put) ≡ least_absent s.acked
first_number-kept s low_le =
    ⊎_elim
    (λ (low_lt : least_absent s.acked < length s.put). let first = kept_all-first s low_lt in
    rw first.3 refl)
    (λ (low_ge : length s.put ≤ least_absent s.acked). let same : least_absent s.acked
    ≡ length s.put = omega arith in rw (kept_all-none s same) (sym same))
    (cases_lt (least_absent s.acked) (length s.put))

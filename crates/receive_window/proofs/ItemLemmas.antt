-- Items by number: look-ups, runs of numbers that follow one another, and bounds of all numbers.
use Rattle.std.proofs.Common.{◌≡◌, ◌≢◌, ℕ, ◌+◌, ◌-◌, ◌^◌, ◌<◌, ◌≤◌, zero, suc, true, false, cond, Option, Some, None, Bor, option_copied, is_some, List, [], ◌∷◌, ◌++◌, ⊎_elim, refl, sym, ap, subst, ◌∙◌, arith, length, eqb, leb}
use Rattle.std.specs.Option.{IsSome}
use Rattle.std.specs.List.{filter_map, cons_option, range_with_len, All, AllPairs}
use Rattle.std.proofs.lemmas.Bool.{both_ways, cases_eq, cases_lt, eq-eqb, eqb-true, le-leb, lt-leb, ne_eqb}
use Rattle.std.proofs.lemmas.List.Elements.{All-cons, All-head, All-nil, All-tail, filter_map-append}
use Rattle.std.proofs.lemmas.Map.Entries.{lookup-filter-keys}
use Rattle.slot_ring.specs.Ring.{IsRing, Ring, without}
use Rattle.chan_values.specs.declared.item.Item.{Item}
use Rattle.receive_window.specs.Inside.{from_number}
use Rattle.receive_window.specs.Window.{AreDifferent, item_with, items_in_order}

-- one item more, at the front
pub item_with-cons : (es : List (ℕ × Item)) (n k : ℕ) (item : Item)
    → item_with ((n, item) ∷ es) k ≡ cond (eqb n k) (Some item) (item_with es k)
item_with-cons es n k item =
    ⊎_elim
    (λ (equal : n ≡ k). rw (eq-eqb n k equal, eq-eqb k n (sym equal)) refl)
    (λ (differ : n ≡ k → ⊥). let other : eqb k n ≡ false = ne_eqb k n (λ e. differ (sym e)) in
    rw (other, ne_eqb n k differ) refl)
    (cases_eq n k)

-- a number that isn't there has no item
pub absent : (o : Option Item) → (IsSome o → ⊥) → o ≡ None
absent None none = refl
absent (Some item) none = absurd (none refl)

-- a number that has an item is there
pub present : (o : Option Item) (item : Item) → o ≡ Some item → IsSome o
present o item is = rw is refl

-- no number stands between a bound and itself
pub items_in_order-none : (es : List (ℕ × Item)) (a : ℕ) → items_in_order es a a ≡ []
items_in_order-none es a = let z : a - a ≡ 0 = omega arith in rw z refl

-- a range grows at its end
range_with_len-more : (a n : ℕ) → range_with_len a (n + 1) ≡ range_with_len a n ++ (a + n) ∷ []
range_with_len-more a zero = ap (λ (k : ℕ). k ∷ []) (omega arith)
range_with_len-more a (suc n) =
    let one : suc n + 1 ≡ suc (n + 1) = omega arith in
    let last : a + 1 + n ≡ a + suc n = omega arith in
    rw one (ap (λ (l : List ℕ). a ∷ l)
    (range_with_len-more (a + 1) n ∙ ap (λ (k : ℕ). range_with_len (a + 1) n ++ k ∷ []) last))

-- one number more, that has an item
pub items_in_order-more : (es : List (ℕ × Item)) (a b : ℕ) (item : Item)
    → a ≤ b
    → item_with es b ≡ Some item
    → items_in_order es a (b + 1) ≡ items_in_order es a b ++ item ∷ []
items_in_order-more es a b item below is =
    let count : b + 1 - a ≡ (b - a) + 1 = omega arith in
    let last : a + (b - a) ≡ b = omega arith in
    ap (λ (n : ℕ). filter_map (item_with es) (range_with_len a n)) count
    ∙ ap (filter_map (item_with es))
    (range_with_len-more a (b - a) ∙ ap (λ (k : ℕ). range_with_len a (b - a) ++ k ∷ []) last)
    ∙ filter_map-append (item_with es) (range_with_len a (b - a)) (b ∷ [])
    ∙ ap (λ (o : Option Item). items_in_order es a b ++ cons_option o []) is

-- two functions that agree in a range give the same list over it
pub filter_map-agree : (f g : ℕ → Option Item) (a n : ℕ)
    → ((k : ℕ) → a ≤ k → k < a + n → f k ≡ g k)
    → filter_map f (range_with_len a n) ≡ filter_map g (range_with_len a n)
filter_map-agree f g a zero same = refl
filter_map-agree f g a (suc n) same =
    rw (
      same a (omega arith) (omega arith),
      filter_map-agree f g (a + 1) n
          (λ k low high. same k (omega arith) (omega arith)),
    ) refl

-- numbers in order between two bounds are at most as many as those between
pub length-between : (es : List (ℕ × Item)) (low high : ℕ)
    → AllPairs (λ (e f : ℕ × Item). e.0 < f.0) es
    → All (λ (e : ℕ × Item). (low ≤ e.0) × (e.0 < high)) es
    → length es ≤ high - low
length-between [] low high ascending all = omega arith
length-between (e ∷ es) low high ascending all =
    let first = All-head (λ (f : ℕ × Item). (low ≤ f.0) × (f.0 < high)) e es all in
    let later = All-tail (λ (f : ℕ × Item). (low ≤ f.0) × (f.0 < high)) e es all in
    let rest = length-between es (e.0 + 1) high
    (λ i j d below within. ascending (suc i) (suc j) d (omega arith) (omega arith))
    (λ k d below. (
      let more = ascending 0 (suc k) d (omega arith) (omega arith) in omega arith,
      (later k d below).1,
    )) in
    omega (arith, first.0, first.1, rest)

-- numbers in order differ
pub numbers_differ : (es : List (ℕ × Item))
    → AllPairs (λ (e f : ℕ × Item). e.0 < f.0) es
    → AreDifferent es
numbers_differ es ascending =
    λ i j d below within same. let less = ascending i j d below within in omega arith

-- what holds of each number that has an item holds of the number of each item
pub numbers-all : (P : ℕ → Type 0) (es : List (ℕ × Item))
    → ((k : ℕ) → IsSome (item_with es k) → P k)
    → All (λ (e : ℕ × Item). P e.0) es
numbers-all P [] each = All-nil (λ (e : ℕ × Item). P e.0)
numbers-all P (e ∷ es) each =
    All-cons (λ (f : ℕ × Item). P f.0) e es
    (each e.0 (rw (eq-eqb e.0 e.0 refl) refl))
    (numbers-all P es (λ k some. each k (⊎_elim
    (λ (same : k ≡ e.0). rw (eq-eqb k e.0 same) refl)
    (λ (differ : k ≡ e.0 → ⊥). rw (ne_eqb k e.0 differ) some)
    (cases_eq k e.0))))

-- and what holds of the number of each item, of each number that has one
pub numbers-found : (P : ℕ → Type 0) (es : List (ℕ × Item)) (k : ℕ)
    → All (λ (e : ℕ × Item). P e.0) es
    → IsSome (item_with es k)
    → P k
numbers-found P [] k all some = absurd (both_ways false refl some)
numbers-found P (e ∷ es) k all some =
    ⊎_elim
    (λ (same : k ≡ e.0). subst P (sym same) (All-head (λ (f : ℕ × Item). P f.0) e es all))
    (λ (differ : k ≡ e.0 → ⊥).
    numbers-found P es k (All-tail (λ (f : ℕ × Item). P f.0) e es all)
    (rw (ne_eqb k e.0 differ) at some))
    (cases_eq k e.0)

-- an item that is there is one
pub not_some : (o : Option Item) → o ≡ None → IsSome o → ⊥
not_some o none some = both_ways (is_some o) (ap is_some none) some

-- the items from a number on have those numbers
pub item_with-from : (n k : ℕ) (es : List (ℕ × Item))
    → n ≤ k
    → item_with (from_number n es) k ≡ item_with es k
item_with-from n k es from =
    lookup-filter-keys (eqb k) (leb n) true
    (λ j is. let same : k ≡ j = eqb-true k j is in le-leb n j (omega arith)) es

-- and no others
pub item_with-before : (n k : ℕ) (es : List (ℕ × Item))
    → k < n
    → item_with (from_number n es) k ≡ None
item_with-before n k es before =
    lookup-filter-keys (eqb k) (leb n) false
    (λ j is. let same : k ≡ j = eqb-true k j is in lt-leb n j (omega arith)) es

-- without the first of them they are those from the next number on
pub from_number-next : (n : ℕ) (es : List (ℕ × Item))
    → without (from_number n es) n ≡ from_number (n + 1) es
from_number-next n [] = refl
from_number-next n (e ∷ es) =
    ⊎_elim
    (λ (below : e.0 < n).
    rw (lt-leb n e.0 below, lt-leb (n + 1) e.0 (omega arith)) (from_number-next n es))
    (λ (from : n ≤ e.0).
    ⊎_elim
    (λ (same : e.0 ≡ n).
    rw (le-leb n e.0 from, lt-leb (n + 1) e.0 (omega arith), eq-eqb e.0 n same)
    (from_number-next n es))
    (λ (differ : e.0 ≡ n → ⊥).
    rw (le-leb n e.0 from, le-leb (n + 1) e.0 (omega arith), ne_eqb e.0 n differ)
    (ap (λ (fs : List (ℕ × Item)). e ∷ fs) (from_number-next n es)))
    (cases_eq e.0 n))
    (cases_lt e.0 n)

-- from the least number on they are all
pub from_number-all : (n : ℕ) (es : List (ℕ × Item))
    → All (λ (e : ℕ × Item). n ≤ e.0) es
    → from_number n es ≡ es
from_number-all n [] all = refl
from_number-all n (e ∷ es) all =
    rw (le-leb n e.0 (All-head (λ (f : ℕ × Item). n ≤ f.0) e es all))
    (ap (λ (fs : List (ℕ × Item)). e ∷ fs)
    (from_number-all n es (All-tail (λ (f : ℕ × Item). n ≤ f.0) e es all)))

-- what a reference finds, where it finds something, and where it doesn't
pub copied-some : (o : Option (Bor Item)) → is_some o ≡ true → IsSome (option_copied o)
copied-some None some = absurd (both_ways false refl some)
copied-some (Some item) some = refl

-- where the next number has no item the numbers of the items are above it
pub above_next : (early : Ring Item)
    → IsRing early
    → item_with early.held early.base ≡ None
    → All (λ (e : ℕ × Item). early.base < e.0) early.held
above_next early ring missing =
    let differ = numbers-all (λ k. k ≢ early.base) early.held
    (λ k some same. not_some (item_with early.held k) (ap (item_with early.held) same ∙ missing)
    some) in
    λ k d below.
    let from = (ring.within k d below).0 in let other = differ k d below in omega arith

-- numbers are compared either way round
pub eqb-turned : (n k : ℕ) → eqb k n ≡ eqb n k
eqb-turned n k =
    ⊎_elim
    (λ (same : n ≡ k). eq-eqb k n (sym same) ∙ sym (eq-eqb n k same))
    (λ (differ : n ≡ k → ⊥). ne_eqb k n (λ e. differ (sym e)) ∙ sym (ne_eqb n k differ))
    (cases_eq n k)

-- a number is within bounds where those between another and it have items
pub next_small : (n next : ℕ) (held : List (ℕ × Item))
    → n < 2 ^ 63
    → All (λ (e : ℕ × Item). e.0 < 2 ^ 63) held
    → ((k : ℕ) → n + 1 ≤ k → k < next → IsSome (item_with held k))
    → next ≤ 2 ^ 63
next_small n next held small all there =
    ⊎_elim
    (λ (first : next < n + 2). omega arith)
    (λ (more : n + 2 ≤ next).
    let last = numbers-found (λ k. k < 2 ^ 63) held (next - 1) all
    (there (next - 1) (omega arith) (omega arith)) in omega arith)
    (cases_lt next (n + 2))

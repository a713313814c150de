-- Numbered items: look-up by number, and the items between two numbers.
use Rattle.std.proofs.Common.{◌≡◌, ◌≢◌, ℕ, ◌+◌, ◌-◌, ◌<◌, ◌≤◌, zero, suc, true, false, Option, Some, List, [], ◌∷◌, ◌++◌, take, drop, ⊎_elim, refl, sym, ap, subst, ◌∙◌, arith, eqb}
use Rattle.std.specs.List.{All, AllByRecursion, AllPairs, Contains, cons_option, filter_map, range_with_len, slice_get}
use Rattle.std.proofs.lemmas.Bool.{cases_Bool, eqb-false, eqb-true, or_parts}
use Rattle.std.proofs.lemmas.List.{drop_more, map-append}
use Rattle.std.proofs.lemmas.List.Elements.{All-cons, All-nil, Contains-append_right, filter_map-append}
use Rattle.std.proofs.lemmas.Option.{get_or_from_slice_get, slice_get_within}
use Rattle.chan_values.specs.declared.item.Item.{Item}
use Rattle.receive_window.specs.Window.{item_with, items_in_order}
use Rattle.channel_core.specs.Legal.{items_released_by}
use Rattle.channel_core.specs.Numbers.{has_number, least_absent, numbers_of, or_else}
use Rattle.channel_core.proofs.NumberLemmas.{least_absent-grows, least_absent-is}

-- a range is its front and its rest
pub range_with_len-add : (from m n : ℕ)
    → range_with_len from (m + n) ≡ range_with_len from m ++ range_with_len (from + m) n
range_with_len-add from zero n =
    ap (λ (k : ℕ). range_with_len from k) (omega arith)
    ∙ ap (λ (k : ℕ). range_with_len k n) (omega arith)
range_with_len-add from (suc m) n =
    let more : suc m + n ≡ suc (m + n) = omega arith in
    let far : from + 1 + m ≡ from + suc m = omega arith in
    ap (λ (k : ℕ). range_with_len from k) more
    ∙ ap
    (λ (l : List ℕ). from ∷ l)
    (range_with_len-add (from + 1) m n
    ∙ ap (λ (k : ℕ). range_with_len (from + 1) m ++ range_with_len k n) far)

-- two functions that agree in a range give the same list over it
pub filter_map-agree : {Y : Type 0} (f g : ℕ → Option Y) (from n : ℕ)
    → ((k : ℕ) → from ≤ k → k < from + n → f k ≡ g k)
    → filter_map f (range_with_len from n) ≡ filter_map g (range_with_len from n)
filter_map-agree f g from zero same = refl
filter_map-agree {Y} f g from (suc n) same =
    ap
    (λ (o : Option Y). cons_option o (filter_map f (range_with_len (from + 1) n)))
    (same from (omega arith) (omega arith))
    ∙ ap
    (λ (l : List Y). cons_option (g from) l)
    (filter_map-agree f g (from + 1) n (λ k low high. same k (omega arith) (omega arith)))

-- a function that reads a list in a range gives that part of it
pub filter_map-reads : {Y : Type 0} (f : ℕ → Option Y) (ys : List Y) (from n : ℕ)
    → ((k : ℕ) → from ≤ k → k < from + n → (y : Y) × (f k ≡ Some y) × (slice_get ys k ≡ Some y))
    → filter_map f (range_with_len from n) ≡ take n (drop from ys)
filter_map-reads f ys from zero reads = refl
filter_map-reads {Y} f ys from (suc n) reads =
    let first = reads from (omega arith) (omega arith) in
    let within = slice_get_within ys from first.0 first.2 in
    let value = get_or_from_slice_get ys from first.0 first.0 first.2 in
    let parts : drop from ys ≡ first.0 ∷ drop (from + 1) ys
    = drop_more ys from first.0 within ∙ ap (λ (y : Y). y ∷ drop (from + 1) ys) value in
    rw
    (first.1, parts)
    (ap
    (λ (l : List Y). first.0 ∷ l)
    (filter_map-reads f ys (from + 1) n (λ k low high. reads k (omega arith) (omega arith))))

-- the numbers of joined lists
pub numbers_of-append : (ps qs : List (ℕ × Item))
    → numbers_of (ps ++ qs) ≡ numbers_of ps ++ numbers_of qs
numbers_of-append ps qs = map-append (λ (p : ℕ × Item). p.0) ps qs

-- a number that stands there has an item
pub item_with-there : (ps : List (ℕ × Item)) (n : ℕ)
    → has_number (numbers_of ps) n ≡ true
    → (item : Item) × (item_with ps n ≡ Some item)
item_with-there [] n there = cc
item_with-there (p ∷ ps) n there =
    ⊎_elim
    (λ (first : eqb n p.0 ≡ true). (p.1, rw first refl))
    (λ (other : eqb n p.0 ≡ false).
    let later = item_with-there ps n (rw other at there) in (later.0, rw other later.1))
    (cases_Bool (eqb n p.0))

-- an item that is looked up stands there with its number
pub item_with-contains : (ps : List (ℕ × Item)) (n : ℕ) (item : Item)
    → item_with ps n ≡ Some item
    → Contains ps (n, item)
item_with-contains [] n item is = cc
item_with-contains (p ∷ ps) n item is =
    ⊎_elim
    (λ (first : eqb n p.0 ≡ true).
    let same : Some p.1 ≡ Some item = rw first at is in
    let number = eqb-true n p.0 first in
    let value : p.1 ≡ item = cc in
    (0, omega arith, rw (number, value) refl))
    (λ (other : eqb n p.0 ≡ false).
    Contains-append_right (p ∷ []) ps (n, item) (item_with-contains ps n item (rw other at is)))
    (cases_Bool (eqb n p.0))

-- looking up in joined lists takes the first that is there
pub item_with-append : (ps qs : List (ℕ × Item)) (n : ℕ)
    → item_with (ps ++ qs) n ≡ or_else (item_with ps n) (item_with qs n)
item_with-append [] qs n = refl
item_with-append (p ∷ ps) qs n =
    ⊎_elim
    (λ (first : eqb n p.0 ≡ true). rw first refl)
    (λ (other : eqb n p.0 ≡ false). rw other (item_with-append ps qs n))
    (cases_Bool (eqb n p.0))

-- an item that is looked up meets what each pair meets
pub item_with-meets : (P : ℕ × Item → Type 0) (ps : List (ℕ × Item)) (n : ℕ) (item : Item)
    → AllByRecursion P ps
    → item_with ps n ≡ Some item
    → P (n, item)
item_with-meets P [] n item all is = cc
item_with-meets P (p ∷ ps) n item all is =
    ⊎_elim
    (λ (first : eqb n p.0 ≡ true).
    let same : Some p.1 ≡ Some item = rw first at is in
    let number = eqb-true n p.0 first in
    let value : p.1 ≡ item = cc in
    let whole : p ≡ (n, item) = rw (number, sym value) refl in
    subst P whole all.0)
    (λ (other : eqb n p.0 ≡ false). item_with-meets P ps n item all.1 (rw other at is))
    (cases_Bool (eqb n p.0))

-- the next number in order doesn't fall where more items come
pub least_absent-grows_items : (ps qs : List (ℕ × Item))
    → least_absent (numbers_of ps) ≤ least_absent (numbers_of (ps ++ qs))
least_absent-grows_items ps qs =
    rw numbers_of-append (least_absent-grows (numbers_of ps) (numbers_of qs))

-- a number that stands nowhere is unlike each
pub numbers_apart : (ps : List (ℕ × Item)) (n : ℕ)
    → has_number (numbers_of ps) n ≡ false
    → All (λ p. p.0 ≢ n) ps
numbers_apart [] n absent = All-nil (λ (p : ℕ × Item). p.0 ≢ n)
numbers_apart (p ∷ ps) n absent =
    let parts = or_parts (eqb n p.0) (has_number (numbers_of ps) n) absent in
    All-cons
    (λ (q : ℕ × Item). q.0 ≢ n) p ps
    (λ same. eqb-false n p.0 parts.0 (sym same))
    (numbers_apart ps n parts.1)

-- the items up to the next number, and those that one more releases, are those up to the new one
pub items_in_order-join : (ps : List (ℕ × Item)) (n : ℕ) (item : Item)
    → items_in_order ps 0 (least_absent (numbers_of ps)) ++ items_released_by ps n item
    ≡ items_in_order (ps ++ (n, item) ∷ []) 0 (least_absent (numbers_of (ps ++ (n, item) ∷ [])))
items_in_order-join ps n item =
    let new : List (ℕ × Item) = (n, item) ∷ [] in
    let qs = ps ++ new in
    let old_next = least_absent (numbers_of ps) in
    let new_next = least_absent (numbers_of qs) in
    let grows = least_absent-grows_items ps new in
    let old = range_with_len 0 (old_next - 0) in
    let more = range_with_len old_next (new_next - old_next) in
    let front : filter_map (item_with ps) old ≡ filter_map (item_with qs) old
    = filter_map-agree (item_with ps) (item_with qs) 0 (old_next - 0) (λ k low high.
    let there = item_with-there ps k ((least_absent-is (numbers_of ps)).1 k (omega arith)) in
    there.1
    ∙ sym
    (item_with-append ps new k
    ∙ ap (λ (o : Option Item). or_else o (item_with new k)) there.1)) in
    let count : new_next - 0 ≡ (old_next - 0) + (new_next - old_next) = omega arith in
    let start : 0 + (old_next - 0) ≡ old_next = omega arith in
    let split : range_with_len 0 (new_next - 0) ≡ old ++ more
    = ap (range_with_len 0) count
    ∙ range_with_len-add 0 (old_next - 0) (new_next - old_next)
    ∙ ap (λ (k : ℕ). old ++ range_with_len k (new_next - old_next)) start in
    ap (λ (l : List Item). l ++ filter_map (item_with qs) more) front
    ∙ sym
    (ap (filter_map (item_with qs)) split
    ∙ filter_map-append (item_with qs) old more)

-- ---- pairs with different numbers

-- the first differs from each behind it
pub first_apart : {X : Type 0} (p : ℕ × X) (ps : List (ℕ × X)) (q : ℕ × X)
    → AllPairs (λ p q. p.0 ≢ q.0) (p ∷ ps)
    → Contains ps q
    → p.0 ≢ q.0
first_apart {X} p ps q different there =
    subst
    (λ (r : ℕ × X). p.0 ≢ r.0) there.2
    (different 0 (suc there.0) q (omega arith) (let inside = there.1 in omega arith))

-- and those behind it differ
pub different_behind : {X : Type 0} (p : ℕ × X) (ps : List (ℕ × X))
    → AllPairs (λ p q. p.0 ≢ q.0) (p ∷ ps)
    → AllPairs (λ p q. p.0 ≢ q.0) ps
different_behind p ps different i j d less within =
    different (suc i) (suc j) d (omega arith) (omega arith)

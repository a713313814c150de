-- Early items: those that an end keeps are those that its history tells, in some order.
use Rattle.std.proofs.Common.{◌≡◌, ◌≢◌, ℕ, ◌<◌, ◌≤◌, Bool, true, false, cond, not, Option, Some, None, List, [], ◌∷◌, ◌++◌, ⊎_elim, refl, sym, ap, subst, ◌∙◌, arith, eqb, filter, ltb}
use Rattle.std.specs.List.{Contains}
use Rattle.std.specs.List.Sorted.{IsPermutation}
use Rattle.std.proofs.lemmas.Bool.{cases_Bool, cases_eq, cases_lt, eq-eqb, eqb-false, eqb-true, le-ltb, lt-ltb, ne_eqb}
use Rattle.std.proofs.lemmas.List.Elements.{Contains-append_cases, Contains-push_cases}
use Rattle.std.proofs.lemmas.List.Kept.{AllPairs-filter}
use Rattle.std.proofs.lemmas.List.Sorted.{Contains-permutation, IsPermutation-cons, IsPermutation-filter_both, IsPermutation-refl, IsPermutation-sym, IsPermutation-trans}
use Rattle.chan_values.specs.declared.item.Item.{Item}
use Rattle.receive_window.specs.Window.{AreDifferent, item_with}
use Rattle.channel_core.specs.Call.{Entry}
use Rattle.channel_core.specs.History.{early_items, next_in_order, taken_items}
use Rattle.channel_core.specs.Legal.{IsLegal}
use Rattle.channel_core.specs.Numbers.{has_number, least_absent, numbers_of}
use Rattle.channel_core.specs.Stands.{EndState, Stands}
use Rattle.channel_core.proofs.ItemLemmas.{different_behind, first_apart, item_with-contains}
use Rattle.channel_core.proofs.NumberLemmas.{cases_option, least_absent-is}
use Rattle.channel_core.proofs.SoundLemmas.{sound}

-- ---- items with different numbers

-- an item that stands there is looked up by its number
item_with-found : (ps : List (ℕ × Item)) (n : ℕ) (item : Item)
    → AreDifferent ps
    → Contains ps (n, item)
    → item_with ps n ≡ Some item
item_with-found [] n item different there = absurd (let inside = there.1 in omega arith)
item_with-found (p ∷ ps) n item different there =
    ⊎_elim
    (λ (only : Contains (p ∷ []) (n, item)).
    ⊎_elim
    (λ (never : Contains [] (n, item)). absurd (let inside = never.1 in omega arith))
    (λ (is : p ≡ (n, item)).
    let number : n ≡ p.0 = sym (ap (λ (q : ℕ × Item). q.0) is) in
    let value : p.1 ≡ item = ap (λ (q : ℕ × Item). q.1) is in
    rw (eq-eqb n p.0 number) (ap (λ (i : Item). Some i) value))
    (Contains-push_cases [] p (n, item) only))
    (λ (behind : Contains ps (n, item)).
    let other : n ≢ p.0 = λ is. first_apart p ps (n, item) different behind (sym is) in
    rw (ne_eqb n p.0 other) (item_with-found ps n item (different_behind p ps different) behind))
    (Contains-append_cases (p ∷ []) ps (n, item) there)

-- without a number, each other is looked up as before
item_with-without : (ps : List (ℕ × Item)) (n k : ℕ)
    → item_with (filter (λ p. not (eqb n p.0)) ps) k ≡ cond (eqb k n) None (item_with ps k)
item_with-without [] n k = none (eqb k n)
  where
    none : (b : Bool) → None ≡ cond {A = Option Item} b None None
    none true = refl
    none false = refl
item_with-without (p ∷ ps) n k =
    ⊎_elim
    (λ (gone : eqb n p.0 ≡ true).
    rw gone
    (item_with-without ps n k
    ∙ ⊎_elim
    (λ (same : k ≡ n). rw (eq-eqb k n same) refl)
    (λ (other : k ≢ n).
    let number = eqb-true n p.0 gone in
    rw (ne_eqb k n other, ne_eqb k p.0 (λ is. other (is ∙ sym number))) refl)
    (cases_eq k n)))
    (λ (stays : eqb n p.0 ≡ false).
    rw stays
    (⊎_elim
    (λ (here : k ≡ p.0).
    let other : k ≢ n = λ is. eqb-false n p.0 stays (sym is ∙ here) in
    rw (eq-eqb k p.0 here, ne_eqb k n other) refl)
    (λ (other : k ≢ p.0).
    rw (ne_eqb k p.0 other) (item_with-without ps n k))
    (cases_eq k p.0)))
    (cases_Bool (eqb n p.0))

-- a number that is looked up in vain stands nowhere
filter-absent : (ps : List (ℕ × Item)) (n : ℕ)
    → item_with ps n ≡ None
    → filter (λ p. eqb n p.0) ps ≡ []
filter-absent [] n absent = refl
filter-absent (p ∷ ps) n absent =
    ⊎_elim
    (λ (here : eqb n p.0 ≡ true). let never : Some p.1 ≡ None = rw here at absent in cc)
    (λ (other : eqb n p.0 ≡ false). rw other (filter-absent ps n (rw other at absent)))
    (cases_Bool (eqb n p.0))

-- of items with different numbers, one alone has this number
filter-only : (ps : List (ℕ × Item)) (n : ℕ) (item : Item)
    → AreDifferent ps
    → item_with ps n ≡ Some item
    → filter (λ p. eqb n p.0) ps ≡ (n, item) ∷ []
filter-only [] n item different is = cc
filter-only (p ∷ ps) n item different is =
    ⊎_elim
    (λ (here : eqb n p.0 ≡ true).
    let number = eqb-true n p.0 here in
    let found : Some p.1 ≡ Some item = rw here at is in
    let value : p.1 ≡ item = cc in
    let none : item_with ps n ≡ None
    = ⊎_elim
    (λ (none : item_with ps n ≡ None). none)
    (λ (some : (i : Item) × (item_with ps n ≡ Some i)).
    absurd
    (first_apart p ps (n, some.0) different (item_with-contains ps n some.0 some.1) (sym number)))
    (cases_option (item_with ps n)) in
    rw (here, filter-absent ps n none) (rw (number, value) refl))
    (λ (other : eqb n p.0 ≡ false).
    rw other (filter-only ps n item (different_behind p ps different) (rw other at is)))
    (cases_Bool (eqb n p.0))

-- items that are looked up alike are the same, in some order
pub same_items : (ps qs : List (ℕ × Item))
    → AreDifferent ps
    → AreDifferent qs
    → ((n : ℕ) → item_with ps n ≡ item_with qs n)
    → IsPermutation ps qs
same_items [] [] different_p different_q same = IsPermutation-refl []
same_items [] (q ∷ qs) different_p different_q same =
    let here = same q.0 in
    let found : item_with (q ∷ qs) q.0 ≡ Some q.1 = rw (eq-eqb q.0 q.0 refl) refl in
    let never : None ≡ Some q.1 = here ∙ found in
    cc
same_items (p ∷ ps) qs different_p different_q same =
    let here : eqb p.0 p.0 ≡ true = eq-eqb p.0 p.0 refl in
    let found : item_with qs p.0 ≡ Some p.1 = sym (same p.0) ∙ rw here refl in
    let Only : ℕ × Item → Bool = λ q. eqb p.0 q.0 in
    let Others : ℕ × Item → Bool = λ q. not (eqb p.0 q.0) in
    let rest = filter Others qs in
    let absent : item_with ps p.0 ≡ None
    = ⊎_elim
    (λ (none : item_with ps p.0 ≡ None). none)
    (λ (some : (i : Item) × (item_with ps p.0 ≡ Some i)).
    absurd (first_apart p ps (p.0, some.0) different_p
    (item_with-contains ps p.0 some.0 some.1) refl))
    (cases_option (item_with ps p.0)) in
    let alike : (n : ℕ) → item_with ps n ≡ item_with rest n
    = λ n. ⊎_elim
    (λ (first : n ≡ p.0).
    ap (item_with ps) first ∙ absent
    ∙ sym (item_with-without qs p.0 n ∙ rw (eq-eqb n p.0 first) refl))
    (λ (other : n ≢ p.0).
    let later : item_with (p ∷ ps) n ≡ item_with ps n = rw (ne_eqb n p.0 other) refl in
    sym later ∙ same n
    ∙ sym (item_with-without qs p.0 n ∙ rw (ne_eqb n p.0 other) refl))
    (cases_eq n p.0) in
    let others = same_items ps rest (different_behind p ps different_p)
    (AllPairs-filter (λ (p q : ℕ × Item). p.0 ≢ q.0) Others qs different_q) alike in
    let parts = IsPermutation-filter_both Only Others (λ q. refl) qs in
    let one : filter Only qs ++ rest ≡ p ∷ rest
    = ap (λ (l : List (ℕ × Item)). l ++ rest) (filter-only qs p.0 p.1 different_q found) in
    IsPermutation-trans (p ∷ ps) (p ∷ rest) qs
    (IsPermutation-cons p ps rest others)
    (IsPermutation-sym qs (p ∷ rest) (subst (IsPermutation qs) one parts))

-- the same items in some order are looked up alike
pub item_with-same : (ps qs : List (ℕ × Item))
    → AreDifferent ps
    → IsPermutation ps qs
    → (n : ℕ)
    → item_with qs n ≡ item_with ps n
item_with-same ps qs different same n =
    ⊎_elim
    (λ (absent : item_with qs n ≡ None).
    ⊎_elim
    (λ (none : item_with ps n ≡ None). absent ∙ sym none)
    (λ (some : (i : Item) × (item_with ps n ≡ Some i)).
    let there = Contains-permutation ps qs (n, some.0) same
    (item_with-contains ps n some.0 some.1) in
    absurd (in_vain qs there absent))
    (cases_option (item_with ps n)))
    (λ (some : (i : Item) × (item_with qs n ≡ Some i)).
    let there = Contains-permutation qs ps (n, some.0) (IsPermutation-sym ps qs same)
    (item_with-contains qs n some.0 some.1) in
    some.1 ∙ sym (item_with-found ps n some.0 different there))
    (cases_option (item_with qs n))
  where
    in_vain : (qs : List (ℕ × Item)) {item : Item}
        → Contains qs (n, item)
        → item_with qs n ≡ None
        → ⊥
    in_vain [] there absent = let inside = there.1 in omega arith
    in_vain (q ∷ qs) {item} there absent =
        ⊎_elim
        (λ (here : eqb n q.0 ≡ true). let never : Some q.1 ≡ None = rw here at absent in cc)
        (λ (other : eqb n q.0 ≡ false).
        ⊎_elim
        (λ (only : Contains (q ∷ []) (n, item)).
        ⊎_elim
        (λ (never : Contains [] (n, item)). let inside = never.1 in omega arith)
        (λ (is : q ≡ (n, item)). eqb-false n q.0 other (sym (ap (λ (x : ℕ × Item). x.0) is)))
        (Contains-push_cases [] q (n, item) only))
        (λ (behind : Contains qs (n, item)). in_vain qs behind (rw other at absent))
        (Contains-append_cases (q ∷ []) qs (n, item) there))
        (cases_Bool (eqb n q.0))

-- ---- the items above the next number

-- the items with the numbers above a bound
abbrev pub items_above : ℕ → List (ℕ × Item) → List (ℕ × Item)
items_above bound ps = filter (λ p. ltb bound p.0) ps

-- above a bound the items are looked up as they were
item_with-above : (bound : ℕ) (ps : List (ℕ × Item)) (n : ℕ)
    → item_with (items_above bound ps) n ≡ cond (ltb bound n) (item_with ps n) None
item_with-above bound [] n = none (ltb bound n)
  where
    none : (b : Bool) → None ≡ cond {A = Option Item} b None None
    none true = refl
    none false = refl
item_with-above bound (p ∷ ps) n =
    ⊎_elim
    (λ (here : n ≡ p.0).
    let same : ltb bound n ≡ ltb bound p.0 = ap (ltb bound) here in
    ⊎_elim
    (λ (stays : ltb bound p.0 ≡ true).
    rw (same, stays, eq-eqb n p.0 here) refl)
    (λ (gone : ltb bound p.0 ≡ false).
    rw (same, gone) (item_with-above bound ps n ∙ rw (same, gone) refl))
    (cases_Bool (ltb bound p.0)))
    (λ (other : n ≢ p.0).
    ⊎_elim
    (λ (stays : ltb bound p.0 ≡ true).
    rw (stays, ne_eqb n p.0 other) (item_with-above bound ps n))
    (λ (gone : ltb bound p.0 ≡ false).
    rw (gone, ne_eqb n p.0 other) (item_with-above bound ps n))
    (cases_Bool (ltb bound p.0)))
    (cases_eq n p.0)

-- the items above their least missing number
abbrev pub early_of : List (ℕ × Item) → List (ℕ × Item)
early_of ps = items_above (least_absent (numbers_of ps)) ps

-- what is kept of the items above the first missing number, which has none itself
item_with-missing : (ps : List (ℕ × Item)) (missing n : ℕ)
    → item_with ps missing ≡ None
    → item_with (items_above missing ps) n ≡ cond (ltb n missing) None (item_with ps n)
item_with-missing ps missing n none =
    item_with-above missing ps n
    ∙ ⊎_elim
    (λ (below : n < missing). rw (lt-ltb n missing below, le-ltb missing n (omega arith)) refl)
    (λ (from : missing ≤ n).
    ⊎_elim
    (λ (at : n ≡ missing). rw (at, ltb-same missing) (sym none))
    (λ (apart : n ≢ missing).
    rw (le-ltb n missing from, lt-ltb missing n (omega arith)) refl)
    (cases_eq n missing))
    (cases_lt n missing)
  where
    ltb-same : (k : ℕ) → ltb k k ≡ false
    ltb-same k = le-ltb k k (omega arith)

-- a number that stands nowhere is looked up in vain
item_with-absent : (ps : List (ℕ × Item)) (n : ℕ)
    → has_number (numbers_of ps) n ≡ false
    → item_with ps n ≡ None
item_with-absent [] n absent = refl
item_with-absent (p ∷ ps) n absent =
    ⊎_elim
    (λ (here : eqb n p.0 ≡ true). let never : true ≡ false = rw here at absent in cc)
    (λ (other : eqb n p.0 ≡ false). rw other (item_with-absent ps n (rw other at absent)))
    (cases_Bool (eqb n p.0))

-- an early item, looked up
pub item_with-early : (ps : List (ℕ × Item)) (n : ℕ)
    → item_with (early_of ps) n
    ≡ cond (ltb n (least_absent (numbers_of ps))) None (item_with ps n)
item_with-early ps n =
    let missing = least_absent (numbers_of ps) in
    item_with-missing ps missing n
    (item_with-absent ps missing (least_absent-is (numbers_of ps)).0)

-- the early items of a legal history have different numbers
early_items-different : (w : ℕ) (h : List Entry) → IsLegal w h → AreDifferent (early_items h)
early_items-different w h legal =
    AllPairs-filter (λ (p q : ℕ × Item). p.0 ≢ q.0) (λ p. ltb (next_in_order h) p.0)
    (taken_items h) (sound w h legal).once

-- the early items of an end are looked up as those that the history tells
pub early_known : (w : ℕ) (h : List Entry) (end : EndState)
    → IsLegal w h
    → Stands w end h
    → (n : ℕ)
    → item_with end.received.early n
    ≡ cond (ltb n (next_in_order h)) None (item_with (taken_items h) n)
early_known w h end legal stands n =
    item_with-same (early_items h) end.received.early
    (early_items-different w h legal) stands.early n
    ∙ item_with-early (taken_items h) n

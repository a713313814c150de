-- The end of a direction, among the messages that were taken.
use Rattle.std.proofs.Common.{◌≡◌, ℕ, ◌+◌, ◌<◌, ◌≤◌, Bool, true, false, ◌&&◌, Option, Some, None, List, [], ◌∷◌, ◌⊎◌, ⊎_elim, refl, sym, ap, subst, ◌∙◌, arith, find, eqb, ltb}
use Rattle.std.specs.List.{All, Contains, list_any, sum}
use Rattle.std.specs.Option.{option_map}
use Rattle.std.proofs.lemmas.Bool.{and_parts, both_ways, cases_Bool, cases_lt, eq-eqb, eqb-true, le-ltb, lt-ltb, ltb-true, or_cases, or_right}
use Rattle.std.proofs.lemmas.List.Elements.{All-cons, All-contains, All-contains_itself, All-nil, All-weaker, Contains-append_cases, Contains-append_right, Contains-push_cases}
use Rattle.std.proofs.lemmas.List.Folds.{list_any-from_Any, list_any_none}
use Rattle.channel_core.specs.History.{TakenMessage, items_of}
use Rattle.channel_core.specs.Numbers.{has_number, least_above, numbers_of}
use Rattle.channel_core.proofs.NumberLemmas.{cases_option, has_number-le_sum, least_below-is, least_below-none, least_below-some}

-- ---- searches

-- a search that finds finds an element that passes
pub find-some : {X : Type 0} (p : X → Bool) (xs : List X) (x : X)
    → find p xs ≡ Some x
    → Contains xs x × (p x ≡ true)
find-some p [] x is = cc
find-some {X} p (y ∷ xs) x is =
    ⊎_elim
    (λ (passes : p y ≡ true).
    let found : Some y ≡ Some x = rw passes at is in
    let same : y ≡ x = cc in
    ((0, omega arith, same), subst (λ (z : X). p z ≡ true) same passes))
    (λ (fails : p y ≡ false).
    let rest = find-some p xs x (rw fails at is) in
    (Contains-append_right (y ∷ []) xs x rest.0, rest.1))
    (cases_Bool (p y))

-- where it finds none, none passes
pub find-none : {X : Type 0} (p : X → Bool) (xs : List X)
    → find p xs ≡ None
    → All (λ x. p x ≡ false) xs
find-none {X} p [] is = All-nil (λ (x : X). p x ≡ false)
find-none {X} p (y ∷ xs) is =
    ⊎_elim
    (λ (passes : p y ≡ true). let never : Some y ≡ None = rw passes at is in absurd (unlike y never))
    (λ (fails : p y ≡ false).
    All-cons (λ (x : X). p x ≡ false) y xs fails (find-none p xs (rw fails at is)))
    (cases_Bool (p y))
  where
    unlike : (y : X) → Some y ≡ None → ⊥
    unlike y is = cc

-- where none passes, none is found
pub find-fails : {X : Type 0} (p : X → Bool) (xs : List X)
    → All (λ x. p x ≡ false) xs
    → find p xs ≡ None
find-fails {X} p xs all =
    ⊎_elim
    (λ (none : find p xs ≡ None). none)
    (λ (found : (x : X) × (find p xs ≡ Some x)).
    let is = find-some p xs found.0 found.1 in
    absurd (both_ways (p found.0)
    (All-contains (λ (x : X). p x ≡ false) xs found.0 all is.0) is.1))
    (cases_option (find p xs))

-- where one passes, one is found
pub find-passes : {X : Type 0} (p : X → Bool) (xs : List X) (x : X)
    → Contains xs x
    → p x ≡ true
    → (y : X) × (find p xs ≡ Some y)
find-passes {X} p xs x there passes =
    ⊎_elim
    (λ (none : find p xs ≡ None).
    absurd (both_ways (p x)
    (All-contains (λ (x : X). p x ≡ false) xs x (find-none p xs none) there) passes))
    (λ (found : (y : X) × (find p xs ≡ Some y)). found)
    (cases_option (find p xs))

-- ---- the least number above another

pub least_above-some : (numbers : List ℕ) (n m : ℕ)
    → least_above numbers n ≡ Some m
    → (n < m) × (has_number numbers m ≡ true)
    × ((k : ℕ) → n < k → k < m → has_number numbers k ≡ false)
least_above-some numbers n m is =
    let test : ℕ → Bool = λ k. ltb n k && has_number numbers k in
    let found = least_below-some test (sum numbers + 1) m is in
    let parts = and_parts (ltb n m) (has_number numbers m) found.1 in
    (ltb-true n m parts.0, parts.1, λ k over under. fails k over (found.2 k under))
  where
    fails : (k : ℕ) → n < k → (ltb n k && has_number numbers k) ≡ false → has_number numbers k ≡ false
    fails k over none = rw (lt-ltb n k over) at none

pub least_above-none : (numbers : List ℕ) (n : ℕ)
    → least_above numbers n ≡ None
    → (k : ℕ)
    → has_number numbers k ≡ true
    → k ≤ n
least_above-none numbers n is k there =
    ⊎_elim
    (λ (over : n < k).
    let test : ℕ → Bool = λ m. ltb n m && has_number numbers m in
    let most = has_number-le_sum numbers k there in
    let fails = least_below-none test (sum numbers + 1) is k (omega arith) in
    let none : has_number numbers k ≡ false = rw (lt-ltb n k over) at fails in
    absurd (both_ways (has_number numbers k) none there))
    (λ (low : k ≤ n). low)
    (cases_lt n k)

pub least_above-is : (numbers : List ℕ) (n m : ℕ)
    → n < m
    → has_number numbers m ≡ true
    → ((k : ℕ) → n < k → k < m → has_number numbers k ≡ false)
    → least_above numbers n ≡ Some m
least_above-is numbers n m over there least =
    let test : ℕ → Bool = λ k. ltb n k && has_number numbers k in
    let most = has_number-le_sum numbers m there in
    least_below-is test (sum numbers + 1) m (omega arith)
    (rw (lt-ltb n m over) there)
    (λ k under. ⊎_elim
    (λ (higher : n < k). rw (lt-ltb n k higher) (least k higher under))
    (λ (low : k ≤ n). rw (le-ltb n k low) refl)
    (cases_lt n k))

-- ---- the last message

-- the number of the last message
abbrev pub last_of : List TakenMessage → Option ℕ
last_of taken = option_map (λ m. m.seq) (find (λ m. m.last) taken)

-- the numbers of messages
abbrev pub seqs_of : List TakenMessage → List ℕ
seqs_of taken = numbers_of (items_of taken)

-- no message is above the last one
abbrev pub IsTopmost : List TakenMessage → TakenMessage → Type 0
IsTopmost taken m = m.last ≡ true → (k : ℕ) → has_number (seqs_of taken) k ≡ true → k ≤ m.seq

abbrev pub EndsTopmost : List TakenMessage → Type 0
EndsTopmost taken = All (IsTopmost taken) taken

-- a message has its number among those of all
pub has_seq : (taken : List TakenMessage) (m : TakenMessage)
    → Contains taken m
    → has_number (seqs_of taken) m.seq ≡ true
has_seq [] m there = absurd (let inside = there.1 in omega arith)
has_seq (p ∷ taken) m there =
    ⊎_elim
    (λ (only : Contains (p ∷ []) m).
    ⊎_elim
    (λ (never : Contains [] m). absurd (let inside = never.1 in omega arith))
    (λ (is : p ≡ m).
    rw (eq-eqb m.seq p.seq (sym (ap (λ (q : TakenMessage). q.seq) is))) refl)
    (Contains-push_cases [] p m only))
    (λ (behind : Contains taken m).
    or_right (eqb m.seq p.seq) (has_number (seqs_of taken) m.seq) (has_seq taken m behind))
    (Contains-append_cases (p ∷ []) taken m there)

-- a number among those of all is that of a message
pub message_with : (taken : List TakenMessage) (n : ℕ)
    → has_number (seqs_of taken) n ≡ true
    → (m : TakenMessage) × Contains taken m × (m.seq ≡ n)
message_with [] n there = cc
message_with (p ∷ taken) n there =
    ⊎_elim
    (λ (here : eqb n p.seq ≡ true). (p, (0, omega arith, refl), sym (eqb-true n p.seq here)))
    (λ (later : has_number (seqs_of taken) n ≡ true).
    let found = message_with taken n later in
    (found.0, Contains-append_right (p ∷ []) taken found.0 found.1, found.2))
    (or_cases (eqb n p.seq) (has_number (seqs_of taken) n) there)

-- the last message is there, with its number
pub last_of-some : (taken : List TakenMessage) (n : ℕ)
    → last_of taken ≡ Some n
    → (m : TakenMessage) × Contains taken m × (m.last ≡ true) × (m.seq ≡ n)
last_of-some taken n is =
    ⊎_elim
    (λ (none : find (λ m. m.last) taken ≡ None).
    let never : None ≡ Some n
    = sym (ap (λ (o : Option TakenMessage). option_map (λ m. m.seq) o) none) ∙ is in
    absurd (unlike n never))
    (λ (found : (m : TakenMessage) × (find (λ m. m.last) taken ≡ Some m)).
    let there = find-some (λ (m : TakenMessage). m.last) taken found.0 found.1 in
    let number : Some found.0.seq ≡ Some n
    = sym (ap (λ (o : Option TakenMessage). option_map (λ m. m.seq) o) found.1) ∙ is in
    (found.0, there.0, there.1, some_is found.0.seq n number))
    (cases_option (find (λ (m : TakenMessage). m.last) taken))
  where
    unlike : (n : ℕ) → None ≡ Some n → ⊥
    unlike n is = cc

    some_is : (k n : ℕ) → Some k ≡ Some n → k ≡ n
    some_is k n is = cc

-- where there is none, no message is the last
pub last_of-none : (taken : List TakenMessage)
    → last_of taken ≡ None
    → All (λ m. m.last ≡ false) taken
last_of-none taken is =
    find-none (λ (m : TakenMessage). m.last) taken
    (by_case (find (λ (m : TakenMessage). m.last) taken) is)
  where
    by_case : (o : Option TakenMessage) → option_map (λ m. m.seq) o ≡ None → o ≡ None
    by_case None is = refl
    by_case (Some m) is = cc

-- a message that is the last has the number of the last
pub last_of-is : (taken : List TakenMessage) (m : TakenMessage)
    → EndsTopmost taken
    → Contains taken m
    → m.last ≡ true
    → last_of taken ≡ Some m.seq
last_of-is taken m top there last =
    ⊎_elim
    (λ (none : last_of taken ≡ None).
    absurd (both_ways m.last
    (All-contains (λ (p : TakenMessage). p.last ≡ false) taken m (last_of-none taken none) there)
    last))
    (λ (found : (n : ℕ) × (last_of taken ≡ Some n)).
    let other = last_of-some taken found.0 found.1 in
    let p = other.0 in
    let up = All-contains (IsTopmost taken) taken m top there last p.seq
    (has_seq taken p other.1) in
    let down = All-contains (IsTopmost taken) taken p top other.1 other.2 m.seq
    (has_seq taken m there) in
    let number : p.seq ≡ found.0 = other.3 in
    let same : found.0 ≡ m.seq = omega arith in
    found.1 ∙ ap (λ (n : ℕ). Some n) same)
    (cases_option (last_of taken))

-- whether the last message, if it is there, passes a test of its number
abbrev pub passes_last : (ℕ → Bool) → Option ℕ → Bool
passes_last test None = false
passes_last test (Some n) = test n

-- some last message passes a test where the last one does
pub any_last : (test : ℕ → Bool) (taken : List TakenMessage)
    → EndsTopmost taken
    → list_any (λ m. m.last && test m.seq) taken ≡ passes_last test (last_of taken)
any_last test taken top =
    ⊎_elim
    (λ (none : last_of taken ≡ None).
    list_any_none (λ (m : TakenMessage). m.last && test m.seq) taken
    (All-weaker (λ (m : TakenMessage). m.last ≡ false)
    (λ (m : TakenMessage). (m.last && test m.seq) ≡ false)
    (λ m other. rw other refl) taken (last_of-none taken none))
    ∙ sym (ap (passes_last test) none))
    (λ (found : (n : ℕ) × (last_of taken ≡ Some n)).
    some found.0 found.1 ∙ sym (ap (passes_last test) found.1))
    (cases_option (last_of taken))
  where
    some : (n : ℕ)
        → last_of taken ≡ Some n
        → list_any (λ m. m.last && test m.seq) taken ≡ test n
    some n is =
        ⊎_elim
        (λ (passes : test n ≡ true).
        let found = last_of-some taken n is in
        let m = found.0 in
        let both : (m.last && test m.seq) ≡ true = rw (found.2, found.3, passes) refl in
        list_any-from_Any (λ (m : TakenMessage). m.last && test m.seq) taken
        (found.1.0, m, found.1.1, found.1.2, both)
        ∙ sym passes)
        (λ (misses : test n ≡ false).
        list_any_none (λ (m : TakenMessage). m.last && test m.seq) taken
        (All-weaker (Contains taken)
        (λ (m : TakenMessage). (m.last && test m.seq) ≡ false)
        (λ m there. fails m there misses) taken (All-contains_itself taken))
        ∙ sym misses)
        (cases_Bool (test n))
      where
        fails : (m : TakenMessage)
            → Contains taken m
            → test n ≡ false
            → (m.last && test m.seq) ≡ false
        fails m there misses =
            ⊎_elim
            (λ (last : m.last ≡ true).
            let number : Some m.seq ≡ Some n = sym (last_of-is taken m top there last) ∙ is in
            let same : m.seq ≡ n = cc in
            rw (last, same, misses) refl)
            (λ (not_last : m.last ≡ false). rw not_last refl)
            (cases_Bool m.last)

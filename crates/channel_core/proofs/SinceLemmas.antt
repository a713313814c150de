-- What has been so since an entry, with one entry more.
use Rattle.std.proofs.Common.{◌≡◌, ◌↔◌, Bool, true, false, List, [], ◌∷◌, ◌++◌, ◌⊎◌, inl, inr, ⊎_elim, refl, sym, ap, subst, ◌∙◌, append_assoc, arith, length, length-append}
use Rattle.std.specs.List.{All}
use Rattle.std.proofs.lemmas.Bool.{both_ways}
use Rattle.std.proofs.lemmas.List.{length_push}
use Rattle.std.proofs.lemmas.List.Elements.{All-nil, All-push}
use Rattle.channel_core.specs.Call.{Entry}
use Rattle.channel_core.specs.Since.{IsSince}
use Rattle.channel_core.proofs.HistoryLemmas.{by_pushes}
use Rattle.channel_core.proofs.LegalLemmas.{All-pushed}

-- a list is empty or has a last element
last_or_none : {X : Type 0} (xs : List X)
    → (xs ≡ []) ⊎ ((front : List X) × (x : X) × (xs ≡ front ++ x ∷ []))
last_or_none {X} xs =
    by_pushes
    (λ (xs : List X). (xs ≡ []) ⊎ ((front : List X) × (x : X) × (xs ≡ front ++ x ∷ [])))
    (inl refl)
    (λ xs x before. inr (xs, x, refl))
    xs

-- no list with a last element is empty
not_empty : {X : Type 0} (xs : List X) (x : X) → xs ++ x ∷ [] ≡ [] → ⊥
not_empty xs x is = let long = length_push xs x in let none = ap length is in omega arith

-- lists with the same elements have the same last one
pushed_same : {X : Type 0} (xs ys : List X) (x y : X)
    → xs ++ x ∷ [] ≡ ys ++ y ∷ []
    → (xs ≡ ys) × (x ≡ y)
pushed_same [] [] x y is = (refl, cc)
pushed_same [] (z ∷ ys) x y is = absurd (not_empty ys y cc)
pushed_same (z ∷ xs) [] x y is = absurd (not_empty xs x cc)
pushed_same (z ∷ xs) (z' ∷ ys) x y is =
    let rest = pushed_same xs ys x y cc in
    let first : z ≡ z' = cc in
    let same = rest.0 in
    (cc, rest.1)

-- the last entry begins it
since-begins : (B : List Entry → Entry → Type 0) (E : Entry → Type 0) (h : List Entry) (e : Entry)
    → B h e
    → IsSince B E (h ++ e ∷ [])
since-begins B E h e begins =
    record {
      before = h;
      entry = e;
      after = [];
      parts = refl;
      begins = begins;
      lasts = All-nil (λ (x : Entry). ¬ E x);
    }

-- the last entry does not end it
since-lasts : (B : List Entry → Entry → Type 0) (E : Entry → Type 0) (h : List Entry) (e : Entry)
    → IsSince B E h
    → ¬ E e
    → IsSince B E (h ++ e ∷ [])
since-lasts B E h e since goes_on =
    record {
      before = since.before;
      entry = since.entry;
      after = since.after ++ e ∷ [];
      parts =
          ap (λ (l : List Entry). l ++ e ∷ []) since.parts
          ∙ append_assoc since.before (since.entry ∷ since.after) (e ∷ []);
      begins = since.begins;
      lasts = All-push (λ (x : Entry). ¬ E x) since.after e since.lasts goes_on;
    }

-- it begins with the last entry, or began before and was not ended by it
since-pushed : (B : List Entry → Entry → Type 0) (E : Entry → Type 0) (h : List Entry) (e : Entry)
    → IsSince B E (h ++ e ∷ [])
    → B h e ⊎ ((¬ E e) × IsSince B E h)
since-pushed B E h e since =
    ⊎_elim
    (λ (none : since.after ≡ []).
    let same = pushed_same h since.before e since.entry
    (since.parts ∙ ap (λ (l : List Entry). since.before ++ since.entry ∷ l) none) in
    inl
    (subst (λ (x : Entry). B h x) (sym same.1)
    (subst (λ (l : List Entry). B l since.entry) (sym same.0) since.begins)))
    (λ (some : (front : List Entry) × (x : Entry) × (since.after ≡ front ++ x ∷ [])).
    let same = pushed_same h (since.before ++ since.entry ∷ some.0) e some.1
    (since.parts
    ∙ ap (λ (l : List Entry). since.before ++ since.entry ∷ l) some.2
    ∙ sym (append_assoc since.before (since.entry ∷ some.0) (some.1 ∷ []))) in
    let lasts = All-pushed (λ (x : Entry). ¬ E x) some.0 some.1
    (subst (All (λ (x : Entry). ¬ E x)) some.2 since.lasts) in
    inr (
      subst (λ (x : Entry). ¬ E x) (sym same.1) lasts.1,
      record {
        before = since.before;
        entry = since.entry;
        after = some.0;
        parts = same.0;
        begins = since.begins;
        lasts = lasts.0;
      },
    ))
    (last_or_none since.after)

-- in an empty history it never began
since-nil : (B : List Entry → Entry → Type 0) (E : Entry → Type 0) → IsSince B E [] → ⊥
since-nil B E since =
    let long = ap length since.parts in
    let parts = length-append since.before (since.entry ∷ since.after) in
    omega arith

-- what each entry begins, or leaves unless it ends it, has been so since an entry
pub since_holds : (Allowed : List Entry → Type 0)
    (B : List Entry → Entry → Type 0) (E : Entry → Type 0) (F : List Entry → Type 0)
    → ((h : List Entry) (e : Entry) → Allowed (h ++ e ∷ []) → Allowed h)
    → ¬ F []
    → ((h : List Entry) (e : Entry)
    → Allowed (h ++ e ∷ [])
    → F (h ++ e ∷ []) ↔ (B h e ⊎ ((¬ E e) × F h)))
    → (h : List Entry)
    → Allowed h
    → F h ↔ IsSince B E h
since_holds Allowed B E F front none step h =
    by_pushes
    (λ (h : List Entry). Allowed h → F h ↔ IsSince B E h)
    (λ _. (λ is. absurd (none is), λ since. absurd (since-nil B E since)))
    (λ h e before allowed. one h e (before (front h e allowed)) (step h e allowed))
    h
  where
    one : (h : List Entry) (e : Entry)
        → (F h ↔ IsSince B E h)
        → (F (h ++ e ∷ []) ↔ (B h e ⊎ ((¬ E e) × F h)))
        → F (h ++ e ∷ []) ↔ IsSince B E (h ++ e ∷ [])
    one h e before step = (
      λ is. ⊎_elim
          (λ (begins : B h e). since-begins B E h e begins)
          (λ (stays : (¬ E e) × F h). since-lasts B E h e (before.0 stays.1) stays.0)
          (step.0 is),
      λ since. step.1
          (⊎_elim
          (λ (begins : B h e). inl begins)
          (λ (goes_on : (¬ E e) × IsSince B E h). inr (goes_on.0, before.1 goes_on.1))
          (since-pushed B E h e since)),
    )

-- a flag that one entry more sets, clears or leaves
abbrev pub Turns : Type 0 → Type 0 → Bool → Bool → Type 0
Turns begins ends old new =
    (begins × (new ≡ true))
    ⊎ ((¬ begins) × ends × (new ≡ false))
    ⊎ ((¬ begins) × (¬ ends) × (new ≡ old))

-- it is set by what begins it, or was set and what comes does not end it
turned : (begins ends : Type 0) (old new : Bool)
    → Turns begins ends old new
    → (new ≡ true) ↔ (begins ⊎ ((¬ ends) × (old ≡ true)))
turned begins ends old new (inl set) = (λ _. inl set.0, λ _. set.1)
turned begins ends old new (inr (inl cleared)) = (
  λ is. absurd (both_ways new cleared.2 is),
  λ either. ⊎_elim
      (λ (is : begins). absurd (cleared.0 is))
      (λ (stays : (¬ ends) × (old ≡ true)). absurd (stays.0 cleared.1))
      either,
)
turned begins ends old new (inr (inr left)) = (
  λ is. inr (left.1, sym left.2 ∙ is),
  λ either. ⊎_elim
      (λ (is : begins). absurd (left.0 is))
      (λ (stays : (¬ ends) × (old ≡ true)). left.2 ∙ stays.1)
      either,
)

-- such a flag is set where it has been so since an entry
pub since_is : (Allowed : List Entry → Type 0)
    (B : List Entry → Entry → Type 0) (E : Entry → Type 0) (flag : List Entry → Bool)
    → ((h : List Entry) (e : Entry) → Allowed (h ++ e ∷ []) → Allowed h)
    → flag [] ≡ false
    → ((h : List Entry) (e : Entry)
    → Allowed (h ++ e ∷ [])
    → Turns (B h e) (E e) (flag h) (flag (h ++ e ∷ [])))
    → (h : List Entry)
    → Allowed h
    → (flag h ≡ true) ↔ IsSince B E h
since_is Allowed B E flag front none turns =
    since_holds Allowed B E (λ (h : List Entry). flag h ≡ true) front (both_ways (flag []) none)
    (λ h e allowed. turned (B h e) (E e) (flag h) (flag (h ++ e ∷ [])) (turns h e allowed))

-- every history is allowed
abbrev pub Any_history : List Entry → Type 0
Any_history h = Unit {0}

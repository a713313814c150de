-- What a history that is made of parts has of calls of a kind.
use Rattle.std.proofs.Common.{◌≡◌, ◌⊎◌, inl, inr, ℕ, Bool, true, false, cond, eqb, eq-eqb, List, [], ◌∷◌, ◌++◌, refl, sym, ap, ◌∙◌}
use Rattle.std.specs.Prelude.{◌||◌}
use Rattle.std.specs.List.{flat_map, list_any}
use Rattle.std.proofs.lemmas.List.{append-nil, append_cancel_right}
use Rattle.std.proofs.lemmas.List.Concat.{flat_map-append}
use Rattle.std.proofs.lemmas.List.Elements.{filter-append}
use Rattle.std.proofs.lemmas.List.Folds.{list_any-append}
use Rattle.turn_lock.specs.declared.view.Entry.{Entry}
use Rattle.turn_lock.specs.Histories.{entries_of, entry}
use Rattle.session_run.specs.Adds.{entries_by}
use Rattle.session_end.specs.Parts.{IsMadeOf, entries_in}

pub or_cases : (b c : Bool) → (b || c) ≡ true → (b ≡ true) ⊎ (c ≡ true)
or_cases true c is = inl refl
or_cases false c is = inr is

pub or_left : (b c : Bool) → b ≡ true → (b || c) ≡ true
or_left b c is = ap (λ (x : Bool). x || c) is

pub or_right : (b c : Bool) → c ≡ true → (b || c) ≡ true
or_right true c is = refl
or_right false c is = is

pub or_none : (b c : Bool) → b ≡ false → c ≡ false → (b || c) ≡ false
or_none true c x y = x
or_none false c x y = y

-- where neither, neither
pub none_or : (b c : Bool) → (b || c) ≡ false → (b ≡ false) × (c ≡ false)
none_or true c is = absurd (cc)
none_or false c is = (refl, is)

same_truth : (b c : Bool) → (b ≡ true → c ≡ true) → (c ≡ true → b ≡ true) → b ≡ c
same_truth true true f g = refl
same_truth true false f g = sym (f refl)
same_truth false true f g = g refl
same_truth false false f g = refl

-- what is not true is false
pub not_true : (b : Bool) → (b ≡ true → ⊥) → b ≡ false
not_true true never = absurd (never refl)
not_true false never = refl

module _ {C A : Type 0} (p : Entry C A → Bool) where
  kept : (b : Bool) (e : Entry C A) (l : List (Entry C A)) → list_any p l ≡ true
      → list_any p (cond b (e ∷ l) l) ≡ true
  kept true e l is = or_right (p e) (list_any p l) is
  kept false e l is = is

  by_number : (e : Entry C A) (h : List (Entry C A))
      → (list_any p h ≡ true → (q : ℕ) × (list_any p (entries_of q h) ≡ true))
      → ((p e ≡ true) ⊎ (list_any p h ≡ true))
      → (q : ℕ) × (list_any p (entries_of q (e ∷ h)) ≡ true)
  by_number e h more (inl here) = (
    e.number,
    ap
        (λ (b : Bool).
        list_any p (cond b (e ∷ entries_of e.number h) (entries_of e.number h)))
        (eq-eqb e.number e.number refl)
        ∙ or_left (p e) (list_any p (entries_of e.number h)) here,
  )
  by_number e h more (inr there) =
      let r : (q : ℕ) × (list_any p (entries_of q h) ≡ true) = more there in
      (r.0, kept (eqb e.number r.0) e (entries_of r.0 h) r.1)

  -- where an entry passes, one with its number does
  any_of_number : (h : List (Entry C A)) → list_any p h ≡ true
      → (q : ℕ) × (list_any p (entries_of q h) ≡ true)
  any_of_number [] is = absurd (cc)
  any_of_number (e ∷ h) is =
      by_number e h (any_of_number h) (or_cases (p e) (list_any p h) is)

  cut_true : (e : Entry C A) (l h : List (Entry C A))
      → (list_any p l ≡ true → list_any p h ≡ true)
      → ((p e ≡ true) ⊎ (list_any p l ≡ true))
      → (p e || list_any p h) ≡ true
  cut_true e l h more (inl here) = or_left (p e) (list_any p h) here
  cut_true e l h more (inr there) = or_right (p e) (list_any p h) (more there)

  cut : (b : Bool) (e : Entry C A) (l h : List (Entry C A))
      → (list_any p l ≡ true → list_any p h ≡ true)
      → list_any p (cond b (e ∷ l) l) ≡ true
      → (p e || list_any p h) ≡ true
  cut true e l h more is = cut_true e l h more (or_cases (p e) (list_any p l) is)
  cut false e l h more is = or_right (p e) (list_any p h) (more is)

  number_any : (q : ℕ) (h : List (Entry C A)) → list_any p (entries_of q h) ≡ true
      → list_any p h ≡ true
  number_any q [] is = is
  number_any q (e ∷ h) is =
      cut (eqb e.number q) e (entries_of q h) h (number_any q h) is

  -- two histories that have the same entries of each number have an entry of a kind or not
  pub same_any : (h k : List (Entry C A)) → ((q : ℕ) → entries_of q h ≡ entries_of q k)
      → list_any p h ≡ list_any p k
  same_any h k all =
      same_truth (list_any p h) (list_any p k)
      (λ is. let r = any_of_number h is in
      number_any r.0 k (ap (list_any p) (sym (all r.0)) ∙ r.1))
      (λ is. let r = any_of_number k is in
      number_any r.0 h (ap (list_any p) (all r.0) ∙ r.1))

module _ {C A : Type 0} (p : Entry C A → Bool) where
  -- whether an entry passes that has this number
  abbrev pub passes_by : ℕ → C × A → Bool
  passes_by n c = p (entry n c.0 c.1)

  pub any_by : (n : ℕ) (calls : List (C × A))
      → list_any p (entries_by n calls) ≡ list_any (passes_by n) calls
  any_by n [] = refl
  any_by n (c ∷ calls) = ap (λ (b : Bool). passes_by n c || b) (any_by n calls)

  -- none of a part with the others
  pub none_in : (n : ℕ) (calls : List (C × A)) (parts : List (ℕ × List (C × A)))
      → list_any (passes_by n) calls ≡ false
      → list_any p (entries_in parts) ≡ false
      → list_any p (entries_in ((n, calls) ∷ parts)) ≡ false
  none_in n calls parts none others =
      list_any-append p (entries_by n calls) (entries_in parts)
      ∙ or_none (list_any p (entries_by n calls)) (list_any p (entries_in parts))
      (any_by n calls ∙ none) others

  -- one of a part
  pub some_in : (n : ℕ) (calls : List (C × A)) (parts : List (ℕ × List (C × A)))
      → list_any (passes_by n) calls ≡ true
      → list_any p (entries_in ((n, calls) ∷ parts)) ≡ true
  some_in n calls parts some =
      list_any-append p (entries_by n calls) (entries_in parts)
      ∙ or_left (list_any p (entries_by n calls)) (list_any p (entries_in parts))
      (any_by n calls ∙ some)

  -- one of the others
  pub later_in : (n : ℕ) (calls : List (C × A)) (parts : List (ℕ × List (C × A)))
      → list_any p (entries_in parts) ≡ true
      → list_any p (entries_in ((n, calls) ∷ parts)) ≡ true
  later_in n calls parts some =
      list_any-append p (entries_by n calls) (entries_in parts)
      ∙ or_right (list_any p (entries_by n calls)) (list_any p (entries_in parts)) some

  -- none of one list of parts, and none of the other
  pub none_in_both : (parts others : List (ℕ × List (C × A)))
      → list_any p (entries_in parts) ≡ false
      → list_any p (entries_in others) ≡ false
      → list_any p (entries_in (parts ++ others)) ≡ false
  none_in_both [] others none other = other
  none_in_both (part ∷ parts) others none other =
      let split =
      none_or (list_any p (entries_by part.0 part.1)) (list_any p (entries_in parts))
      (sym (list_any-append p (entries_by part.0 part.1) (entries_in parts)) ∙ none) in
      list_any-append p (entries_by part.0 part.1) (entries_in (parts ++ others))
      ∙ or_none (list_any p (entries_by part.0 part.1))
      (list_any p (entries_in (parts ++ others)))
      split.0 (none_in_both parts others split.1 other)

  -- none of four parts and of those behind them
  pub none_in_four : (n m k l : ℕ) (a b c d : List (C × A)) (others : List (ℕ × List (C × A)))
      → list_any (passes_by n) a ≡ false
      → list_any (passes_by m) b ≡ false
      → list_any (passes_by k) c ≡ false
      → list_any (passes_by l) d ≡ false
      → list_any p (entries_in others) ≡ false
      → list_any p (entries_in ((n, a) ∷ (m, b) ∷ (k, c) ∷ (l, d) ∷ others)) ≡ false
  none_in_four n m k l a b c d others one two three four rest =
      none_in n a ((m, b) ∷ (k, c) ∷ (l, d) ∷ others) one
      (none_in m b ((k, c) ∷ (l, d) ∷ others) two
      (none_in k c ((l, d) ∷ others) three (none_in l d others four rest)))

-- none of what each gives
pub none_each : {X Y : Type 0} (t : Y → Bool) (f : X → List Y) (xs : List X)
    → ((x : X) → list_any t (f x) ≡ false)
    → list_any t (flat_map f xs) ≡ false
none_each t f [] none = refl
none_each t f (x ∷ xs) none =
    list_any-append t (f x) (flat_map f xs)
    ∙ or_none (list_any t (f x)) (list_any t (flat_map f xs)) (none x) (none_each t f xs none)

-- none of two lists
pub none_append : {Y : Type 0} (t : Y → Bool) (xs ys : List Y)
    → list_any t xs ≡ false
    → list_any t ys ≡ false
    → list_any t (xs ++ ys) ≡ false
none_append t xs ys one other =
    list_any-append t xs ys ∙ or_none (list_any t xs) (list_any t ys) one other

module _ {C A : Type 0} where
  pub entries_in-push : (parts : List (ℕ × List (C × A))) (n : ℕ) (calls : List (C × A))
      → entries_in (parts ++ (n, calls) ∷ []) ≡ entries_in parts ++ entries_by n calls
  entries_in-push parts n calls =
      flat_map-append (λ (p : ℕ × List (C × A)). entries_by p.0 p.1) parts ((n, calls) ∷ [])
      ∙ ap (λ l. entries_in parts ++ l) (append-nil (entries_by n calls))

  -- a history without its last entry is made of the parts without that
  pub made_before : (earlier : List (Entry C A)) (n : ℕ) (c : C) (a : A)
      (parts : List (ℕ × List (C × A)))
      → IsMadeOf (earlier ++ entry n c a ∷ []) (parts ++ (n, (c, a) ∷ []) ∷ [])
      → IsMadeOf earlier parts
  made_before earlier n c a parts made q =
      let pick = λ (e : Entry C A). eqb e.number q in
      let last : List (Entry C A) = entry n c a ∷ [] in
      append_cancel_right (entries_of q earlier) (entries_of q (entries_in parts))
      (entries_of q last)
      (sym (filter-append pick earlier last)
      ∙ made q
      ∙ ap (entries_of q) (entries_in-push parts n ((c, a) ∷ []))
      ∙ filter-append pick (entries_in parts) last)

-- Beginnings of one list.
use Rattle.std.proofs.Common.{◌≡◌, ℕ, eqb, ◌+◌, ◌<◌, ◌≤◌, Bool, cond, List, [], ◌∷◌, ◌++◌, length, sym, refl, ap, subst, ◌∙◌, ⊎_elim, arith, append-nil, append_assoc, length-append}
use mathlib.Core.List.{IsPrefix}
use mathlib.Core.Logic.{dite}
use native.Mathlib.Decide.{dec_le}
use Rattle.std.proofs.lemmas.Bool.Decides.{leb_tells}
use Rattle.std.proofs.lemmas.List.{append_cancel_left}
use Rattle.std.proofs.lemmas.List.Elements.{filter-append}
use Rattle.turn_lock.specs.declared.view.Entry.{Entry}
use Rattle.turn_lock.specs.Histories.{entries_of, longer_of}
use Rattle.turn_lock.proofs.PlaceLemmas.{none_held}

module _ {A : Type 0} where
  pub prefix_refl : (xs : List A) → IsPrefix xs xs
  prefix_refl xs = ([], append-nil xs)

  pub prefix_push : (xs h : List A) (e : A) → IsPrefix xs h → IsPrefix xs (h ++ e ∷ [])
  prefix_push xs h e p = (
    p.0 ++ e ∷ [],
    sym (append_assoc xs p.0 (e ∷ []))
        ∙ ap (λ (l : List A). l ++ e ∷ []) p.1,
  )

  pub prefix_length : (xs h : List A) → IsPrefix xs h → length xs ≤ length h
  prefix_length xs h p =
      let long : length (xs ++ p.0) ≡ length h = ap length p.1 in
      let sum : length (xs ++ p.0) ≡ length xs + length p.0 = length-append xs p.0 in omega arith

  -- a beginning that is as long is the whole list
  pub prefix_whole : (xs h : List A) → IsPrefix xs h → length h ≤ length xs → xs ≡ h
  prefix_whole xs h p le =
      let long : length (xs ++ p.0) ≡ length h = ap length p.1 in
      let sum : length (xs ++ p.0) ≡ length xs + length p.0 = length-append xs p.0 in
      let none : p.0 ≡ [] = none_held p.0 (omega arith) in
      sym (append-nil xs) ∙ ap (λ (l : List A). xs ++ l) (sym none) ∙ p.1

  -- an empty list alone begins one
  pub prefix_nil : (xs h : List A) → IsPrefix xs h → h ≡ [] → xs ≡ []
  prefix_nil [] h p empty = refl
  prefix_nil (x ∷ xs) h p empty = let is : x ∷ (xs ++ p.0) ≡ [] = p.1 ∙ empty in absurd (cc)

  -- of two beginnings of one list the shorter begins the longer
  pub prefix_of_two : (xs ys h : List A) → IsPrefix xs h → IsPrefix ys h → length xs ≤ length ys
      → IsPrefix xs ys
  prefix_of_two [] ys h p q le = (ys, refl)
  prefix_of_two (x ∷ xs) [] h p q le = absurd (omega arith)
  prefix_of_two (x ∷ xs) (y ∷ ys) [] p q le = absurd (cc p.1)
  prefix_of_two (x ∷ xs) (y ∷ ys) (z ∷ zs) p q le =
      let a : x ∷ (xs ++ p.0) ≡ z ∷ zs = p.1 in
      let b : y ∷ (ys ++ q.0) ≡ z ∷ zs = q.1 in
      let rest = prefix_of_two xs ys zs (p.0, (let e : xs ++ p.0 ≡ zs = cc in e))
      (q.0, (let e : ys ++ q.0 ≡ zs = cc in e)) (omega arith) in
      let same : x ≡ y = cc in
      (rest.0, (λ i. same i ∷ rest.1 i))

  longer_first : (xs ys : List A) → length ys ≤ length xs → longer_of xs ys ≡ xs
  longer_first xs ys le = ⊎_elim
      (λ t. ap (λ (b : Bool). cond b xs ys) t.0)
      (λ t. let lt = t.1 in absurd (omega arith))
      (leb_tells (length ys) (length xs))

  longer_second : (xs ys : List A) → length xs < length ys → longer_of xs ys ≡ ys
  longer_second xs ys lt = ⊎_elim
      (λ t. let le = t.1 in absurd (omega arith))
      (λ t. ap (λ (b : Bool). cond b xs ys) t.0)
      (leb_tells (length ys) (length xs))

  -- the longer of two beginnings of h is one, and both begin it
  pub longer_prefix : (xs ys h : List A) → IsPrefix xs h → IsPrefix ys h
      → IsPrefix (longer_of xs ys) h × IsPrefix xs (longer_of xs ys) × IsPrefix ys (longer_of xs ys)
  longer_prefix xs ys h p q =
      let Fits : List A → Type 0 = λ l. IsPrefix l h × IsPrefix xs l × IsPrefix ys l in
      dite (dec_le (length ys) (length xs))
      (λ le. subst Fits (sym (longer_first xs ys le)) (p, prefix_refl xs, prefix_of_two ys xs h q p le))
      (λ gt. let lt : length xs < length ys = omega arith in
      subst Fits (sym (longer_second xs ys lt)) (q, prefix_of_two xs ys h p q (omega arith), prefix_refl ys))

  pub longer_left : (xs ys h : List A) → xs ≡ h → IsPrefix ys h → longer_of xs ys ≡ h
  longer_left xs ys h is q =
      longer_first xs ys (subst (λ (l : List A). length ys ≤ length l) (sym is) (prefix_length ys h q)) ∙ is

  pub longer_right : (xs ys h : List A) → IsPrefix xs h → ys ≡ h → longer_of xs ys ≡ h
  longer_right xs ys h p is = dite (dec_le (length ys) (length xs))
      (λ le. longer_first xs ys le ∙ prefix_whole xs h p (subst (λ (l : List A). length l ≤ length xs) is le))
      (λ gt. longer_second xs ys (omega arith) ∙ is)

-- beginnings of a history, and the entries with a number
module _ {C A : Type 0} (q : ℕ) where
  entries_of-prefix : (xs h : List (Entry C A)) → IsPrefix xs h → IsPrefix (entries_of q xs) (entries_of q h)
  entries_of-prefix xs h p = (
    entries_of q p.0,
    sym (filter-append (λ (z : Entry C A). eqb z.number q) xs p.0) ∙ ap (entries_of q) p.1,
  )

  -- where a history has none, no beginning of it has one
  pub none_before : (xs h : List (Entry C A)) → IsPrefix xs h → entries_of q h ≡ [] → entries_of q xs ≡ []
  none_before xs h p empty =
      prefix_nil (entries_of q xs) (entries_of q h) (entries_of-prefix xs h p) empty

  -- where a beginning has all, none stands behind it
  pub none_after : (xs h : List (Entry C A)) → (p : IsPrefix xs h) → entries_of q xs ≡ entries_of q h
      → entries_of q p.0 ≡ []
  unfolding entries_of-prefix
  none_after xs h p same = append_cancel_left (entries_of q xs) (entries_of q p.0) []
      ((entries_of-prefix xs h p).1 ∙ sym same ∙ sym (append-nil (entries_of q xs)))

  -- and a longer beginning has all
  pub all_between : (xs ys h : List (Entry C A)) → IsPrefix xs ys → IsPrefix ys h
      → entries_of q xs ≡ entries_of q h → entries_of q ys ≡ entries_of q h
  all_between xs ys h p p' same =
      let long : length (entries_of q xs) ≤ length (entries_of q ys) =
      prefix_length (entries_of q xs) (entries_of q ys) (entries_of-prefix xs ys p) in
      prefix_whole (entries_of q ys) (entries_of q h) (entries_of-prefix ys h p')
      (subst (λ (l : List (Entry C A)). length l ≤ length (entries_of q ys)) same long)

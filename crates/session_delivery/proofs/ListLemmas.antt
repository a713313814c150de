-- The first member of a list, and lists of members and of marks that come to nothing.
use Rattle.std.proofs.Common.{◌≡◌, false, Option, Some, None, ℕ, ◌<◌, List, [], ◌∷◌, ◌++◌, length, refl, sym, ap, ◌∙◌, arith}
use Rattle.std.specs.Prelude.{if◌then◌else◌, is_some, slice_index_or, take, drop}
use Rattle.std.proofs.lemmas.Bool.{eq-eqb}
use Rattle.session_feeds.specs.Marks.{same_mark, times}

module _ {X : Type 0} where
  -- the first was taken out
  pub first_out : (xs ys : List X) (x : X)
      → 0 < length xs
      → x ≡ slice_index_or xs 0 x
      → ys ≡ take 0 xs ++ drop 1 xs
      → xs ≡ x ∷ ys
  first_out [] ys x some first rest = absurd (omega (arith, some))
  first_out (z ∷ zs) ys x some first rest =
      ap (λ w. w ∷ zs) (sym first) ∙ ap (λ l. x ∷ l) (sym rest)

same_self : (mark : ℕ) → same_mark mark mark ≡ 1
same_self mark = ap (λ b. if b then 1 else 0) (eq-eqb mark mark refl)

-- where no mark stands in it, the list is empty
pub none_stands : (marks : List ℕ) → ((q : ℕ) → times marks q ≡ 0) → marks ≡ []
none_stands [] none = refl
none_stands (m ∷ ms) none =
    let e = none m in let s = same_self m in absurd (omega (arith, e, s))

pub None-from_is_some : {X : Type 0} (o : Option X) → is_some o ≡ false → o ≡ None
None-from_is_some None is = refl
None-from_is_some (Some x) is = absurd (cc)

-- The shares of seats that were split off one from another make up the whole.
use Rattle.std.proofs.Common.{◌≡◌, ℕ, ◌*◌, ◌/◌, ◌^◌, ◌<◌, refl, sym, ap, ◌∙◌, subst, arith}
use native.Mathlib.Nat.{mul-div_cancel}
use Rattle.std.proofs.lemmas.Nat.{pow_pos}
use Rattle.turn_lock.specs.declared.view.Share.{Share}
use Rattle.turn_lock.specs.Views.{IsWhole, SameShare, half_of, sum_of}
use Rattle.turn_lock.proofs.ShareLemmas.{both_halves, same_sum}

-- a share equal to the whole is the whole
whole_same : (x y : Share) → SameShare x y → IsWhole y → IsWhole x
whole_same x y same whole =
    let pos : 0 < 2 ^ y.depth = pow_pos y.depth in
    let e : x.parts * 2 ^ y.depth ≡ 2 ^ x.depth * 2 ^ y.depth =
    same
    ∙ ap (λ (z : ℕ). z * 2 ^ x.depth) whole
    ∙ (let g : 2 ^ y.depth * 2 ^ x.depth ≡ 2 ^ x.depth * 2 ^ y.depth = omega arith in g) in
    sym (mul-div_cancel x.parts pos)
    ∙ ap (λ (z : ℕ). z / 2 ^ y.depth) e
    ∙ mul-div_cancel (2 ^ x.depth) pos

-- of a share half was split off, half of that from it, and so on
pub whole_four : (s m f g k : Share) → m ≡ half_of s → f ≡ half_of (half_of s)
    → g ≡ half_of (half_of (half_of s)) → k ≡ half_of (half_of (half_of s)) → IsWhole s
    → IsWhole (sum_of m (sum_of f (sum_of g k)))
whole_four s m f g k mi fi gi ki whole =
    let h : Share = half_of s in
    let q : Share = half_of h in
    let e : Share = half_of q in
    let is : sum_of m (sum_of f (sum_of g k)) ≡ sum_of h (sum_of q (sum_of e e)) =
    λ i. sum_of (mi i) (sum_of (fi i) (sum_of (gi i) (ki i))) in
    subst IsWhole (sym is)
    (whole_same (sum_of h (sum_of q (sum_of e e))) (sum_of h (sum_of q q))
    (same_sum h h (sum_of q (sum_of e e)) (sum_of q q) refl
    (same_sum q q (sum_of e e) q refl (both_halves q)))
    (whole_same (sum_of h (sum_of q q)) (sum_of h h)
    (same_sum h h (sum_of q q) h refl (both_halves h))
    (whole_same (sum_of h h) s (both_halves s) whole)))

-- the same with one more
pub whole_five : (s m f g k l : Share) → m ≡ half_of s → f ≡ half_of (half_of s)
    → g ≡ half_of (half_of (half_of s)) → k ≡ half_of (half_of (half_of (half_of s)))
    → l ≡ half_of (half_of (half_of (half_of s))) → IsWhole s
    → IsWhole (sum_of m (sum_of f (sum_of g (sum_of k l))))
whole_five s m f g k l mi fi gi ki li whole =
    let h : Share = half_of s in
    let q : Share = half_of h in
    let e : Share = half_of q in
    let x : Share = half_of e in
    let is : sum_of m (sum_of f (sum_of g (sum_of k l)))
    ≡ sum_of h (sum_of q (sum_of e (sum_of x x))) =
    λ i. sum_of (mi i) (sum_of (fi i) (sum_of (gi i) (sum_of (ki i) (li i)))) in
    subst IsWhole (sym is)
    (whole_same (sum_of h (sum_of q (sum_of e (sum_of x x))))
    (sum_of h (sum_of q (sum_of e e)))
    (same_sum h h (sum_of q (sum_of e (sum_of x x))) (sum_of q (sum_of e e)) refl
    (same_sum q q (sum_of e (sum_of x x)) (sum_of e e) refl
    (same_sum e e (sum_of x x) e refl (both_halves e))))
    (whole_four s h q e e refl refl refl refl whole))

-- the last of the shares may be another that is as large
pub whole_four_same : (a b c d e : Share) → SameShare d e
    → IsWhole (sum_of a (sum_of b (sum_of c d)))
    → IsWhole (sum_of a (sum_of b (sum_of c e)))
whole_four_same a b c d e same whole =
    whole_same (sum_of a (sum_of b (sum_of c e))) (sum_of a (sum_of b (sum_of c d)))
    (same_sum a a (sum_of b (sum_of c e)) (sum_of b (sum_of c d)) refl
    (same_sum b b (sum_of c e) (sum_of c d) refl (same_sum c c e d refl (sym same))))
    whole

pub whole_five_same : (a b c d e f : Share) → SameShare e f
    → IsWhole (sum_of a (sum_of b (sum_of c (sum_of d e))))
    → IsWhole (sum_of a (sum_of b (sum_of c (sum_of d f))))
whole_five_same a b c d e f same whole =
    whole_same (sum_of a (sum_of b (sum_of c (sum_of d f))))
    (sum_of a (sum_of b (sum_of c (sum_of d e))))
    (same_sum a a (sum_of b (sum_of c (sum_of d f))) (sum_of b (sum_of c (sum_of d e))) refl
    (same_sum b b (sum_of c (sum_of d f)) (sum_of c (sum_of d e)) refl
    (same_sum c c (sum_of d f) (sum_of d e) refl (same_sum d d f e refl (sym same)))))
    whole

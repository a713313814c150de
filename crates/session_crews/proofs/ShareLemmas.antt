-- Shares of seats that are split off again and again, and joined in the opposite order.
use Rattle.std.proofs.Common.{◌≡◌, ℕ, ◌*◌, ◌/◌, ◌^◌, ◌<◌, List, [], ◌∷◌, ◌++◌, refl, sym, ap, ◌∙◌, subst, arith}
use native.Mathlib.Nat.{mul-div_cancel}
use Rattle.std.proofs.lemmas.Nat.{pow_pos}
use Rattle.turn_lock.specs.declared.view.Share.{Share}
use Rattle.turn_lock.specs.Views.{IsWhole, SameShare, half_of, sum_of}
use Rattle.turn_lock.proofs.ShareLemmas.{both_halves, same_sum}
use Rattle.session_crews.specs.Gathers.{gathered}

pub SameShare-refl : (a : Share) → SameShare a a
SameShare-refl a = refl

pub SameShare-sym : (a b : Share) → SameShare a b → SameShare b a
SameShare-sym a b same = sym same

chain : (p q r A B C : ℕ) → p * B ≡ q * A → q * C ≡ r * B → p * C * B ≡ r * A * B
chain p q r A B C f g =
    let f' : p * B * C ≡ q * A * C = ap (λ (z : ℕ). z * C) f in
    let g' : q * C * A ≡ r * B * A = ap (λ (z : ℕ). z * A) g in omega arith

cancel : (x y k : ℕ) → 0 < k → x * k ≡ y * k → x ≡ y
cancel x y k pos e = sym (mul-div_cancel x pos) ∙ ap (λ (z : ℕ). z / k) e ∙ mul-div_cancel y pos

pub SameShare-then : (a b c : Share) → SameShare a b → SameShare b c → SameShare a c
SameShare-then a b c f g =
    cancel (a.parts * 2 ^ c.depth) (c.parts * 2 ^ a.depth) (2 ^ b.depth) (pow_pos b.depth)
    (chain a.parts b.parts c.parts (2 ^ a.depth) (2 ^ b.depth) (2 ^ c.depth) f g)

-- a share equal to the whole is the whole
pub IsWhole-same : (a b : Share) → SameShare a b → IsWhole b → IsWhole a
IsWhole-same a b same whole =
    let e : a.parts * 2 ^ b.depth ≡ 2 ^ a.depth * 2 ^ b.depth =
    same
    ∙ ap (λ (z : ℕ). z * 2 ^ a.depth) whole
    ∙ (let g : 2 ^ b.depth * 2 ^ a.depth ≡ 2 ^ a.depth * 2 ^ b.depth = omega arith in g) in
    cancel a.parts (2 ^ a.depth) (2 ^ b.depth) (pow_pos b.depth) e

-- equal shares of the seat gather to equal shares
pub gathered-same : (a b : Share) (others : List Share)
    → SameShare a b
    → SameShare (gathered a others) (gathered b others)
gathered-same a b [] same = same
gathered-same a b (other ∷ others) same =
    same_sum (gathered a others) (gathered b others) other other (gathered-same a b others same)
    refl

-- the latest is joined first
pub gathered-push : (own : Share) (others : List Share) (last : Share)
    → gathered own (others ++ last ∷ []) ≡ gathered (sum_of own last) others
gathered-push own [] last = refl
gathered-push own (other ∷ others) last = ap (λ s. sum_of s other) (gathered-push own others last)

-- half was split off
pub gathered-split : (all own : Share) (others : List Share) → SameShare all (gathered own others)
    → SameShare all (gathered (half_of own) (others ++ half_of own ∷ []))
gathered-split all own others same =
    subst (SameShare all) (sym (gathered-push (half_of own) others (half_of own)))
    (SameShare-then all (gathered own others)
    (gathered (sum_of (half_of own) (half_of own)) others) same
    (gathered-same own (sum_of (half_of own) (half_of own)) others
    (SameShare-sym (sum_of (half_of own) (half_of own)) own (both_halves own))))

-- the latest that was split off, or what became of it, was joined
pub gathered-join : (all own : Share) (others : List Share) (given back : Share)
    → SameShare all (gathered own (others ++ given ∷ [])) → SameShare given back
    → SameShare all (gathered (sum_of own back) others)
gathered-join all own others given back same is =
    SameShare-then all (gathered (sum_of own given) others) (gathered (sum_of own back) others)
    (subst (SameShare all) (gathered-push own others given) same)
    (gathered-same (sum_of own given) (sum_of own back) others
    (same_sum own own given back refl is))

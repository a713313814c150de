-- Shares of seats that are split off again and again, and joined in the opposite order.
use Rattle.std.proofs.Common.{◌≡◌, ℕ, ◌+◌, ◌-◌, ◌*◌, ◌/◌, ◌^◌, ◌<◌, ◌≤◌, max, List, [], ◌∷◌, ◌++◌, refl, sym, ap, ◌∙◌, subst, arith}
use Rattle.std.proofs.Math.Nat.{le_trans}
use native.Mathlib.Nat.{mul-div_cancel, le-max_left, le-max_right}
use Rattle.std.proofs.lemmas.Nat.{pow_pos, pow-add}
use Rattle.turn_lock.specs.declared.view.Share.{Share}
use Rattle.turn_lock.specs.Views.{IsWhole, SameShare, half_of, parts_at, sum_of}
use Rattle.turn_lock.proofs.ShareLemmas.{both_halves, parts_at-sum_of, same_sum}
use Rattle.relay_accept.specs.Gathers.{gathered}

pub SameShare-refl : (a : Share) → SameShare a a
SameShare-refl a = refl

pub SameShare-sym : (a b : Share) → SameShare a b → SameShare b a
SameShare-sym a b same = sym same

chain : (p q r A B C : ℕ) → p * B ≡ q * A → q * C ≡ r * B → p * C * B ≡ r * A * B
chain p q r A B C f g =
    let f' : p * B * C ≡ q * A * C = ap (λ (z : ℕ). z * C) f in
    let g' : q * C * A ≡ r * B * A = ap (λ (z : ℕ). z * A) g in omega arith

cancel : (x y k : ℕ) → 0 < k → x * k ≡ y * k → x ≡ y
cancel x y k pos e = sym (mul-div_cancel x pos) ∙ ap (λ (z : ℕ). z / k) e ∙ mul-div_cancel y pos

pub SameShare-then : (a b c : Share) → SameShare a b → SameShare b c → SameShare a c
SameShare-then a b c f g =
    cancel (a.parts * 2 ^ c.depth) (c.parts * 2 ^ a.depth) (2 ^ b.depth) (pow_pos b.depth)
    (chain a.parts b.parts c.parts (2 ^ a.depth) (2 ^ b.depth) (2 ^ c.depth) f g)

-- a share equal to the whole is the whole
whole : (e d : ℕ) → e ≤ d → 2 ^ (d - e) * 2 ^ e ≡ 2 ^ d
whole e d le =
    sym (pow-add 2 (d - e) e)
    ∙ ap (λ (z : ℕ). 2 ^ z) (let g : d - e + e ≡ d = omega arith in g)

back : (p q A B P Q N : ℕ) → P * A ≡ N → Q * B ≡ N → p * P ≡ q * Q → p * B * N ≡ q * A * N
back p q A B P Q N f g e =
    ap (λ (z : ℕ). p * B * z) (sym f)
    ∙ (let h : p * B * (P * A) ≡ p * P * (A * B) = omega arith in h)
    ∙ ap (λ (z : ℕ). z * (A * B)) e
    ∙ (let h : q * Q * (A * B) ≡ q * A * (Q * B) = omega arith in h)
    ∙ ap (λ (z : ℕ). q * A * z) g

pub IsWhole-same : (a b : Share) → SameShare a b → IsWhole b → IsWhole a
IsWhole-same a b same whole =
    let e : a.parts * 2 ^ b.depth ≡ 2 ^ a.depth * 2 ^ b.depth =
    same
    ∙ ap (λ (z : ℕ). z * 2 ^ a.depth) whole
    ∙ (let g : 2 ^ b.depth * 2 ^ a.depth ≡ 2 ^ a.depth * 2 ^ b.depth = omega arith in g) in
    cancel a.parts (2 ^ a.depth) (2 ^ b.depth) (pow_pos b.depth) e

-- equal shares of the seat gather to equal shares
-- shares of as many parts of one size are equal
same_at : (d : ℕ) (a b : Share) → a.depth ≤ d → b.depth ≤ d → parts_at d a ≡ parts_at d b
    → SameShare a b
same_at d a b la lb same =
    cancel (a.parts * 2 ^ b.depth) (b.parts * 2 ^ a.depth) (2 ^ d) (pow_pos d)
    (back a.parts b.parts (2 ^ a.depth) (2 ^ b.depth) (2 ^ (d - a.depth)) (2 ^ (d - b.depth)) (2 ^ d)
    (whole a.depth d la) (whole b.depth d lb) same)

pub gathered-same : (a b : Share) (others : List Share)
    → SameShare a b
    → SameShare (gathered a others) (gathered b others)
gathered-same a b [] same = same
gathered-same a b (other ∷ others) same =
    same_sum (gathered a others) (gathered b others) other other (gathered-same a b others same)
    refl

-- the latest is joined first
pub gathered-push : (own : Share) (others : List Share) (last : Share)
    → gathered own (others ++ last ∷ []) ≡ gathered (sum_of own last) others
gathered-push own [] last = refl
gathered-push own (other ∷ others) last = ap (λ s. sum_of s other) (gathered-push own others last)

-- half was split off
pub gathered-split : (all own : Share) (others : List Share) → SameShare all (gathered own others)
    → SameShare all (gathered (half_of own) (others ++ half_of own ∷ []))
gathered-split all own others same =
    subst (SameShare all) (sym (gathered-push (half_of own) others (half_of own)))
    (SameShare-then all (gathered own others)
    (gathered (sum_of (half_of own) (half_of own)) others) same
    (gathered-same own (sum_of (half_of own) (half_of own)) others
    (SameShare-sym (sum_of (half_of own) (half_of own)) own (both_halves own))))

-- the order of two that are joined
swap : (x a b : Share) → SameShare (sum_of (sum_of x a) b) (sum_of (sum_of x b) a)
swap x a b =
    let p = sum_of (sum_of x a) b in
    let q = sum_of (sum_of x b) a in
    let d : ℕ = max p.depth q.depth in
    let lp : max (sum_of x a).depth b.depth ≤ d = le-max_left p.depth q.depth in
    let lq : max (sum_of x b).depth a.depth ≤ d = le-max_right p.depth q.depth in
    let la : max x.depth a.depth ≤ d = le_trans (le-max_left (sum_of x a).depth b.depth) lp in
    let lb : max x.depth b.depth ≤ d = le_trans (le-max_left (sum_of x b).depth a.depth) lq in
    let e1 = parts_at-sum_of d (sum_of x a) b lp in
    let e2 = parts_at-sum_of d x a la in
    let f1 = parts_at-sum_of d (sum_of x b) a lq in
    let f2 = parts_at-sum_of d x b lb in
    same_at d p q (le-max_left p.depth q.depth) (le-max_right p.depth q.depth) (omega arith)

-- one that is joined first, or behind the others
sum_first : (own b : Share) (others : List Share)
    → SameShare (sum_of (gathered own others) b) (gathered (sum_of own b) others)
sum_first own b [] = refl
sum_first own b (o ∷ os) =
    SameShare-then (sum_of (sum_of (gathered own os) o) b) (sum_of (sum_of (gathered own os) b) o)
    (sum_of (gathered (sum_of own b) os) o) (swap (gathered own os) o b)
    (same_sum (sum_of (gathered own os) b) (gathered (sum_of own b) os) o o (sum_first own b os)
    refl)

gathered_out : (own : Share) (before : List Share) (b : Share) (behind : List Share)
    → SameShare (gathered own (before ++ b ∷ behind)) (gathered (sum_of own b) (before ++ behind))
gathered_out own [] b behind = sum_first own b behind
gathered_out own (o ∷ os) b behind =
    same_sum (gathered own (os ++ b ∷ behind)) (gathered (sum_of own b) (os ++ behind)) o o
    (gathered_out own os b behind) refl

-- one that was split off, or what became of it, was joined
pub gathered-join : (all own : Share) (before behind : List Share) (given back : Share)
    → SameShare all (gathered own (before ++ given ∷ behind)) → SameShare given back
    → SameShare all (gathered (sum_of own back) (before ++ behind))
gathered-join all own before behind given back same is =
    SameShare-then all (gathered own (before ++ given ∷ behind))
    (gathered (sum_of own back) (before ++ behind)) same
    (SameShare-then (gathered own (before ++ given ∷ behind))
    (gathered (sum_of own given) (before ++ behind))
    (gathered (sum_of own back) (before ++ behind)) (gathered_out own before given behind)
    (gathered-same (sum_of own given) (sum_of own back) (before ++ behind)
    (same_sum own own given back refl is)))

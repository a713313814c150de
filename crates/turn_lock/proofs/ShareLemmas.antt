-- Shares as fractions.
use Rattle.std.proofs.Common.{◌≡◌, ℕ, ◌+◌, ◌*◌, ◌/◌, ◌-◌, ◌^◌, max, ◌<◌, ◌≤◌, sym, ap, ◌∙◌, arith}
use native.Mathlib.Nat.{add-mul, mul_assoc, mul-pos, mul-div_cancel, le-max_left, le-max_right}
use Rattle.std.proofs.lemmas.Nat.{pow_pos, pow-add}
use Rattle.turn_lock.specs.declared.view.Share.{Share}
use Rattle.turn_lock.specs.Views.{half_of, parts_at, sum_of, SameShare}

cancel : (x y k : ℕ) → 0 < k → x * k ≡ y * k → x ≡ y
cancel x y k pos e = sym (mul-div_cancel x pos) ∙ ap (λ (z : ℕ). z / k) e ∙ mul-div_cancel y pos

parts_at_more : (d : ℕ) (a : Share) → a.depth ≤ d → parts_at d a * 2 ^ a.depth ≡ a.parts * 2 ^ d
parts_at_more d a le = mul_assoc a.parts (2 ^ (d - a.depth)) (2 ^ a.depth)
    ∙ ap (λ (z : ℕ). a.parts * z) (sym (pow-add 2 (d - a.depth) a.depth)
    ∙ ap (λ (z : ℕ). 2 ^ z) (let g : d - a.depth + a.depth ≡ d = omega arith in g))

across : (x y p q A B N : ℕ) → x * A ≡ p * N → y * B ≡ q * N → p * B ≡ q * A → x * (A * B) ≡ y * (A * B)
across x y p q A B N f g e =
    let f' : x * A * B ≡ p * N * B = ap (λ (z : ℕ). z * B) f in
    let g' : y * B * A ≡ q * N * A = ap (λ (z : ℕ). z * A) g in
    let e' : p * B * N ≡ q * A * N = ap (λ (z : ℕ). z * N) e in omega arith

-- of equal shares the parts of one size are as many
same_parts : (d : ℕ) (a b : Share) → a.depth ≤ d → b.depth ≤ d → SameShare a b → parts_at d a ≡ parts_at d b
same_parts d a b la lb same = cancel (parts_at d a) (parts_at d b) (2 ^ a.depth * 2 ^ b.depth)
    (mul-pos (pow_pos a.depth) (pow_pos b.depth))
    (across (parts_at d a) (parts_at d b) a.parts b.parts (2 ^ a.depth) (2 ^ b.depth) (2 ^ d)
    (parts_at_more d a la) (parts_at_more d b lb) same)

back : (x y p q A B N : ℕ) → x * A ≡ p * N → y * B ≡ q * N → x ≡ y → p * B * N ≡ q * A * N
back x y p q A B N f g e =
    let f' : x * A * B ≡ p * N * B = ap (λ (z : ℕ). z * B) f in
    let g' : y * B * A ≡ q * N * A = ap (λ (z : ℕ). z * A) g in
    let e' : x * (A * B) ≡ y * (A * B) = ap (λ (z : ℕ). z * (A * B)) e in omega arith

parts_same : (d : ℕ) (a b : Share) → a.depth ≤ d → b.depth ≤ d → parts_at d a ≡ parts_at d b → SameShare a b
parts_same d a b la lb same = cancel (a.parts * 2 ^ b.depth) (b.parts * 2 ^ a.depth) (2 ^ d) (pow_pos d)
    (back (parts_at d a) (parts_at d b) a.parts b.parts (2 ^ a.depth) (2 ^ b.depth) (2 ^ d)
    (parts_at_more d a la) (parts_at_more d b lb) same)

-- the parts of one size in a sum
pub parts_at-sum_of : (d : ℕ) (a b : Share) → max a.depth b.depth ≤ d
    → parts_at d (sum_of a b) ≡ parts_at d a + parts_at d b
parts_at-sum_of d a b le =
    let m : ℕ = max a.depth b.depth in
    let la : a.depth ≤ m = le-max_left a.depth b.depth in
    let lb : b.depth ≤ m = le-max_right a.depth b.depth in
    let below : m ≤ d = le in
    let one : (p e : ℕ) → e ≤ m → p * 2 ^ (m - e) * 2 ^ (d - m) ≡ p * 2 ^ (d - e) = λ p e h.
    mul_assoc p (2 ^ (m - e)) (2 ^ (d - m))
    ∙ ap (λ (z : ℕ). p * z) (sym (pow-add 2 (m - e) (d - m))
    ∙ ap (λ (z : ℕ). 2 ^ z) (let g : m - e + (d - m) ≡ d - e = omega arith in g)) in
    add-mul (parts_at m a) (parts_at m b) (2 ^ (d - m))
    ∙ (λ i. one a.parts a.depth la i + one b.parts b.depth lb i)

-- sums of equal shares are equal
pub same_sum : (a a' b b' : Share) → SameShare a a' → SameShare b b' → SameShare (sum_of a b) (sum_of a' b')
same_sum a a' b b' p q =
    let m : ℕ = max a.depth b.depth in
    let m' : ℕ = max a'.depth b'.depth in
    let d : ℕ = m + m' in
    let l1 : a.depth ≤ m = le-max_left a.depth b.depth in
    let l2 : b.depth ≤ m = le-max_right a.depth b.depth in
    let l3 : a'.depth ≤ m' = le-max_left a'.depth b'.depth in
    let l4 : b'.depth ≤ m' = le-max_right a'.depth b'.depth in
    let parts = λ (x x' : Share) (lx : x.depth ≤ d) (lx' : x'.depth ≤ d)
    (same : SameShare x x'). same_parts d x x' lx lx' same in
    parts_same d (sum_of a b) (sum_of a' b') (omega arith) (omega arith)
    (parts_at-sum_of d a b (omega arith)
    ∙ (λ i. parts a a' (omega arith) (omega arith) p i + parts b b' (omega arith) (omega arith) q i)
    ∙ sym (parts_at-sum_of d a' b' (omega arith)))

-- the halves of a share make it up
pub both_halves : (a : Share) → SameShare (sum_of (half_of a) (half_of a)) a
both_halves a =
    let k : ℕ = a.depth in
    let d : ℕ = k + 1 in
    let x : ℕ = a.parts in
    let none_more : d - d ≡ 0 = omega arith in
    let one_more : d - k ≡ 1 = omega arith in
    let two : x * 2 ^ (d - d) + x * 2 ^ (d - d) ≡ x * 2 ^ (d - k) =
    (λ i. x * 2 ^ none_more i + x * 2 ^ none_more i)
    ∙ (let g : x * 2 ^ 0 + x * 2 ^ 0 ≡ x * 2 ^ 1 = omega arith in g)
    ∙ (λ i. x * 2 ^ sym one_more i) in
    parts_same d (sum_of (half_of a) (half_of a)) a (omega arith) (omega arith)
    (parts_at-sum_of d (half_of a) (half_of a) (omega arith) ∙ two)

-- Bytes and their lower-case hexadecimal digits.
use Rattle.std.proofs.Common.{◌≡◌, ℕ, ◌+◌, ◌*◌, ◌/◌, ◌%◌, ◌<◌, ◌≤◌, Bool, true, false, eqb, ltb, not, ◌&&◌, ◌||◌, List, [], ◌∷◌, ◌++◌, length, take, get_or, Option, Some, None, Result, Ok, Err, refl, sym, ap, subst, ◌∙◌, arith, inl, inr, All}
use Rattle.std.specs.Prelude.{is_some, unwrap_or}
use Rattle.std.specs.Char.{is_ascii_uppercase}
use Rattle.std.specs.List.{list_any}
use Rattle.std.proofs.lemmas.Bool.{agree_below_at, and_parts, cases_lt, eqb-true, ltb-true, or_parts, or_from}
use Rattle.std.proofs.lemmas.List.{get_or_past, take_more}
use Rattle.std.proofs.lemmas.List.Elements.{All-nil, All-cons}
use Rattle.std.proofs.lemmas.Bool.Decides.{nat_tests}
use Rattle.std.proofs.lemmas.Nat.{div-mul-add, mod-mul-add}
use Rattle.hex.specs.Hex.{lower_digits, encode_with, encode_lower, hex_digit_value, digit_or_error, value_at, pair_value, decode_pairs, ◌>>=◌}
use Rattle.hex.specs.declared.error.FromHexError.{FromHexError}

-- ---- the digits of an encoding are in lower case

-- no digit of the table is a letter in upper case, and past its end stands 0
lower_digit : (d : ℕ) → is_ascii_uppercase (get_or lower_digits d 0) ≡ false
lower_digit d =
    elim (cases_lt d 16) [
      | inl below ↦ agree_below_at (λ k. is_ascii_uppercase (get_or lower_digits k 0)) (λ _. false)
          16 d refl below
      | inr past ↦ ap is_ascii_uppercase (get_or_past lower_digits d 0 past)
    ]

pub list_any-encode_lower : (bytes : List ℕ)
    → list_any is_ascii_uppercase (encode_lower bytes) ≡ false
unfolding encode_with
list_any-encode_lower [] = refl
list_any-encode_lower (b ∷ bytes) =
    or_from _ _ (lower_digit (b / 16))
    (or_from _ _ (lower_digit (b % 16)) (list_any-encode_lower bytes))

-- ---- a digit in lower case is the digit of its value

-- the test of one character, which computes
abbrev reads_as_digit : ℕ → Bool
reads_as_digit c =
    is_ascii_uppercase c || (not (is_some (hex_digit_value c))
    || (eqb (get_or lower_digits (unwrap_or (hex_digit_value c) 0) 0) c && ltb
    (unwrap_or (hex_digit_value c) 0) 16))

-- what the test shows where it passes
digit_from_test : (upper : Bool) (c : ℕ) (o : Option ℕ) (v : ℕ) → o ≡ Some v → upper ≡ false
    → (upper || (not (is_some o) ||
    (eqb (get_or lower_digits (unwrap_or o 0) 0) c && ltb (unwrap_or o 0) 16))) ≡ true
    → (get_or lower_digits v 0 ≡ c) × (v < 16)
digit_from_test true c o v e u t = absurd cc
digit_from_test false c None v e u t = absurd cc
digit_from_test false c (Some w) v e u t =
    let parts = and_parts (eqb (get_or lower_digits w 0) c) (ltb w 16) t in
    let same : w ≡ v = cc in
    subst (λ (n : ℕ). (get_or lower_digits n 0 ≡ c) × (n < 16)) same
    (eqb-true _ _ parts.0, ltb-true _ _ parts.1)

-- from `g` on no character is a digit
past_digits : (c v : ℕ) → 103 ≤ c → hex_digit_value c ≡ Some v → ⊥
past_digits c v past e = grind (arith, nat_tests)

digit_value : (c v : ℕ) → hex_digit_value c ≡ Some v → is_ascii_uppercase c ≡ false
    → (get_or lower_digits v 0 ≡ c) × (v < 16)
digit_value c v e lower =
    elim (cases_lt c 103) [
      | inl below ↦ digit_from_test (is_ascii_uppercase c) c (hex_digit_value c) v e lower
          (agree_below_at reads_as_digit (λ _. true) 103 c refl below)
      | inr past ↦ absurd (past_digits c v past e)
    ]

-- ---- what decodes is the encoding of what it decodes to

-- the value of a step that did not fail
bind_ok : {A B : Type 0} (r : Result A FromHexError) (f : A → Result B FromHexError) (y : B)
    → (r >>= f) ≡ Ok y → (x : A) × (r ≡ Ok x) × (f x ≡ Ok y)
bind_ok (Ok x) f y e = (x, refl, e)
bind_ok (Err d) f y e = absurd cc

-- a digit that was read
digit_read : (c i v : ℕ) (o : Option ℕ) → digit_or_error c i o ≡ Ok v → o ≡ Some v
digit_read c i v (Some w) e = cc
digit_read c i v None e = absurd cc

done : {A : Type 0} → A → Result A FromHexError
done x = Ok x

-- a pair of digits in lower case, and the byte that it is
pub record IsPair (a b byte : ℕ) : Type 0 where
  high : get_or lower_digits (byte / 16) 0 ≡ a
  low : get_or lower_digits (byte % 16) 0 ≡ b
  fits : byte < 256

IsPair-from_value : (i a b byte : ℕ) → is_ascii_uppercase a ≡ false → is_ascii_uppercase b ≡ false
    → pair_value a b i ≡ Ok byte → IsPair a b byte
IsPair-from_value i a b byte lower_a lower_b e =
    let first = bind_ok (value_at a i) (λ h. value_at b (i + 1) >>= λ l. Ok (h * 16 + l)) byte e in
    let second = bind_ok (value_at b (i + 1)) (λ l. Ok (first.0 * 16 + l)) byte first.2 in
    let high = digit_value a first.0 (digit_read a i first.0 (hex_digit_value a) first.1) lower_a in
    let low = digit_value b second.0 (digit_read b (i + 1) second.0 (hex_digit_value b) second.1)
    lower_b in
    let made : first.0 * 16 + second.0 ≡ byte = cc (second.2) in
    let quotient : byte / 16 ≡ first.0 = ap (λ (n : ℕ). n / 16) (sym made)
    ∙ div-mul-add first.0 16 second.0 low.1 in
    let remainder : byte % 16 ≡ second.0 = ap (λ (n : ℕ). n % 16) (sym made)
    ∙ mod-mul-add first.0 16 second.0 low.1 in
    record {
      high = rw quotient high.0;
      low = rw remainder low.0;
      fits = omega (arith, high.1, low.1, made);
    }

-- what pairs of digits in lower case decode to has them as its encoding
pub encode_lower-decode_pairs : (i : ℕ) (text bytes : List ℕ)
    → list_any is_ascii_uppercase text ≡ false
    → decode_pairs i text ≡ Ok bytes → (encode_lower bytes ≡ text) × All (λ b. b < 256) bytes
unfolding encode_with decode_pairs
encode_lower-decode_pairs i [] bytes lower e =
    let none : [] ≡ bytes = cc e in
    subst (λ (xs : List ℕ). (encode_lower xs ≡ []) × All (λ b. b < 256) xs) none
    (refl, All-nil (λ b. b < 256))
encode_lower-decode_pairs i (a ∷ []) bytes lower e = absurd cc
encode_lower-decode_pairs i (a ∷ b ∷ text) bytes lower e =
    let low_a = or_parts (is_ascii_uppercase a) (list_any is_ascii_uppercase (b ∷ text)) lower in
    let low_b = or_parts (is_ascii_uppercase b) (list_any is_ascii_uppercase text) low_a.1 in
    let first = bind_ok (pair_value a b i)
    (λ byte. decode_pairs (i + 2) text >>= λ rest. Ok (byte ∷ rest)) bytes e in
    let second = bind_ok (decode_pairs (i + 2) text) (λ rest. Ok (first.0 ∷ rest)) bytes first.2 in
    let pair = IsPair-from_value i a b first.0 low_a.0 low_b.0 first.1 in
    let rest = encode_lower-decode_pairs (i + 2) text second.0 low_b.1 second.1 in
    let made : first.0 ∷ second.0 ≡ bytes = cc (second.2) in
    subst (λ (xs : List ℕ). (encode_lower xs ≡ a ∷ b ∷ text) × All (λ b. b < 256) xs) made
    (cc (pair.high, pair.low, rest.0), All-cons (λ b. b < 256) first.0 second.0 pair.fits rest.1)

-- ---- an encoding grows by two digits a byte

encode_lower-append : (xs ys : List ℕ)
    → encode_lower (xs ++ ys) ≡ encode_lower xs ++ encode_lower ys
unfolding encode_with
encode_lower-append [] ys = refl
encode_lower-append (x ∷ xs) ys =
    ap (λ (rest : List ℕ). get_or lower_digits (x / 16) 0 ∷ get_or lower_digits (x % 16) 0 ∷ rest)
    (encode_lower-append xs ys)

pub encode_lower_more : (bytes : List ℕ) (i : ℕ) → i < length bytes
    → encode_lower (take (i + 1) bytes)
    ≡ encode_lower (take i bytes) ++
    (get_or lower_digits (get_or bytes i 0 / 16) 0 ∷ get_or lower_digits (get_or bytes i 0 % 16)
    0 ∷ [])
unfolding encode_with
encode_lower_more bytes i below =
    rw (take_more bytes i 0 below) (encode_lower-append (take i bytes) (get_or bytes i 0 ∷ []))

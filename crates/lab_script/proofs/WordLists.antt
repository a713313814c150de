-- Words, and the texts that join them with spaces.
use Rattle.std.proofs.Common.{◌≡◌, ℕ, ◌/◌, ◌%◌, ◌<◌, ◌^◌, Bool, true, false, not, ◌==◌, List, [], ◌∷◌, get_or, refl, sym, ap, ◌∙◌, arith, inl, inr, All, decimal}
use Rattle.std.specs.List.{join_with_byte, AllByRecursion, list_all}
use Rattle.std.specs.Str.Parse.{AllDigits, digits_value}
use Rattle.std.proofs.lemmas.Bool.{agree_below_at, and_from, cases_lt, ne_eqb, not-true}
use Rattle.std.proofs.lemmas.Fmt.{decimal_is_IsNumeral}
use Rattle.std.proofs.lemmas.List.{get_or_past}
use Rattle.std.proofs.lemmas.List.Elements.{All-from_get_or, All-weaker}
use Rattle.std.proofs.lemmas.List.Sums.{AllPass-from_list_all}
use Rattle.std.proofs.lemmas.List.Splits.{slice_split_none, slice_split_at, join_with_byte-slice_split}
use Rattle.std.proofs.lemmas.Str.Parse.{IsNumeralModel, numerals_by_value, tells_digits, not_in_digits}
use Rattle.hex.specs.Hex.{lower_digits, encode_with, encode_lower}
use Rattle.lab_script.specs.Lines.{words_in}

-- no byte is a space
abbrev pub IsWord : List ℕ → Type 0
IsWord word = All (λ b. (b == 32) ≡ false) word

-- the test of it, which computes
abbrev pub is_word : List ℕ → Bool
is_word word = list_all (λ b. not (b == 32)) word

pub IsWord-from_test : (word : List ℕ) → is_word word ≡ true → IsWord word
IsWord-from_test word e =
    All-weaker (λ b. not (b == 32) ≡ true) (λ b. (b == 32) ≡ false) (λ b h. not-true (b == 32) h)
    word
    (AllPass-from_list_all (λ b. not (b == 32)) word e)

-- ---- words are the pieces of their text

pub words-join_with_byte : (word : List ℕ) (others : List (List ℕ)) → IsWord word
    → AllByRecursion IsWord others
    → words_in (join_with_byte 32 (word ∷ others)) ≡ word ∷ others
words-join_with_byte word [] first rest = slice_split_none (λ b. b == 32) word first
words-join_with_byte word (second ∷ others) first rest =
    slice_split_at (λ b. b == 32) word 32 (join_with_byte 32 (second ∷ others)) first refl
    ∙ ap (λ (ws : List (List ℕ)). word ∷ ws) (words-join_with_byte second others rest.0 rest.1)

-- texts with the same pieces are one
pub same_from_words : (a b : List ℕ) → words_in a ≡ words_in b → a ≡ b
same_from_words a b e = sym (join_with_byte-slice_split 32 a) ∙ ap (join_with_byte 32) e
    ∙ join_with_byte-slice_split 32 b

-- ---- numbers and bytes are words

own : IsNumeralModel (λ ds. AllDigits 10 ds) (digits_value 10)
own = numerals_by_value (λ ds. AllDigits 10 ds) tells_digits

pub IsWord-decimal : (n : ℕ) → n < 2 ^ 64 → IsWord (decimal n)
IsWord-decimal n small =
    All-from_get_or (λ b. (b == 32) ≡ false) (decimal n) 0
    (λ i below. ne_eqb _ _ (not_in_digits own (decimal n) 32 (decimal_is_IsNumeral n small).0.1
    (λ in_range. absurd (omega (arith, in_range.0))) i below))

digit_is_no_space : (d : ℕ) → (get_or lower_digits d 0 == 32) ≡ false
digit_is_no_space d =
    elim (cases_lt d 16) [
      | inl below ↦ agree_below_at (λ k. get_or lower_digits k 0 == 32) (λ _. false) 16 d refl below
      | inr past ↦ ap (λ (c : ℕ). c == 32) (get_or_past lower_digits d 0 past)
    ]

all_no_space : (bytes : List ℕ) → is_word (encode_lower bytes) ≡ true
unfolding encode_with
all_no_space [] = refl
all_no_space (b ∷ bytes) =
    and_from _ _ (ap not (digit_is_no_space (b / 16)))
    (and_from _ _ (ap not (digit_is_no_space (b % 16))) (all_no_space bytes))

pub IsWord-encode_lower : (bytes : List ℕ) → IsWord (encode_lower bytes)
IsWord-encode_lower bytes = IsWord-from_test (encode_lower bytes) (all_no_space bytes)

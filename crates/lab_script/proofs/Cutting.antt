-- A list that is cut at the elements that pass a test.
use Rattle.std.proofs.Common.{◌≡◌, ◌≢◌, ◌==◌, ℕ, ◌+◌, Bool, true, false, cond, ltb, IsTrue, ◌↔◌, Bor, Option, List, [], ◌∷◌, length, drop, take, Some, None, refl, sym, ap, ◌∙◌, arith}
use Rattle.std.specs.Prelude.{is_some, not}
use Rattle.std.specs.Option.{option_map_or}
use Rattle.std.proofs.lemmas.Bool.{ltb-true, ltb-false}
use Rattle.std.proofs.lemmas.List.Sums.{fails_before_first}
use Rattle.std.proofs.lemmas.List.Splits.{slice_split_none, slice_split_first}
use Rattle.std.specs.List.{slice_split, onto_first, position, position_or_len}
use Rattle.lab_script.specs.Lines.{lines_of, without_empty_last, words_in}

-- the place of a first element, behind the test whether there is one
found_at : (b : Bool) (n at : ℕ) → cond b (Some n) None ≡ Some at → (b ≡ true) × (n ≡ at)
found_at true n at e = (refl, cc)
found_at false n at e = absurd cc

not_found : (b : Bool) (n : ℕ) → cond b (Some n) None ≡ None → b ≡ false
not_found true n e = absurd cc
not_found false n e = refl

-- no element passes: the list is one piece
pub slice_split-position_none : (p : ℕ → Bool) (xs : List ℕ) → position p xs ≡ None
    → slice_split p xs ≡ xs ∷ []
slice_split-position_none p xs e =
    let past = ltb-false _ _ (not_found (ltb (position_or_len p xs) (length xs))
    (position_or_len p xs) e) in
    slice_split_none p xs (λ k d below. fails_before_first p xs k d (omega (arith, past)))

-- the first piece ends at the first element that passes
pub slice_split-position_some : (p : ℕ → Bool) (xs : List ℕ) (at : ℕ) → position p xs ≡ Some at
    → slice_split p xs ≡ take at xs ∷ slice_split p (drop (at + 1) xs)
slice_split-position_some p xs at e =
    let found = found_at (ltb (position_or_len p xs) (length xs)) (position_or_len p xs) at e in
    slice_split_first p xs 0 (ltb-true _ _ found.0)
    ∙ ap (λ (n : ℕ). take n xs ∷ slice_split p (drop (n + 1) xs)) found.1

-- ---- the lines of an input

onto_first-some : (x : ℕ) (pieces : List (List ℕ))
    → (first : List ℕ) × (others : List (List ℕ)) × (onto_first x pieces ≡ first ∷ others)
onto_first-some x [] = (x ∷ [], [], refl)
onto_first-some x (piece ∷ pieces) = (x ∷ piece, pieces, refl)

-- there is a first piece
slice_split-some : (p : ℕ → Bool) (xs : List ℕ)
    → (first : List ℕ) × (others : List (List ℕ)) × (slice_split p xs ≡ first ∷ others)
slice_split-some p [] = ([], [], refl)
slice_split-some p (x ∷ xs) =
    elim (p x) as (λ b. (first : List ℕ) × (others : List (List ℕ)) ×
    (cond b ([] ∷ slice_split p xs) (onto_first x (slice_split p xs)) ≡ first ∷ others)) [
      | true ↦ ([], slice_split p xs, refl)
      | false ↦ onto_first-some x (slice_split p xs)
    ]

-- the piece before a line feed is a line
pub lines_of-cut : (input line rest : List ℕ)
    → slice_split (λ b. b == 10) input ≡ line ∷ slice_split (λ b. b == 10) rest
    → lines_of input ≡ line ∷ lines_of rest
lines_of-cut input line rest e =
    let some = slice_split-some (λ b. b == 10) rest in
    ap without_empty_last (e ∙ ap (λ (ps : List (List ℕ)). line ∷ ps) some.2)
    ∙ ap (λ (ps : List (List ℕ)). line ∷ without_empty_last ps) (sym some.2)

-- ---- the words of a line

-- a line has a word, be it an empty one
words_in-some : (line : List ℕ) → words_in line ≢ []
words_in-some line none = let some = slice_split-some (λ b. b == 32) line in absurd (cc (some.2))

-- no word is left exactly where there is no rest
pub all_taken : (rest : Option (Bor (List ℕ))) (taken : Bool) (words : List (List ℕ))
    → is_some rest ≡ not taken
    → option_map_or (λ text. words_in text.now) rest [] ≡ words
    → IsTrue taken ↔ (words ≡ [])
all_taken None true words is left = (λ t. sym left, λ none. refl)
all_taken None false words is left = absurd (cc is)
all_taken (Some text) true words is left = absurd (cc is)
all_taken (Some text) false words is left =
    (λ t. absurd (cc t), λ none. absurd (words_in-some text.now (left ∙ none)))

-- Texts that are put at the end of a list.
use Rattle.std.proofs.Common.{◌≡◌, ℕ, ◌≤◌, List, [], ◌∷◌, ◌++◌, length, take, Option, Result, Ok, Err, refl, sym, ap, ◌∙◌, arith, decimal}
use Rattle.std.specs.Prelude.{OnErr}
use Rattle.std.specs.List.{join_with_byte}
use Rattle.std.proofs.lemmas.List.{append-nil, append_assoc, length-append, take_at, take-take}
use Rattle.std.proofs.lemmas.List.Concat.{flat_map-append}
use Rattle.chan_values.specs.declared.side.Side.{Side}
use Rattle.lab_script.specs.declared.outcome.Outcome.{Outcome}
use Rattle.lab_script.specs.declared.verb.Verb.{Verb}
use Rattle.lab_script.specs.Verb.{verb_text}
use Rattle.lab_script.specs.Report.{side_words, outcome_words, report_line}
use Rattle.lab_script.specs.Appending.{Keeps, spaced}

-- a fact that holds in any case holds on an error
pub OnErr-from : {T E P : Type 0} (r : Result T E) → P → OnErr r P
OnErr-from (Ok x) p = tt
OnErr-from (Err e) p = p

-- what keeps a longer list keeps its beginning
pub Keeps-after : (old text mid new : List ℕ) → mid ≡ old ++ text → Keeps mid new → Keeps old new
Keeps-after old text mid new e kept =
    let len : length old ≤ length mid = omega (arith, ap length e, length-append old text) in
    sym (take-take (length old) (length mid) new len)
    ∙ ap (λ (xs : List ℕ). take (length old) xs) (kept ∙ e)
    ∙ take_at old text (length old) refl

-- ---- a line in parts

join_with_byte-spaced : (word : List ℕ) (words : List (List ℕ))
    → join_with_byte 32 (word ∷ words) ≡ word ++ spaced words
join_with_byte-spaced word [] = sym (append-nil word)
join_with_byte-spaced word (next ∷ words) =
    ap (λ (rest : List ℕ). word ++ 32 ∷ rest) (join_with_byte-spaced next words)

pub report_line-parts : (number : ℕ) (verb : Verb) (side : Option Side) (outcome : Outcome)
    → report_line number verb side outcome
    ≡ decimal number ++ ((32 ∷ verb_text verb) ++
    (spaced (side_words side) ++ (spaced (outcome_words outcome) ++ 10 ∷ [])))
report_line-parts number verb side outcome =
    let joined = join_with_byte-spaced (decimal number)
    (verb_text verb ∷ (side_words side ++ outcome_words outcome)) in
    let parts : spaced (side_words side ++ outcome_words outcome) ≡ spaced (side_words side)
    ++ spaced (outcome_words outcome) =
    flat_map-append (λ (word : List ℕ). 32 ∷ word) (side_words side) (outcome_words outcome) in
    ap (λ (xs : List ℕ). xs ++ 10 ∷ [])
    (joined ∙ ap (λ (xs : List ℕ). decimal number ++ 32 ∷ (verb_text verb ++ xs)) parts)
    ∙ simp append_assoc

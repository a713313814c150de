-- The words of a line, put one behind another.
use Rattle.std.proofs.Common.{◌≡◌, ℕ, List, [], ◌∷◌, ◌++◌, refl, sym, ap, ◌∙◌, append_assoc}
use Rattle.std.specs.List.{join_with_byte}

-- a text that is put behind another which stands behind a list
pub put_behind : (before text more : List ℕ) {old new : List ℕ}
    → old ≡ before ++ text → new ≡ old ++ more → new ≡ before ++ (text ++ more)
put_behind before text more are put =
    put ∙ ap (λ bytes. bytes ++ more) are ∙ append_assoc before text more

-- words behind a first one, and what follows them
abbrev words_behind : List (List ℕ) → List ℕ → List ℕ
words_behind [] more = more
words_behind (word ∷ words) more = 32 ∷ (word ++ words_behind words more)

joined : (word : List ℕ) (words : List (List ℕ)) (more : List ℕ)
    → join_with_byte 32 (word ∷ words) ++ more ≡ word ++ words_behind words more
joined word [] more = refl
joined word (next ∷ words) more =
    append_assoc word (32 ∷ join_with_byte 32 (next ∷ words)) more
    ∙ ap (λ text. word ++ (32 ∷ text)) (joined next words more)

-- seven words and a line feed
pub line_text : (a b c d e f g : List ℕ)
    → (((((((a ++ (32 ∷ b)) ++ (32 ∷ c)) ++ (32 ∷ d)) ++ (32 ∷ e)) ++ (32 ∷ f)) ++ (32 ∷ g))
    ++ (10 ∷ []))
    ≡ join_with_byte 32 (a ∷ b ∷ c ∷ d ∷ e ∷ f ∷ g ∷ []) ++ (10 ∷ [])
line_text a b c d e f g =
    let end = 10 ∷ [] in
    append_assoc _ (32 ∷ g) end
    ∙ append_assoc _ (32 ∷ f) (words_behind (g ∷ []) end)
    ∙ append_assoc _ (32 ∷ e) (words_behind (f ∷ g ∷ []) end)
    ∙ append_assoc _ (32 ∷ d) (words_behind (e ∷ f ∷ g ∷ []) end)
    ∙ append_assoc _ (32 ∷ c) (words_behind (d ∷ e ∷ f ∷ g ∷ []) end)
    ∙ append_assoc a (32 ∷ b) (words_behind (c ∷ d ∷ e ∷ f ∷ g ∷ []) end)
    ∙ sym (joined a (b ∷ c ∷ d ∷ e ∷ f ∷ g ∷ []) end)

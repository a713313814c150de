-- What a vector keeps while texts are put at its end. The private writers alone cite this.
use Rattle.std.specs.Prelude.{◌≡◌, ℕ, List, ◌∷◌, take, length}
use Rattle.std.specs.List.{flat_map}

-- the old list is the beginning of the new one
abbrev pub Keeps : List ℕ → List ℕ → Type 0
Keeps old new = take (length old) new ≡ old

-- the words, each behind a space
abbrev pub spaced : List (List ℕ) → List ℕ
spaced words = flat_map (λ word. 32 ∷ word) words

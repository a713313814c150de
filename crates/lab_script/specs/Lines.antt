-- The lines of an input, and the words of a line.
use Rattle.std.specs.Prelude.{ℕ, ◌==◌, List, [], ◌∷◌}
use Rattle.std.specs.List.{slice_split}

-- an empty last piece is no line; every other piece is one
abbrev pub without_empty_last : List (List ℕ) → List (List ℕ)
without_empty_last [] = []
without_empty_last ([] ∷ []) = []
without_empty_last ((b ∷ bytes) ∷ []) = (b ∷ bytes) ∷ []
without_empty_last (piece ∷ next ∷ more) = piece ∷ without_empty_last (next ∷ more)

-- the pieces between line feeds
abbrev pub lines_of : List ℕ → List (List ℕ)
lines_of input = without_empty_last (slice_split (λ b. b == 10) input)

-- the pieces between spaces
abbrev pub words_in : List ℕ → List (List ℕ)
words_in line = slice_split (λ b. b == 32) line

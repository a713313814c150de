-- A script, and the first line of an input that is out of its grammar.
use Rattle.std.specs.Prelude.{◌≡◌, ℕ, ◌+◌, List, ◌∷◌, ◌++◌, map, length, All}
use Rattle.lab_script.specs.Lines.{lines_of}

-- the lines of the input are these commands, one a line, with their numbers and bytes in range
pub record IsScript {C : Type 0} (spelling : C → List ℕ) (InRange : C → Type 0)
    (commands : List C) (input : List ℕ) : Type 0 where
  pub spelled : lines_of input ≡ map spelling commands
  pub in_range : All InRange commands

-- line n, counted from 1, is the first that is out of the grammar
pub record IsFirstBad (IsLine : List ℕ → Type 0) (n : ℕ) (lines : List (List ℕ)) : Type 0 where
  pub good : List (List ℕ)
  pub bad : List ℕ
  pub rest : List (List ℕ)
  pub parts : lines ≡ good ++ bad ∷ rest
  pub place : n ≡ length good + 1
  pub before : All IsLine good
  pub out : ¬ IsLine bad

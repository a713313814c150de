-- The ids of the messages that a worker puts in.
use Rattle.std.specs.Prelude.{ℕ, ◌+◌, ◌*◌, ◌%◌, ◌^◌, List, [], ◌∷◌, ◌++◌, slice_index}
use Rattle.std.specs.Int.{w64, to_be_bytes}

-- the first 8 of these bytes
abbrev pub first_8 : List ℕ → List ℕ
first_8 bytes =
    slice_index bytes 0
    ∷ slice_index bytes 1
    ∷ slice_index bytes 2
    ∷ slice_index bytes 3
    ∷ slice_index bytes 4
    ∷ slice_index bytes 5
    ∷ slice_index bytes 6
    ∷ slice_index bytes 7
    ∷ []

-- the first 8 bytes of what was drawn for the run, 3 of the worker's number and 5 of its count
abbrev pub id_of : List ℕ → ℕ → ℕ → List ℕ
id_of base worker count =
    first_8 base ++ first_8 (to_be_bytes w64 ((worker % 2 ^ 24) * 2 ^ 40 + count % 2 ^ 40))

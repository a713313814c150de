-- Words behind `--gen`.
use Rattle.std.proofs.Common.{◌≡◌, ◌≢◌, ℕ, ◌<◌, ◌^◌, inl, inr, List, [], ◌∷◌, length, refl, sym, codes, decimal, arith}
use Rattle.std.proofs.lemmas.List.{nil_from_length}
use Rattle.lab_cmd.specs.declared.words.Mode.{Mode}
use Rattle.lab_cmd.specs.Words.{Begins, IsRounds, IsWords, IsWordsFault}
use Rattle.lab_cmd.proofs.WordLemmas.{gen_is_not_show, gen_is_not_window, task_is_not_gen, stops_at}

-- behind `--gen` stand the rounds and the start, and no more
record BehindGen (operands : List (List ℕ)) : Type 0 where
  rounds : ℕ
  start : ℕ
  few : IsRounds rounds
  small : start < 2 ^ 64
  spelled : operands ≡ decimal rounds ∷ decimal start ∷ []

behind_gen : (operands : List (List ℕ)) (mode : Mode) → IsWords mode (codes "--gen" ∷ operands)
    → BehindGen operands
behind_gen operands (Mode.Windowed task window) (inl told) =
    absurd (task_is_not_gen task operands (sym told.0))
behind_gen operands (Mode.Windowed task window) (inr told) =
    let e = told.0 in
    let same : codes "--gen" ≡ codes "--window" = cc in absurd (gen_is_not_window same)
behind_gen operands Mode.Show e =
    let same : codes "--gen" ≡ codes "--show" = cc in absurd (gen_is_not_show same)
behind_gen operands (Mode.Gen rounds start) worded =
    let e = worded.0 in
    record { rounds = rounds; start = start; few = worded.1; small = worded.2; spelled = cc }

-- what begins a command line
Begins-gen : Begins (codes "--gen" ∷ [])
Begins-gen =
    (decimal 1 ∷ decimal 0 ∷ [], Mode.Gen 1 0, (refl, (omega arith, omega arith), omega arith))

Begins-rounds : (rounds : ℕ) → IsRounds rounds → Begins (codes "--gen" ∷ decimal rounds ∷ [])
Begins-rounds rounds few =
    (decimal 0 ∷ [], Mode.Gen rounds 0, (refl, few, omega arith))

Begins-start : (rounds start : ℕ) → IsRounds rounds → start < 2 ^ 64
    → Begins (codes "--gen" ∷ decimal rounds ∷ decimal start ∷ [])
Begins-start rounds start few small = ([], Mode.Gen rounds start, (refl, few, small))

-- there is no word behind `--gen`
pub IsWordsFault-gen : (operands : List (List ℕ)) → length operands ≡ 0
    → IsWordsFault (codes "--gen" ∷ operands) 1
IsWordsFault-gen operands last =
    let none : operands ≡ [] = nil_from_length operands last in
    let at : IsWordsFault (codes "--gen" ∷ []) 1 =
    record {
      none = λ mode worded. let e = (behind_gen [] mode worded).spelled in absurd (cc);
      begin = Begins-gen;
      stop = inl refl;
    } in
    rw none at

-- the word behind it is no number of rounds
pub IsWordsFault-rounds : (operands : List (List ℕ)) (count : List ℕ) (more : List (List ℕ))
    → operands ≡ count ∷ more
    → ((n : ℕ) → IsRounds n → decimal n ≢ count)
    → IsWordsFault (codes "--gen" ∷ operands) 1
IsWordsFault-rounds operands count more second other =
    let at : IsWordsFault (codes "--gen" ∷ count ∷ more) 1 =
    stops_at (codes "--gen" ∷ count ∷ more) 1 Begins-gen
    (λ (b : Begins (codes "--gen" ∷ count ∷ [])).
    let g = behind_gen (count ∷ b.0) b.1 b.2 in
    let e = g.spelled in
    other g.rounds g.few (cc)) in
    rw second at

-- there is no word behind the rounds
pub IsWordsFault-startless : (operands : List (List ℕ)) (count : List ℕ) (more : List (List ℕ))
    (rounds : ℕ)
    → operands ≡ count ∷ more
    → IsRounds rounds
    → decimal rounds ≡ count
    → length more ≡ 0
    → IsWordsFault (codes "--gen" ∷ operands) 2
IsWordsFault-startless operands count more rounds second few spelled last =
    let none : more ≡ [] = nil_from_length more last in
    let at : IsWordsFault (codes "--gen" ∷ decimal rounds ∷ []) 2 =
    record {
      none = λ mode worded.
          let e = (behind_gen (decimal rounds ∷ []) mode worded).spelled in absurd (cc);
      begin = Begins-rounds rounds few;
      stop = inl refl;
    } in
    rw (second, ← spelled, none) at

-- the word behind the rounds is no start
pub IsWordsFault-start : (operands : List (List ℕ)) (count : List ℕ) (more : List (List ℕ))
    (rounds : ℕ) (first : List ℕ) (rest : List (List ℕ))
    → operands ≡ count ∷ more
    → IsRounds rounds
    → decimal rounds ≡ count
    → more ≡ first ∷ rest
    → ((n : ℕ) → n < 2 ^ 64 → decimal n ≢ first)
    → IsWordsFault (codes "--gen" ∷ operands) 2
IsWordsFault-start operands count more rounds first rest second few spelled third other =
    let words = codes "--gen" ∷ decimal rounds ∷ first ∷ rest in
    let at : IsWordsFault words 2 =
    stops_at words 2 (Begins-rounds rounds few)
    (λ (b : Begins (codes "--gen" ∷ decimal rounds ∷ first ∷ [])).
    let g = behind_gen (decimal rounds ∷ first ∷ b.0) b.1 b.2 in
    let e = g.spelled in
    other g.start g.small (cc)) in
    rw (second, ← spelled, third) at

-- a word behind the start
beyond_start : (rounds start : ℕ) (rest : List (List ℕ))
    → 0 < length rest
    → IsRounds rounds
    → start < 2 ^ 64
    → IsWordsFault (codes "--gen" ∷ decimal rounds ∷ decimal start ∷ rest) 3
beyond_start rounds start [] some few small = absurd (omega (arith, some))
beyond_start rounds start (word ∷ rest) some few small =
    let words = codes "--gen" ∷ decimal rounds ∷ decimal start ∷ word ∷ rest in
    stops_at words 3 (Begins-start rounds start few small)
    (λ (b : Begins (codes "--gen" ∷ decimal rounds ∷ decimal start ∷ word ∷ [])).
    let e = (behind_gen (decimal rounds ∷ decimal start ∷ word ∷ b.0) b.1 b.2).spelled in
    absurd (cc))

pub IsWordsFault-beyond : (operands : List (List ℕ)) (count : List ℕ) (more : List (List ℕ))
    (rounds : ℕ) (first : List ℕ) (rest : List (List ℕ)) (start : ℕ)
    → operands ≡ count ∷ more
    → IsRounds rounds
    → decimal rounds ≡ count
    → more ≡ first ∷ rest
    → start < 2 ^ 64
    → decimal start ≡ first
    → 0 < length rest
    → IsWordsFault (codes "--gen" ∷ operands) 3
IsWordsFault-beyond operands count more rounds first rest start second few spelled third small told
    some
    =
    rw (second, ← spelled, third, ← told) (beyond_start rounds start rest some few small)

-- `--gen`, the rounds and the start
pub IsWords-gen : (operands : List (List ℕ)) (count : List ℕ) (more : List (List ℕ))
    (rounds : ℕ) (first : List ℕ) (rest : List (List ℕ)) (start : ℕ)
    → operands ≡ count ∷ more
    → IsRounds rounds
    → decimal rounds ≡ count
    → more ≡ first ∷ rest
    → start < 2 ^ 64
    → decimal start ≡ first
    → length rest ≡ 0
    → IsWords (Mode.Gen rounds start) (codes "--gen" ∷ operands)
IsWords-gen operands count more rounds first rest start second few spelled third small told last =
    let none : rest ≡ [] = nil_from_length rest last in
    (cc, few, small)

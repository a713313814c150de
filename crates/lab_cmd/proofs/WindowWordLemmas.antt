-- Words behind `--window`.
use Rattle.std.proofs.Common.{◌≡◌, ◌≢◌, ℕ, ◌<◌, inl, inr, List, [], ◌∷◌, length, refl, sym, ap, ◌∙◌, codes, decimal, arith}
use Rattle.std.proofs.lemmas.List.{nil_from_length}
use Rattle.lab_cmd.specs.declared.words.Mode.{Mode}
use Rattle.lab_cmd.specs.declared.words.Task.{Task}
use Rattle.lab_cmd.specs.Words.{Begins, IsWindow, IsWords, IsWordsFault, task_words}
use Rattle.lab_cmd.proofs.WordLemmas.{gen_is_not_window, task_is_not_window, one_word, show_is_not_window, stops_at}

-- behind `--window` stand the window and the word of a task, and no more
record BehindWindow (operands : List (List ℕ)) : Type 0 where
  window : ℕ
  task : Task
  fits : IsWindow window
  spelled : operands ≡ decimal window ∷ task_words task

behind_window : (operands : List (List ℕ)) (mode : Mode)
    → IsWords mode (codes "--window" ∷ operands) → BehindWindow operands
behind_window operands (Mode.Windowed task window) (inl told) =
    absurd (task_is_not_window task operands (sym told.0))
behind_window operands (Mode.Windowed task window) (inr told) =
    let e = told.0 in record { window = window; task = task; fits = told.1; spelled = cc e }
behind_window operands Mode.Show e =
    let same : codes "--show" ≡ codes "--window" = cc e in absurd (show_is_not_window same)
behind_window operands (Mode.Gen rounds start) told =
    let e = told.0 in
    let same : codes "--gen" ≡ codes "--window" = cc e in absurd (gen_is_not_window same)

-- what begins a command line
Begins-option : Begins (codes "--window" ∷ [])
Begins-option =
    (decimal 1 ∷ [], Mode.Windowed Task.Plain 1, inr (refl, (omega arith, omega arith)))

Begins-window : (window : ℕ) → IsWindow window → Begins (codes "--window" ∷ decimal window ∷ [])
Begins-window window fits = ([], Mode.Windowed Task.Plain window, inr (refl, fits))

Begins-task : (window : ℕ) (task : Task) (name : List ℕ) → IsWindow window
    → task_words task ≡ name ∷ []
    → Begins (codes "--window" ∷ decimal window ∷ name ∷ [])
Begins-task window task name fits named = (
  [],
  Mode.Windowed task window,
  inr (ap (λ (ws : List (List ℕ)). codes "--window" ∷ decimal window ∷ ws) (sym named), fits),
)

-- there is no word behind `--window`
pub IsWordsFault-early : (operands : List (List ℕ)) → length operands ≡ 0
    → IsWordsFault (codes "--window" ∷ operands) 1
IsWordsFault-early operands last =
    let none : operands ≡ [] = nil_from_length operands last in
    let at : IsWordsFault (codes "--window" ∷ []) 1 =
    record {
      none = λ mode worded. let e = (behind_window [] mode worded).spelled in absurd (cc e);
      begin = Begins-option;
      stop = inl refl;
    } in
    rw none at

-- the word behind it is no window
pub IsWordsFault-number : (operands : List (List ℕ)) (number : List ℕ) (more : List (List ℕ))
    → operands ≡ number ∷ more
    → ((n : ℕ) → IsWindow n → decimal n ≢ number)
    → IsWordsFault (codes "--window" ∷ operands) 1
IsWordsFault-number operands number more second other =
    let at : IsWordsFault (codes "--window" ∷ number ∷ more) 1 =
    stops_at (codes "--window" ∷ number ∷ more) 1 Begins-option
    (λ (b : Begins (codes "--window" ∷ number ∷ [])).
    let behind = behind_window (number ∷ b.0) b.1 b.2 in
    let e = behind.spelled in
    other behind.window behind.fits (cc e)) in
    rw second at

-- `--window` and a window
pub IsWords-window : (window : ℕ) (operands : List (List ℕ)) (number : List ℕ)
    (more : List (List ℕ))
    → operands ≡ number ∷ more
    → length more ≡ 0
    → IsWindow window
    → decimal window ≡ number
    → IsWords (Mode.Windowed Task.Plain window) (codes "--window" ∷ operands)
IsWords-window window operands number more second last fits spelled =
    let none : more ≡ [] = nil_from_length more last in
    inr (cc, fits)

-- the word behind the window names no task
pub IsWordsFault-task : (operands : List (List ℕ)) (number : List ℕ) (more : List (List ℕ))
    (window : ℕ) (name : List ℕ) (rest : List (List ℕ))
    → operands ≡ number ∷ more
    → IsWindow window
    → decimal window ≡ number
    → more ≡ name ∷ rest
    → ((task : Task) → task_words task ≢ name ∷ [])
    → IsWordsFault (codes "--window" ∷ operands) 2
IsWordsFault-task operands number more window name rest second fits spelled third none =
    let words = codes "--window" ∷ decimal window ∷ name ∷ rest in
    let at : IsWordsFault words 2 =
    stops_at words 2 (Begins-window window fits)
    (λ (b : Begins (codes "--window" ∷ decimal window ∷ name ∷ [])).
    let behind = behind_window (decimal window ∷ name ∷ b.0) b.1 b.2 in
    let e = behind.spelled in
    let words_are : task_words behind.task ≡ name ∷ b.0 = cc e in
    let last = one_word behind.task name b.0 words_are in
    none behind.task (words_are ∙ ap (λ (ws : List (List ℕ)). name ∷ ws) last)) in
    rw (second, ← spelled, third) at

-- a word behind that of the task
beyond_task : (window : ℕ) (task : Task) (name : List ℕ) (rest : List (List ℕ))
    → 0 < length rest
    → IsWindow window
    → task_words task ≡ name ∷ []
    → IsWordsFault (codes "--window" ∷ decimal window ∷ name ∷ rest) 3
beyond_task window task name [] some fits named = absurd (omega (arith, some))
beyond_task window task name (word ∷ rest) some fits named =
    let words = codes "--window" ∷ decimal window ∷ name ∷ word ∷ rest in
    stops_at words 3 (Begins-task window task name fits named)
    (λ (b : Begins (codes "--window" ∷ decimal window ∷ name ∷ word ∷ [])).
    let behind = behind_window (decimal window ∷ name ∷ word ∷ b.0) b.1 b.2 in
    let e = behind.spelled in
    let words_are : task_words behind.task ≡ name ∷ word ∷ b.0 = cc e in
    let last = one_word behind.task name (word ∷ b.0) words_are in
    absurd (cc last))

pub IsWordsFault-more : (operands : List (List ℕ)) (number : List ℕ) (more : List (List ℕ))
    (window : ℕ) (name : List ℕ) (rest : List (List ℕ)) (task : Task)
    → operands ≡ number ∷ more
    → IsWindow window
    → decimal window ≡ number
    → more ≡ name ∷ rest
    → task_words task ≡ name ∷ []
    → 0 < length rest
    → IsWordsFault (codes "--window" ∷ operands) 3
IsWordsFault-more operands number more window name rest task second fits spelled third named some =
    rw (second, ← spelled, third) (beyond_task window task name rest some fits named)

-- `--window`, a window and the word of a task
pub IsWords-task : (operands : List (List ℕ)) (number : List ℕ) (more : List (List ℕ))
    (window : ℕ) (name : List ℕ) (rest : List (List ℕ)) (task : Task)
    → operands ≡ number ∷ more
    → IsWindow window
    → decimal window ≡ number
    → more ≡ name ∷ rest
    → task_words task ≡ name ∷ []
    → length rest ≡ 0
    → IsWords (Mode.Windowed task window) (codes "--window" ∷ operands)
IsWords-task operands number more window name rest task second fits spelled third named last =
    let none : rest ≡ [] = nil_from_length rest last in
    inr (cc, fits)

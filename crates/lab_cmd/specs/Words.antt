-- The words behind the program's name.
use Rattle.std.specs.Prelude.{◌≡◌, ℕ, ◌+◌, ◌^◌, ◌<◌, ◌≤◌, ◌⊎◌, List, [], ◌∷◌, ◌++◌, length, take, codes, decimal, ⊤}
use Rattle.chan_values.specs.Limits.{max_window}
use Rattle.lab_cmd.specs.declared.words.Mode.{Mode}
use Rattle.lab_cmd.specs.declared.words.Task.{Task}

-- a window of the ends has 1 to 10,000 messages
abbrev pub IsWindow : ℕ → Type 0
IsWindow window = (1 ≤ window) × (window ≤ max_window)

-- a script that makes itself has 1 to 1,000,000 rounds
abbrev pub IsRounds : ℕ → Type 0
IsRounds rounds = (1 ≤ rounds) × (rounds ≤ 1000000)

-- the numbers of a mode are in range
abbrev pub IsMode : Mode → Type 0
IsMode (Mode.Windowed task window) = IsWindow window
IsMode Mode.Show = ⊤
IsMode (Mode.Gen rounds start) = IsRounds rounds

-- the word that names a task; the run of a plain script has none
abbrev pub task_words : Task → List (List ℕ)
task_words Task.Plain = []
task_words Task.Streams = codes "--streams" ∷ []
task_words Task.Relay = codes "--relay" ∷ []
task_words Task.Journal = codes "--journal" ∷ []
task_words Task.Audit = codes "--audit" ∷ []

-- the words are these, and the window is 10,000; or `--window` and the window stand before these
abbrev pub AsksWindow : ℕ → List (List ℕ) → List (List ℕ) → Type 0
AsksWindow window more words =
    ((words ≡ more) × (window ≡ 10000))
    ⊎ ((words ≡ codes "--window" ∷ decimal window ∷ more) × IsWindow window)

-- the words are a command line of this mode
abbrev pub IsWords : Mode → List (List ℕ) → Type 0
IsWords (Mode.Windowed task window) words = AsksWindow window (task_words task) words
IsWords Mode.Show words = words ≡ codes "--show" ∷ []
IsWords (Mode.Gen rounds start) words =
    (words ≡ codes "--gen" ∷ decimal rounds ∷ decimal start ∷ [])
    × IsRounds rounds
    × (start < 2 ^ 64)

-- no mode is asked for by this word alone
abbrev pub IsNoOption : List ℕ → Type 0
IsNoOption word = (mode : Mode) → ¬ IsWords mode (word ∷ [])

-- some words more make a command line of these
abbrev pub Begins : List (List ℕ) → Type 0
Begins words = (more : List (List ℕ)) × (mode : Mode) × IsWords mode (words ++ more)

-- the words are no command line: the first k begin one, and those and the next word begin none, or
-- there are no more
pub record IsWordsFault (words : List (List ℕ)) (k : ℕ) : Type 0 where
  pub none : (mode : Mode) → ¬ IsWords mode words
  pub begin : Begins (take k words)
  pub stop : (k ≡ length words) ⊎ (¬ Begins (take (k + 1) words))

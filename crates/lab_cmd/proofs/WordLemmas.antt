-- Words that are a command line, and words that are none.
use Rattle.std.proofs.Common.{◌≡◌, ◌≢◌, ℕ, ◌+◌, ◌<◌, inl, inr, List, [], ◌∷◌, length, take, drop, refl, sym, ap, subst, ◌∙◌, codes, arith}
use Rattle.std.proofs.lemmas.Fmt.{decimal_injective}
use Rattle.std.proofs.lemmas.List.{nil_from_length, take-append-drop}
use Rattle.lab_cmd.specs.declared.words.Mode.{Mode}
use Rattle.lab_cmd.specs.declared.words.Task.{Task}
use Rattle.lab_cmd.specs.Words.{Begins, IsMode, IsNoOption, IsWords, IsWordsFault, task_words}

-- ---- the options are different words

pub show_is_not_window : codes "--show" ≢ codes "--window"
show_is_not_window e = let n : 6 ≡ 8 = ap length e in omega (arith, n)

pub gen_is_not_window : codes "--gen" ≢ codes "--window"
gen_is_not_window e = let n : 5 ≡ 8 = ap length e in omega (arith, n)

pub gen_is_not_show : codes "--gen" ≢ codes "--show"
gen_is_not_show e = let n : 5 ≡ 6 = ap length e in omega (arith, n)

-- the word of a task is no other option
task_is_not : (task : Task) (option : List ℕ) (rest : List (List ℕ))
    → task_words task ≡ option ∷ rest → length option ≢ 9 → length option ≢ 7 → ⊥
task_is_not Task.Plain option rest e nine seven = absurd (cc e)
task_is_not Task.Streams option rest e nine seven =
    let same : option ≡ codes "--streams" = cc e in nine (ap length same)
task_is_not Task.Relay option rest e nine seven =
    let same : option ≡ codes "--relay" = cc e in seven (ap length same)
task_is_not Task.Journal option rest e nine seven =
    let same : option ≡ codes "--journal" = cc e in nine (ap length same)
task_is_not Task.Audit option rest e nine seven =
    let same : option ≡ codes "--audit" = cc e in seven (ap length same)

pub task_is_not_window : (task : Task) (rest : List (List ℕ))
    → task_words task ≢ codes "--window" ∷ rest
task_is_not_window task rest e =
    task_is_not task (codes "--window") rest e
    (λ (n : 8 ≡ 9). omega (arith, n)) (λ (n : 8 ≡ 7). omega (arith, n))

task_is_not_show : (task : Task) (rest : List (List ℕ))
    → task_words task ≢ codes "--show" ∷ rest
task_is_not_show task rest e =
    task_is_not task (codes "--show") rest e
    (λ (n : 6 ≡ 9). omega (arith, n)) (λ (n : 6 ≡ 7). omega (arith, n))

pub task_is_not_gen : (task : Task) (rest : List (List ℕ))
    → task_words task ≢ codes "--gen" ∷ rest
task_is_not_gen task rest e =
    task_is_not task (codes "--gen") rest e
    (λ (n : 5 ≡ 9). omega (arith, n)) (λ (n : 5 ≡ 7). omega (arith, n))

-- a task has one word at most
pub one_word : (task : Task) (word : List ℕ) (rest : List (List ℕ))
    → task_words task ≡ word ∷ rest → rest ≡ []
one_word Task.Plain word rest e = absurd (cc e)
one_word Task.Streams word rest e = cc e
one_word Task.Relay word rest e = cc e
one_word Task.Journal word rest e = cc e
one_word Task.Audit word rest e = cc e

-- the third letter of the first word
abbrev third : List (List ℕ) → ℕ
third ((a ∷ b ∷ c ∷ rest) ∷ words) = c
third words = 0

-- it tells the tasks apart
abbrev third_of : Task → ℕ
third_of Task.Plain = 0
third_of Task.Streams = 0x73
third_of Task.Relay = 0x72
third_of Task.Journal = 0x6a
third_of Task.Audit = 0x61

third_is : (task : Task) → third (task_words task) ≡ third_of task
third_is Task.Plain = refl
third_is Task.Streams = refl
third_is Task.Relay = refl
third_is Task.Journal = refl
third_is Task.Audit = refl

same_third : (a b : Task) → third_of a ≡ third_of b → a ≡ b
same_third Task.Plain Task.Plain e = refl
same_third Task.Streams Task.Streams e = refl
same_third Task.Relay Task.Relay e = refl
same_third Task.Journal Task.Journal e = refl
same_third Task.Audit Task.Audit e = refl
same_third a b e = absurd (omega (arith, e))

-- so it is named by its word
same_task : (a b : Task) → task_words a ≡ task_words b → a ≡ b
same_task a b e = same_third a b (sym (third_is a) ∙ ap third e ∙ third_is b)

-- ---- words that stop being a command line

-- words of which the first k begin a command line, and the first k + 1 begin none
pub stops_at : (words : List (List ℕ)) (k : ℕ) → Begins (take k words) → ¬ Begins (take (k + 1) words)
    → IsWordsFault words k
stops_at words k begin stop =
    record {
      none = λ mode worded.
          stop (
            drop (k + 1) words,
            mode,
            subst (IsWords mode) (sym (take-append-drop (k + 1) words)) worded,
          );
      begin = begin;
      stop = inr stop;
    }

-- what begins a command line
Begins-none : Begins []
Begins-none = (codes "--show" ∷ [], Mode.Show, refl)

-- no mode is asked for by a word that is neither `--show` nor that of a task
pub IsNoOption-other : (option : List ℕ)
    → option ≢ codes "--show"
    → ((task : Task) → task_words task ≢ option ∷ [])
    → IsNoOption option
IsNoOption-other option other none (Mode.Windowed task window) (inl told) = none task (sym told.0)
IsNoOption-other option other none (Mode.Windowed task window) (inr told) =
    let e = told.0 in absurd (cc e)
IsNoOption-other option other none Mode.Show e = other (cc e)
IsNoOption-other option other none (Mode.Gen rounds start) told =
    let e = told.0 in absurd (cc e)

-- nor does a command line begin with it
not_the_option : (option : List ℕ) (more : List (List ℕ)) (mode : Mode)
    → option ≢ codes "--window"
    → option ≢ codes "--gen"
    → IsNoOption option
    → IsWords mode (option ∷ more) → ⊥
not_the_option option more (Mode.Windowed task window) second third none (inl told) =
    let last = one_word task option more (sym told.0) in
    none (Mode.Windowed task window) (inl (rw last at told.0, told.1))
not_the_option option more (Mode.Windowed task window) second third none (inr told) =
    let e = told.0 in second (cc e)
not_the_option option more Mode.Show second third none e =
    let last : more ≡ [] = cc e in none Mode.Show (rw last at e)
not_the_option option more (Mode.Gen rounds start) second third none told =
    let e = told.0 in third (cc e)

pub IsWordsFault-other : (words : List (List ℕ)) (option : List ℕ) (operands : List (List ℕ))
    → words ≡ option ∷ operands
    → option ≢ codes "--window"
    → option ≢ codes "--gen"
    → IsNoOption option
    → IsWordsFault words 0
IsWordsFault-other words option operands front second third none =
    let at : IsWordsFault (option ∷ operands) 0 =
    stops_at (option ∷ operands) 0 Begins-none
    (λ (b : Begins (option ∷ [])). not_the_option option b.0 b.1 second third none b.2)
    in
    rw front at

-- nothing stands behind a word that asks for a mode alone
nothing_behind : (option word : List ℕ) (more : List (List ℕ)) (mode other : Mode)
    → IsWords mode (option ∷ []) → IsWords other (option ∷ word ∷ more) → ⊥
nothing_behind option word more mode (Mode.Windowed task window) alone (inl told) =
    let last = one_word task option (word ∷ more) (sym told.0) in absurd (cc last)
nothing_behind option word more (Mode.Windowed a m) (Mode.Windowed task window) (inl alone) (inr told) =
    let e = told.0 in
    let window_is : option ≡ codes "--window" = cc e in
    task_is_not_window a [] (sym alone.0 ∙ ap (λ (w : List ℕ). w ∷ []) window_is)
nothing_behind option word more (Mode.Windowed a m) (Mode.Windowed task window) (inr alone) (inr told) =
    let e = alone.0 in absurd (cc e)
nothing_behind option word more Mode.Show (Mode.Windowed task window) alone (inr told) =
    let e = told.0 in
    let same : codes "--show" ≡ codes "--window" = cc (e, alone) in show_is_not_window same
nothing_behind option word more (Mode.Gen k n) (Mode.Windowed task window) alone (inr told) =
    let e = alone.0 in absurd (cc e)
nothing_behind option word more mode Mode.Show alone e = absurd (cc e)
nothing_behind option word more (Mode.Windowed a m) (Mode.Gen rounds start) (inl alone) told =
    let e = told.0 in
    let gen_is : option ≡ codes "--gen" = cc e in
    task_is_not_gen a [] (sym alone.0 ∙ ap (λ (w : List ℕ). w ∷ []) gen_is)
nothing_behind option word more (Mode.Windowed a m) (Mode.Gen rounds start) (inr alone) told =
    let e = alone.0 in absurd (cc e)
nothing_behind option word more Mode.Show (Mode.Gen rounds start) alone told =
    let e = told.0 in
    let same : codes "--gen" ≡ codes "--show" = cc (e, alone) in gen_is_not_show same
nothing_behind option word more (Mode.Gen k n) (Mode.Gen rounds start) alone told =
    let e = alone.0 in absurd (cc e)

alone_and_more : (option : List ℕ) (operands : List (List ℕ)) (mode : Mode)
    → IsWords mode (option ∷ []) → 0 < length operands → IsWordsFault (option ∷ operands) 1
alone_and_more option [] mode alone some = absurd (omega (arith, some))
alone_and_more option (word ∷ more) mode alone some =
    stops_at (option ∷ word ∷ more) 1 ([], mode, alone)
    (λ (b : Begins (option ∷ word ∷ [])). nothing_behind option word b.0 mode b.1 alone b.2)

pub IsWordsFault-alone : (words : List (List ℕ)) (option : List ℕ) (operands : List (List ℕ))
    (mode : Mode)
    → words ≡ option ∷ operands
    → IsWords mode (option ∷ [])
    → 0 < length operands
    → IsWordsFault words 1
IsWordsFault-alone words option operands mode front alone some =
    rw front (alone_and_more option operands mode alone some)

pub IsWords-alone : (words : List (List ℕ)) (option : List ℕ) (operands : List (List ℕ))
    (mode : Mode)
    → words ≡ option ∷ operands
    → IsWords mode (option ∷ [])
    → length operands ≡ 0
    → IsWords mode words
IsWords-alone words option operands mode front alone last =
    let none : operands ≡ [] = nil_from_length operands last in rw (front, none) alone

-- ---- words ask for one mode

same_script : (words : List (List ℕ)) (a b : Task) (m n : ℕ)
    → IsWords (Mode.Windowed a m) words → IsWords (Mode.Windowed b n) words
    → (task_words a ≡ task_words b) × (m ≡ n)
same_script words a b m n (inl first) (inl second) =
    (sym first.0 ∙ second.0, first.1 ∙ sym second.1)
same_script words a b m n (inl first) (inr second) =
    absurd (task_is_not_window a _ (sym first.0 ∙ second.0))
same_script words a b m n (inr first) (inl second) =
    absurd (task_is_not_window b _ (sym second.0 ∙ first.0))
same_script words a b m n (inr first) (inr second) =
    let e = sym first.0 ∙ second.0 in (
      cc e,
      decimal_injective m n (omega (arith, first.1)) (omega (arith, second.1)) (cc e),
    )

script_is_not_show : (words : List (List ℕ)) (a : Task) (m : ℕ)
    → IsWords (Mode.Windowed a m) words → words ≢ codes "--show" ∷ []
script_is_not_show words a m (inl told) e = task_is_not_show a [] (sym told.0 ∙ e)
script_is_not_show words a m (inr told) e = absurd (cc (told.0, e))

script_is_not_gen : (words : List (List ℕ)) (a : Task) (m : ℕ) (rest : List (List ℕ))
    → IsWords (Mode.Windowed a m) words → words ≢ codes "--gen" ∷ rest
script_is_not_gen words a m rest (inl told) e = task_is_not_gen a rest (sym told.0 ∙ e)
script_is_not_gen words a m rest (inr told) e =
    let same : codes "--gen" ≡ codes "--window" = cc (told.0, e) in gen_is_not_window same

pub IsWords-unique : (words : List (List ℕ)) (a b : Mode) → IsWords a words → IsWords b words
    → a ≡ b
IsWords-unique words (Mode.Windowed a m) (Mode.Windowed b n) first second =
    let same = same_script words a b m n first second in
    let tasks : a ≡ b = same_task a b same.0 in
    ap (λ (k : Task). Mode.Windowed k m) tasks ∙ ap (λ (w : ℕ). Mode.Windowed b w) same.1
IsWords-unique words (Mode.Windowed a m) Mode.Show first second =
    absurd (script_is_not_show words a m first second)
IsWords-unique words (Mode.Windowed a m) (Mode.Gen k n) first second =
    absurd (script_is_not_gen words a m _ first second.0)
IsWords-unique words Mode.Show (Mode.Windowed b n) first second =
    absurd (script_is_not_show words b n second first)
IsWords-unique words Mode.Show Mode.Show first second = refl
IsWords-unique words Mode.Show (Mode.Gen k n) first second = absurd (cc (first, second.0))
IsWords-unique words (Mode.Gen k n) (Mode.Windowed b m) first second =
    absurd (script_is_not_gen words b m _ second first.0)
IsWords-unique words (Mode.Gen k n) Mode.Show first second = absurd (cc (first.0, second))
IsWords-unique words (Mode.Gen k n) (Mode.Gen i j) first second =
    let rounds : k ≡ i =
    decimal_injective k i (omega (arith, first.1)) (omega (arith, second.1))
    (cc (first.0, second.0)) in
    let starts : n ≡ j =
    decimal_injective n j (omega (arith, first.2)) (omega (arith, second.2))
    (cc (first.0, second.0)) in
    rw (rounds, starts) refl

-- the numbers that words ask for are in range
pub IsMode-words : (words : List (List ℕ)) (mode : Mode) → IsWords mode words → IsMode mode
IsMode-words words (Mode.Windowed task window) (inl told) =
    (omega (arith, told.1), omega (arith, told.1))
IsMode-words words (Mode.Windowed task window) (inr told) = told.1
IsMode-words words Mode.Show told = tt
IsMode-words words (Mode.Gen rounds start) told = told.1

-- A run that is recorded line after line.
use Rattle.std.proofs.Common.{◌≡◌, ℕ, ◌+◌, List, [], ◌∷◌, ◌++◌, length, refl, sym, ap, subst, ◌∙◌, append_assoc, append-nil}
use Rattle.std.specs.List.{flat_map}
use Rattle.std.proofs.lemmas.Grind.{flat_map-append}
use Rattle.std.proofs.lemmas.List.{length-append}
use Rattle.chan_values.specs.declared.side.Side.TheVariants.{Plugin, Agent}
use Rattle.channel_core.specs.Call.{with_earlier}
use Rattle.channel_core.specs.World.{Event}
use Rattle.channel_core.proofs.HistoryLemmas.{with_earlier-push}
use Rattle.session_audit.specs.Journal.{framed, journal, letter}
use Rattle.lab_script.specs.declared.command.Command.{Command}
use Rattle.lab_run.specs.declared.pair.Pair.{Pair}
use Rattle.lab_run.specs.declared.stop.Stop.{Stop}
use Rattle.lab_run.specs.Ends.{IsPair}
use Rattle.lab_run.specs.Printing.{Adds, Printout, Stops}
use Rattle.lab_run.specs.Run.{moment_after, progress, run}
use Rattle.lab_run.specs.Steps.{events_of, start, steps_of, world_of}
use Rattle.lab_run.proofs.RunLemmas.{line-progress, now-none, progress-push, run-push, world_of-append, world_of-none}
use Rattle.lab_run.proofs.WritingLemmas.{Adds-then, Stops-longer, Stops-then}
use Rattle.lab_journal.specs.Records.{journal_of, line_records, records_of, step_records, which_in}
use Rattle.lab_journal.proofs.TextLemmas.{journal-append, text_of}

-- ---- the records of a script

-- one line more
pub records_of-push : (w : ℕ) (commands : List Command) (command : Command)
    → records_of w (commands ++ command ∷ [])
    ≡ records_of w commands ++ line_records w commands command
unfolding records_of
records_of-push w commands command =
    let f : List Command × Command → List (List ℕ) = λ p. line_records w p.0 p.1 in
    ap
    (λ (l : List (List ℕ)). (letter Plugin ∷ 2 ∷ []) ∷ (letter Agent ∷ 2 ∷ []) ∷ l)
    (ap (flat_map f) (with_earlier-push commands command)
    ∙ flat_map-append f (with_earlier commands) ((commands, command) ∷ [])
    ∙ ap
    (λ (l : List (List ℕ)). flat_map f (with_earlier commands) ++ l)
    (append-nil (line_records w commands command)))

-- the records of a front of a script are a front of its records
records_of-front : (w : ℕ) (front rest : List Command)
    → (more : List (List ℕ)) × (records_of w (front ++ rest) ≡ records_of w front ++ more)
records_of-front w front [] =
    ([], ap (records_of w) (append-nil front) ∙ sym (append-nil (records_of w front)))
records_of-front w front (c ∷ rest) =
    let behind = records_of-front w (front ++ c ∷ []) rest in (
      line_records w front c ++ behind.0,
      ap (records_of w) (sym (append_assoc front (c ∷ []) rest))
          ∙ behind.1
          ∙ ap (λ (l : List (List ℕ)). l ++ behind.0) (records_of-push w front c)
          ∙ append_assoc (records_of w front) (line_records w front c) behind.0,
    )

-- the records of a line are those of its steps, at this moment and with this number
line_records-at : (w : ℕ) (commands : List Command) (command : Command) (moment line : ℕ)
    → moment ≡ (progress w commands).now
    → line ≡ length commands + 1
    → line_records w commands command
    ≡ step_records (which_in command) (world_of (run w commands))
    (steps_of w (world_of (run w commands)) moment line command)
line_records-at w commands command moment line at number =
    let world = world_of (run w commands) in
    ap
    (λ n. step_records (which_in command) world (steps_of w world n (progress w commands).line command))
    (sym at)
    ∙ ap
    (λ n. step_records (which_in command) world (steps_of w world moment n command))
    (line-progress w commands ∙ sym number)

-- ---- the run

-- these lines were followed, and their records were added to the journal
pub record Runs (w : ℕ) (commands : List Command) (moment line : ℕ) (pair : Pair)
    (old new : Printout) : Type 0 where
  pub number : line ≡ length commands
  pub at : moment ≡ (progress w commands).now
  pub ends : IsPair w (world_of (run w commands)) pair
  pub written : Adds (journal_of w commands) old new

journal_of-none : (w : ℕ)
    → journal_of w [] ≡ framed (letter Plugin ∷ 2 ∷ []) ++ framed (letter Agent ∷ 2 ∷ [])
unfolding records_of with_earlier
journal_of-none w =
    ap (λ (l : List ℕ). framed (letter Plugin ∷ 2 ∷ []) ++ l)
    (append-nil (framed (letter Agent ∷ 2 ∷ [])))

-- before the first line both ends were connected
pub Runs-none : (w : ℕ) (pair : Pair) (s t u : Printout)
    → IsPair w start pair
    → Adds (framed (letter Plugin ∷ 2 ∷ [])) s t
    → Adds (framed (letter Agent ∷ 2 ∷ [])) t u
    → Runs w [] 0 0 pair s u
Runs-none w pair s t u ends first second =
    let P : List Event → Type 0 = λ world. IsPair w world pair in
    record {
      number = refl;
      at = now-none w;
      ends = subst P (sym (world_of-none w)) ends;
      written =
          rw (journal_of-none w)
          (Adds-then (framed (letter Plugin ∷ 2 ∷ [])) (framed (letter Agent ∷ 2 ∷ [])) s t u
          first second);
    }

-- where the first records stop
pub Stops-first : (w : ℕ) (commands : List Command) (stop : Stop) (s t : Printout)
    → Stops (framed (letter Plugin ∷ 2 ∷ [])) stop s t
    → Stops (journal_of w commands) stop s t
unfolding records_of
Stops-first w commands stop s t stops =
    Stops-longer (framed (letter Plugin ∷ 2 ∷ []))
    (journal ((letter Agent ∷ 2 ∷ []) ∷ flat_map (λ p. line_records w p.0 p.1) (with_earlier commands)))
    stop s t stops

pub Stops-second : (w : ℕ) (commands : List Command) (stop : Stop) (s t u : Printout)
    → Adds (framed (letter Plugin ∷ 2 ∷ [])) s t
    → Stops (framed (letter Agent ∷ 2 ∷ [])) stop t u
    → Stops (journal_of w commands) stop s u
unfolding records_of
Stops-second w commands stop s t u first stops =
    let lines = journal (flat_map (λ p. line_records w p.0 p.1) (with_earlier commands)) in
    Stops-then (framed (letter Plugin ∷ 2 ∷ [])) (framed (letter Agent ∷ 2 ∷ []) ++ lines) stop s t
    u first (Stops-longer (framed (letter Agent ∷ 2 ∷ [])) lines stop t u stops)

-- one line more
pub Runs-push : (w : ℕ) (commands : List Command) (command : Command) (moment after line : ℕ)
    (old_pair new_pair : Pair) (old mid new : Printout)
    → Runs w commands moment line old_pair old mid
    → let world = world_of (run w commands) in
    let steps = steps_of w world moment (line + 1) command in
    after ≡ moment_after moment command
    → IsPair w (world ++ events_of steps) new_pair
    → Adds (text_of (which_in command) world steps) mid new
    → Runs w (commands ++ command ∷ []) after (line + 1) new_pair old new
Runs-push w commands command moment after line old_pair new_pair old mid new r is ends written =
    let world = world_of (run w commands) in
    let steps = steps_of w world moment (line + 1) command in
    let number : line + 1 ≡ length commands + 1 = ap (λ n. n + 1) r.number in
    let push : run w (commands ++ command ∷ []) ≡ run w commands ++ steps =
    run-push w commands command moment (line + 1) r.at number in
    let records : records_of w (commands ++ command ∷ [])
    ≡ records_of w commands ++ step_records (which_in command) world steps
    = records_of-push w commands command
    ∙ ap (λ (l : List (List ℕ)). records_of w commands ++ l)
    (line_records-at w commands command moment (line + 1) r.at number) in
    let P : List Event → Type 0 = λ v. IsPair w v new_pair in
    let Q : List ℕ → Type 0 = λ text. Adds text old new in
    record {
      number = number ∙ sym (length-append commands (command ∷ []));
      at =
          is
          ∙ ap (λ n. moment_after n command) r.at
          ∙ sym (ap (λ p. p.now) (progress-push w commands command));
      ends = subst P (sym (ap world_of push ∙ world_of-append (run w commands) steps)) ends;
      written =
          subst Q
          (sym (ap journal records
          ∙ journal-append (records_of w commands) (step_records (which_in command) world steps)))
          (Adds-then (journal_of w commands) (text_of (which_in command) world steps) old mid new
          r.written written);
    }

-- a line at which the run stops
pub Runs-stops : (w : ℕ) (commands : List Command) (command : Command) (rest : List Command)
    (moment line : ℕ) (pair : Pair) (stop : Stop) (old mid new : Printout)
    → Runs w commands moment line pair old mid
    → let world = world_of (run w commands) in
    Stops (text_of (which_in command) world (steps_of w world moment (line + 1) command)) stop mid
    new
    → Stops (journal_of w ((commands ++ command ∷ []) ++ rest)) stop old new
Runs-stops w commands command rest moment line pair stop old mid new r stops =
    let world = world_of (run w commands) in
    let steps = steps_of w world moment (line + 1) command in
    let made = step_records (which_in command) world steps in
    let number : line + 1 ≡ length commands + 1 = ap (λ n. n + 1) r.number in
    let front = records_of-front w (commands ++ command ∷ []) rest in
    let records : records_of w ((commands ++ command ∷ []) ++ rest)
    ≡ (records_of w commands ++ made) ++ front.0
    = front.1
    ∙ ap (λ (l : List (List ℕ)). l ++ front.0)
    (records_of-push w commands command
    ∙ ap (λ (l : List (List ℕ)). records_of w commands ++ l)
    (line_records-at w commands command moment (line + 1) r.at number)) in
    let whole : (journal_of w commands ++ journal made) ++ journal front.0
    ≡ journal_of w ((commands ++ command ∷ []) ++ rest)
    = ap (λ (t : List ℕ). t ++ journal front.0)
    (sym (journal-append (records_of w commands) made))
    ∙ sym (journal-append (records_of w commands ++ made) front.0)
    ∙ ap journal (sym records) in
    let P : List ℕ → Type 0 = λ text. Stops text stop old new in
    subst P whole
    (Stops-longer (journal_of w commands ++ journal made) (journal front.0) stop old new
    (Stops-then (journal_of w commands) (journal made) stop old mid new r.written stops))

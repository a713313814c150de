-- A run that follows a script line after line.
use Rattle.std.proofs.Common.{◌≡◌, ℕ, ◌+◌, List, [], ◌∷◌, ◌++◌, length, refl, sym, ap, subst, ◌∙◌}
use Rattle.std.proofs.lemmas.List.{length-append}
use Rattle.channel_core.specs.World.{Event}
use Rattle.lab_script.specs.declared.command.Command.{Command}
use Rattle.lab_run.specs.declared.pair.Pair.{Pair}
use Rattle.lab_run.specs.declared.stop.Stop.{Stop}
use Rattle.lab_run.specs.Ends.{IsPair}
use Rattle.lab_run.specs.Printing.{Adds, Printout, Stops}
use Rattle.lab_run.specs.Run.{moment_after, progress, report, run}
use Rattle.lab_run.specs.Steps.{events_of, start, steps_of, world_of}
use Rattle.lab_run.proofs.RunLemmas.{now-none, progress-push, report-append, report-run-none, run-front, run-push, world_of-append, world_of-none}
use Rattle.lab_run.proofs.WritingLemmas.{Adds-nothing, Adds-then, Stops-longer, Stops-then}

-- these lines were followed, and the text of their steps was added to a report
pub record Runs (w : ℕ) (commands : List Command) (moment line : ℕ) (pair : Pair)
    (old new : Printout) : Type 0 where
  pub number : line ≡ length commands
  pub at : moment ≡ (progress w commands).now
  pub ends : IsPair w (world_of (run w commands)) pair
  pub printed : Adds (report (run w commands)) old new

-- before the first line
pub Runs-none : (w : ℕ) (pair : Pair) (s : Printout) → IsPair w start pair → Runs w [] 0 0 pair s s
Runs-none w pair s ends =
    let P : List Event → Type 0 = λ world. IsPair w world pair in
    record {
      number = refl;
      at = now-none w;
      ends = subst P (sym (world_of-none w)) ends;
      printed = rw (report-run-none w) (Adds-nothing s);
    }

-- one line more
pub Runs-push : (w : ℕ) (commands : List Command) (command : Command) (moment after line : ℕ)
    (old_pair new_pair : Pair) (old mid new : Printout)
    → Runs w commands moment line old_pair old mid
    → let world = world_of (run w commands) in
    let steps = steps_of w world moment (line + 1) command in
    after ≡ moment_after moment command
    → IsPair w (world ++ events_of steps) new_pair
    → Adds (report steps) mid new
    → Runs w (commands ++ command ∷ []) after (line + 1) new_pair old new
Runs-push w commands command moment after line old_pair new_pair old mid new r is ends printed =
    let world = world_of (run w commands) in
    let steps = steps_of w world moment (line + 1) command in
    let number : line + 1 ≡ length commands + 1 = ap (λ n. n + 1) r.number in
    let push : run w (commands ++ command ∷ []) ≡ run w commands ++ steps =
    run-push w commands command moment (line + 1) r.at number in
    let P : List Event → Type 0 = λ v. IsPair w v new_pair in
    let Q : List ℕ → Type 0 = λ text. Adds text old new in
    record {
      number = number ∙ sym (length-append commands (command ∷ []));
      at =
          is
          ∙ ap (λ n. moment_after n command) r.at
          ∙ sym (ap (λ p. p.now) (progress-push w commands command));
      ends = subst P (sym (ap world_of push ∙ world_of-append (run w commands) steps)) ends;
      printed =
          subst Q (sym (ap report push ∙ report-append (run w commands) steps))
          (Adds-then (report (run w commands)) (report steps) old mid new r.printed printed);
    }

-- a line at which the run stops
pub Runs-stops : (w : ℕ) (commands : List Command) (command : Command) (rest : List Command)
    (moment line : ℕ) (pair : Pair) (stop : Stop) (old mid new : Printout)
    → Runs w commands moment line pair old mid
    → let world = world_of (run w commands) in
    Stops (report (steps_of w world moment (line + 1) command)) stop mid new
    → Stops (report (run w ((commands ++ command ∷ []) ++ rest))) stop old new
Runs-stops w commands command rest moment line pair stop old mid new r stops =
    let steps = steps_of w (world_of (run w commands)) moment (line + 1) command in
    let number : line + 1 ≡ length commands + 1 = ap (λ n. n + 1) r.number in
    let push : run w (commands ++ command ∷ []) ≡ run w commands ++ steps =
    run-push w commands command moment (line + 1) r.at number in
    let front = run-front w (commands ++ command ∷ []) rest in
    let whole : (report (run w commands) ++ report steps) ++ report front.0
    ≡ report (run w ((commands ++ command ∷ []) ++ rest)) =
    ap
    (λ (t : List ℕ). t ++ report front.0)
    (sym (report-append (run w commands) steps) ∙ ap report (sym push))
    ∙ sym (report-append (run w (commands ++ command ∷ [])) front.0)
    ∙ ap report (sym front.1) in
    let P : List ℕ → Type 0 = λ text. Stops text stop old new in
    subst P whole
    (Stops-longer (report (run w commands) ++ report steps) (report front.0) stop old new
    (Stops-then (report (run w commands)) (report steps) stop old mid new r.printed stops))

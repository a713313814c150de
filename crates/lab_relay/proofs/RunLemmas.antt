-- A run, line after line.
use Rattle.std.proofs.Common.{◌≡◌, ℕ, ◌+◌, Option, List, [], ◌∷◌, ◌++◌, length, refl, sym, ap, subst, ◌∙◌, append_assoc, append-nil, add-zero, arith}
use Rattle.std.specs.List.{fold}
use Rattle.std.proofs.lemmas.List.{length-append}
use Rattle.std.proofs.lemmas.Grind.{flat_map-append}
use Rattle.std.proofs.lemmas.List.Sums.{fold-append}
use Rattle.chan_values.specs.declared.side.Side.{Side}
use Rattle.lab_script.specs.declared.outcome.Outcome.{Outcome}
use Rattle.lab_script.specs.declared.relay_command.RelayCommand.{RelayCommand}
use Rattle.lab_script.specs.declared.verb.Verb.{Verb}
use Rattle.lab_script.specs.Report.{report_line}
use Rattle.lab_run.specs.declared.stop.Stop.{Stop}
use Rattle.lab_run.specs.Printing.{Adds, Printout, Stops}
use Rattle.lab_run.proofs.WritingLemmas.{Adds-nothing, Adds-then, Stops-longer, Stops-then}
use Rattle.lab_relay.specs.declared.relayed.Relayed.{Relayed}
use Rattle.lab_relay.specs.Held.{StandsFor}
use Rattle.lab_relay.specs.Run.{Progress, Told, beginning, moment_after, progress, progress_after, report, run, scene_after, told_of}
use Rattle.lab_relay.specs.Scene.{start}

pub report-append : (a b : List Told) → report (a ++ b) ≡ report a ++ report b
unfolding report
report-append a b = flat_map-append _ a b

pub report-none : report [] ≡ []
unfolding report
report-none = refl

-- what is told is one line
pub report-one : (told : Told)
    → report (told ∷ []) ≡ report_line told.line told.verb told.side told.outcome
unfolding report
report-one told = append-nil _

pub report-told : (line : ℕ) (verb : Verb) (side : Option Side) (outcome other : Outcome)
    → outcome ≡ other
    → report (record { line = line; verb = verb; side = side; outcome = other } ∷ [])
    ≡ report_line line verb side outcome
report-told line verb side outcome other is =
    report-one (record { line = line; verb = verb; side = side; outcome = other })
    ∙ ap (report_line line verb side) (sym is)

-- one line more
pub progress-push : (w : ℕ) (commands : List RelayCommand) (command : RelayCommand)
    → progress w (commands ++ command ∷ []) ≡ progress_after w (progress w commands) command
unfolding progress
progress-push w commands command = fold-append (progress_after w) _ commands (command ∷ [])

-- the line's number
pub line-progress : (w : ℕ) (commands : List RelayCommand)
    → (progress w commands).line ≡ length commands + 1
unfolding progress
line-progress w commands = lines beginning commands ∙ omega arith
  where
    lines : (p : Progress) (commands : List RelayCommand)
        → (fold (progress_after w) p commands).line ≡ p.line + length commands
    lines p [] = sym (add-zero p.line)
    lines p (c ∷ cs) = lines (progress_after w p c) cs ∙ omega arith

-- what is told of a front of a script is a front of what is told of it
pub run-front : (w : ℕ) (front rest : List RelayCommand)
    → (more : List Told) × (run w (front ++ rest) ≡ run w front ++ more)
unfolding progress
run-front w front rest =
    let g = grows (fold (progress_after w) beginning front) rest in
    (g.0, ap (λ (p : Progress). p.told) (fold-append (progress_after w) _ front rest) ∙ g.1)
  where
    grows : (p : Progress) (rest : List RelayCommand)
        → (more : List Told) × ((fold (progress_after w) p rest).told ≡ p.told ++ more)
    grows p [] = ([], sym (append-nil p.told))
    grows p (c ∷ cs) =
        let g = grows (progress_after w p c) cs in
        let told = told_of w p.scene p.now p.line c in
        (told ++ g.0, g.1 ∙ append_assoc p.told told g.0)

-- before the first line
progress-none : (w : ℕ) → progress w [] ≡ beginning
unfolding progress
progress-none w = refl

-- these lines were followed, and the text of what is told of them was added to a report
pub record Runs (w : ℕ) (commands : List RelayCommand) (moment line : ℕ) (relayed : Relayed)
    (old new : Printout) : Type 0 where
  pub number : line ≡ length commands
  pub at : moment ≡ (progress w commands).now
  pub scene : StandsFor w (progress w commands).scene relayed
  pub printed : Adds (report (run w commands)) old new

pub Runs-none : (w : ℕ) (relayed : Relayed) (s : Printout) → StandsFor w start relayed
    → Runs w [] 0 0 relayed s s
Runs-none w relayed s stands =
    let none : Progress → Type 0 =
    λ p. (0 ≡ p.now) × StandsFor w p.scene relayed × Adds (report p.told) s s in
    let all = subst none (sym (progress-none w))
    (refl, stands, rw report-none (Adds-nothing s)) in
    record { number = refl; at = all.0; scene = all.1; printed = all.2 }

-- a line more is told behind the others
run-push : (w : ℕ) (commands : List RelayCommand) (command : RelayCommand) (moment line : ℕ)
    → moment ≡ (progress w commands).now
    → line ≡ length commands
    → run w (commands ++ command ∷ [])
    ≡ run w commands ++ told_of w (progress w commands).scene moment (line + 1) command
run-push w commands command moment line at number =
    let p = progress w commands in
    ap (λ (q : Progress). q.told) (progress-push w commands command)
    ∙ ap (λ n. p.told ++ told_of w p.scene n p.line command) (sym at)
    ∙ ap (λ n. p.told ++ told_of w p.scene moment n command)
    (line-progress w commands ∙ sym (ap (λ n. n + 1) number))

scene-push : (w : ℕ) (commands : List RelayCommand) (command : RelayCommand) (moment line : ℕ)
    → moment ≡ (progress w commands).now
    → line ≡ length commands
    → (progress w (commands ++ command ∷ [])).scene
    ≡ scene_after w (progress w commands).scene moment (line + 1) command
scene-push w commands command moment line at number =
    let p = progress w commands in
    ap (λ (q : Progress). q.scene) (progress-push w commands command)
    ∙ ap (λ n. scene_after w p.scene n p.line command) (sym at)
    ∙ ap (λ n. scene_after w p.scene moment n command)
    (line-progress w commands ∙ sym (ap (λ n. n + 1) number))

-- one line more
pub Runs-push : (w : ℕ) (commands : List RelayCommand) (command : RelayCommand)
    (moment after line : ℕ)
    (old_relayed new_relayed : Relayed) (old mid new : Printout)
    → Runs w commands moment line old_relayed old mid
    → let scene = (progress w commands).scene in
    after ≡ moment_after moment command
    → StandsFor w (scene_after w scene moment (line + 1) command) new_relayed
    → Adds (report (told_of w scene moment (line + 1) command)) mid new
    → Runs w (commands ++ command ∷ []) after (line + 1) new_relayed old new
Runs-push w commands command moment after line old_relayed new_relayed old mid new r is stands
    printed =
    let told = told_of w (progress w commands).scene moment (line + 1) command in
    record {
      number = ap (λ n. n + 1) r.number ∙ sym (length-append commands (command ∷ []));
      at =
          is
          ∙ ap (λ n. moment_after n command) r.at
          ∙ sym (ap (λ p. p.now) (progress-push w commands command));
      scene =
          subst (λ s. StandsFor w s new_relayed)
          (sym (scene-push w commands command moment line r.at r.number)) stands;
      printed =
          subst (λ text. Adds text old new)
          (sym (ap report (run-push w commands command moment line r.at r.number)
          ∙ report-append (run w commands) told))
          (Adds-then (report (run w commands)) (report told) old mid new r.printed printed);
    }

-- a line at which the run stops
pub Runs-stops : (w : ℕ) (commands : List RelayCommand) (command : RelayCommand)
    (rest : List RelayCommand)
    (moment line : ℕ) (relayed : Relayed) (stop : Stop) (old mid new : Printout)
    → Runs w commands moment line relayed old mid
    → Stops (report (told_of w (progress w commands).scene moment (line + 1) command)) stop mid new
    → Stops (report (run w ((commands ++ command ∷ []) ++ rest))) stop old new
Runs-stops w commands command rest moment line relayed stop old mid new r stops =
    let told = told_of w (progress w commands).scene moment (line + 1) command in
    let push = run-push w commands command moment line r.at r.number in
    let front = run-front w (commands ++ command ∷ []) rest in
    let whole : (report (run w commands) ++ report told) ++ report front.0
    ≡ report (run w ((commands ++ command ∷ []) ++ rest)) =
    ap
    (λ (t : List ℕ). t ++ report front.0)
    (sym (report-append (run w commands) told) ∙ ap report (sym push))
    ∙ sym (report-append (run w (commands ++ command ∷ [])) front.0)
    ∙ ap report (sym front.1) in
    subst (λ text. Stops text stop old new) whole
    (Stops-longer (report (run w commands) ++ report told) (report front.0) stop old new
    (Stops-then (report (run w commands)) (report told) stop old mid new r.printed stops))

-- A script with streams, line after line.
use Rattle.std.proofs.Common.{◌≡◌, ℕ, ◌+◌, List, [], ◌∷◌, ◌++◌, length, refl, sym, ap, subst, ◌∙◌, add-zero, append_assoc, append-nil, arith}
use Rattle.std.specs.List.{fold}
use Rattle.std.proofs.lemmas.List.{length-append}
use Rattle.std.proofs.lemmas.List.Sums.{fold-append}
use Rattle.lab_script.specs.declared.stream_command.StreamCommand.{StreamCommand}
use Rattle.lab_run.specs.declared.stop.Stop.{Stop}
use Rattle.lab_run.specs.Printing.{Adds, Printout, Stops}
use Rattle.lab_run.proofs.WritingLemmas.{Adds-nothing}
use Rattle.lab_streams.specs.declared.streams.Streams.{Streams}
use Rattle.lab_streams.specs.Ends.{IsStreams}
use Rattle.lab_streams.specs.Run.{StreamProgress, beginning, past_of, stream_moment, stream_progress, stream_progress_after, stream_report, stream_run}
use Rattle.lab_streams.specs.Steps.{Past, StreamStep, after, stream_steps}
use Rattle.lab_streams.proofs.PastLemmas.{after-none, after-then}
use Rattle.lab_streams.proofs.ReportLemmas.{Adds-steps, Stops-before, Stops-steps, stream_report-none}

-- how far a run has come before the first line
abbrev pub at_first : StreamProgress
at_first = record { steps = []; now = 0; line = 1 }

-- one line more
pub progress-push : (w : ℕ) (commands : List StreamCommand) (command : StreamCommand)
    → stream_progress w (commands ++ command ∷ [])
    ≡ stream_progress_after w (stream_progress w commands) command
unfolding stream_progress
progress-push w commands command =
    fold-append (stream_progress_after w) at_first commands (command ∷ [])

-- the line's number
pub line-progress : (w : ℕ) (commands : List StreamCommand)
    → (stream_progress w commands).line ≡ length commands + 1
unfolding stream_progress
line-progress w commands = lines at_first commands ∙ omega arith
  where
    lines : (p : StreamProgress) (commands : List StreamCommand)
        → (fold (stream_progress_after w) p commands).line ≡ p.line + length commands
    lines p [] = sym (add-zero p.line)
    lines p (c ∷ cs) = lines (stream_progress_after w p c) cs ∙ omega arith

-- the steps of a front of a script are a front of its steps
pub run-front : (w : ℕ) (front rest : List StreamCommand)
    → (more : List StreamStep)
    × (stream_run w (front ++ rest) ≡ stream_run w front ++ more)
unfolding stream_progress
run-front w front rest =
    let g = grows (fold (stream_progress_after w) at_first front) rest in (
      g.0,
      ap (λ (p : StreamProgress). p.steps)
          (fold-append (stream_progress_after w) at_first front rest) ∙ g.1,
    )
  where
    grows : (p : StreamProgress) (rest : List StreamCommand)
        → (more : List StreamStep)
        × ((fold (stream_progress_after w) p rest).steps ≡ p.steps ++ more)
    grows p [] = ([], sym (append-nil p.steps))
    grows p (c ∷ cs) =
        let g = grows (stream_progress_after w p c) cs in
        let steps = stream_steps w (past_of p.steps) p.now p.line c in
        (steps ++ g.0, g.1 ∙ append_assoc p.steps steps g.0)

-- what happened in steps and in more
pub past_of-append : (a b : List StreamStep) → past_of (a ++ b) ≡ after (past_of a) b
past_of-append a b = sym (after-then beginning a b)

-- before the first line
pub past_of-none : (w : ℕ) → past_of (stream_run w []) ≡ beginning
unfolding stream_progress
past_of-none w = after-none beginning

pub now-none : (w : ℕ) → 0 ≡ (stream_progress w []).now
unfolding stream_progress
now-none w = refl

pub report-run-none : (w : ℕ) → stream_report (stream_run w []) ≡ []
unfolding stream_progress
report-run-none w = stream_report-none

-- the steps of one line more
pub run-push : (w : ℕ) (commands : List StreamCommand) (command : StreamCommand) (now line : ℕ)
    → now ≡ (stream_progress w commands).now
    → line ≡ length commands + 1
    → stream_run w (commands ++ command ∷ [])
    ≡ stream_run w commands
    ++ stream_steps w (past_of (stream_run w commands)) now line command
run-push w commands command now line at number =
    let past = past_of (stream_run w commands) in
    ap (λ (p : StreamProgress). p.steps) (progress-push w commands command)
    ∙ ap
    (λ n. stream_run w commands ++ stream_steps w past n (stream_progress w commands).line command)
    (sym at)
    ∙ ap (λ n. stream_run w commands ++ stream_steps w past now n command)
    (line-progress w commands ∙ sym number)

-- these lines were followed, and the text of their steps was added to a report
pub record Runs (w : ℕ) (commands : List StreamCommand) (moment line : ℕ) (streams : Streams)
    (old new : Printout) : Type 0 where
  pub number : line ≡ length commands
  pub at : moment ≡ (stream_progress w commands).now
  pub ends : IsStreams w (past_of (stream_run w commands)) streams
  pub printed : Adds (stream_report (stream_run w commands)) old new

-- before the first line
pub Runs-none : (w : ℕ) (streams : Streams) (s : Printout)
    → IsStreams w beginning streams
    → Runs w [] 0 0 streams s s
Runs-none w streams s ends =
    record {
      number = refl;
      at = now-none w;
      ends = subst (λ (p : Past). IsStreams w p streams) (sym (past_of-none w)) ends;
      printed =
          subst (λ (t : List ℕ). Adds t s s) (sym (report-run-none w)) (Adds-nothing s);
    }

-- one line more
pub Runs-push : (w : ℕ) (commands : List StreamCommand) (command : StreamCommand)
    (moment later line : ℕ) (old_streams new_streams : Streams) (old mid new : Printout)
    → Runs w commands moment line old_streams old mid
    → let past = past_of (stream_run w commands) in
    let steps = stream_steps w past moment (line + 1) command in
    later ≡ stream_moment moment command
    → IsStreams w (after past steps) new_streams
    → Adds (stream_report steps) mid new
    → Runs w (commands ++ command ∷ []) later (line + 1) new_streams old new
Runs-push w commands command moment later line old_streams new_streams old mid new r is ends printed
    =
    let run = stream_run w commands in
    let steps = stream_steps w (past_of run) moment (line + 1) command in
    let number : line + 1 ≡ length commands + 1 = ap (λ n. n + 1) r.number in
    let push : stream_run w (commands ++ command ∷ []) ≡ run ++ steps =
    run-push w commands command moment (line + 1) r.at number in
    record {
      number = number ∙ sym (length-append commands (command ∷ []));
      at =
          is
          ∙ ap (λ n. stream_moment n command) r.at
          ∙ sym (ap (λ (p : StreamProgress). p.now) (progress-push w commands command));
      ends =
          subst (λ (p : Past). IsStreams w p new_streams)
          (sym (ap past_of push ∙ past_of-append run steps)) ends;
      printed =
          subst (λ (xs : List StreamStep). Adds (stream_report xs) old new) (sym push)
          (Adds-steps run steps old mid new r.printed printed);
    }

-- a line at which the run stops
pub Runs-stops : (w : ℕ) (commands : List StreamCommand) (command : StreamCommand)
    (rest : List StreamCommand) (moment line : ℕ) (streams : Streams) (stop : Stop)
    (old mid new : Printout)
    → Runs w commands moment line streams old mid
    → let past = past_of (stream_run w commands) in
    Stops (stream_report (stream_steps w past moment (line + 1) command)) stop mid new
    → Stops (stream_report (stream_run w ((commands ++ command ∷ []) ++ rest))) stop old new
Runs-stops w commands command rest moment line streams stop old mid new r stops =
    let run = stream_run w commands in
    let steps = stream_steps w (past_of run) moment (line + 1) command in
    let number : line + 1 ≡ length commands + 1 = ap (λ n. n + 1) r.number in
    let push : stream_run w (commands ++ command ∷ []) ≡ run ++ steps =
    run-push w commands command moment (line + 1) r.at number in
    let front = run-front w (commands ++ command ∷ []) rest in
    let whole : stream_run w ((commands ++ command ∷ []) ++ rest) ≡ (run ++ steps) ++ front.0 =
    front.1 ∙ ap (λ (xs : List StreamStep). xs ++ front.0) push in
    subst (λ (xs : List StreamStep). Stops (stream_report xs) stop old new) (sym whole)
    (Stops-before (run ++ steps) front.0 stop old new
    (Stops-steps run steps stop old mid new r.printed stops))

-- A generated script on its way, line after line and round after round.
use Rattle.std.proofs.Common.{◌≡◌, ℕ, ◌+◌, ◌*◌, ◌/◌, ◌%◌, ◌^◌, ◌<◌, ◌≤◌, List, [], ◌∷◌, ◌++◌, refl, sym, ap, subst, ◌∙◌, append-nil, zero-add, add-one, arith, lit<, lit≤}
use Rattle.std.specs.List.{fold, flat_map, range_with_len}
use Rattle.std.proofs.lemmas.Grind.{flat_map-append}
use Rattle.std.proofs.lemmas.List.Elements.{All-nil, All-push}
use Rattle.std.proofs.lemmas.List.Sums.{fold-append}
use Rattle.chan_values.specs.declared.side.Side.{Side}
use Rattle.channel_core.specs.World.{Event}
use Rattle.channel_core.proofs.ItemLemmas.{range_with_len-add}
use Rattle.lab_script.specs.Command.{IsAction}
use Rattle.lab_script.specs.declared.command.Action.{Action}
use Rattle.lab_script.specs.declared.command.Command.{Command}
use Rattle.lab_run.specs.Run.{Progress, progress, progress_after, run}
use Rattle.lab_run.specs.Steps.{Step, events_of, start, step_of, world_of}
use Rattle.lab_run.proofs.RunLemmas.{progress-push, world_of-append}
use Rattle.lab_gen.specs.declared.ends.Ends.{Ends}
use Rattle.lab_gen.specs.declared.round.Round.{Round}
use Rattle.lab_gen.specs.declared.run.Run.{Run}
use Rattle.lab_gen.specs.Ends.{IsAt, IsEnds}
use Rattle.lab_gen.specs.Generator.{generated, item_of, number_after, number_at, round_at, round_lines, round_of_bits, rounds}

-- what is put in in a round is an item of a message
pub IsAction-put : (round : ℕ) → IsAction (Action.Put (item_of round))
IsAction-put round = (
  lit< tt,
  (All-push (λ (b : ℕ). b < 256) [] (round % 256) (All-nil _) (omega arith), lit≤ tt),
)

-- before the first line
pub IsAt-start : (w : ℕ) (run : Run)
    → IsEnds w start run.ends
    → run.context.window ≡ w
    → run.context.moment ≡ 0
    → run.context.line ≡ 1
    → IsAt w (progress w []) run
unfolding progress
IsAt-start w run ends window moment line =
    record {
      ends = rw append-nil ends;
      window = window;
      moment = moment;
      line = line;
    }

-- after a line that sets the moment
pub IsAt-at : (w : ℕ) (p : Progress) (moment : ℕ) (old new : Run)
    → IsAt w p old
    → new.ends ≡ old.ends
    → new.context.window ≡ old.context.window
    → new.context.moment ≡ moment
    → new.context.line ≡ old.context.line + 1
    → IsAt w (progress_after w p (Command.At moment)) new
IsAt-at w p moment old new is ends window set line =
    let P : List Step → Type 0 = λ steps. IsEnds w (world_of steps) new.ends in
    let Q : Ends → Type 0 = λ e. IsEnds w (world_of p.steps) e in
    record {
      ends = subst P (sym (append-nil p.steps)) (subst Q (sym ends) is.ends);
      window = window ∙ is.window;
      moment = set;
      line = line ∙ ap (λ n. n + 1) is.line;
    }

-- after a line that asks something of one end
pub IsAt-line : (w : ℕ) (p : Progress) (side : Side) (action : Action) (old new : Run)
    → IsAt w p old
    → let world = world_of p.steps in
    IsEnds w
    (world
    ++ events_of (step_of w world old.context.moment old.context.line side action ∷ []))
    new.ends
    → new.context.window ≡ old.context.window
    → new.context.moment ≡ old.context.moment
    → new.context.line ≡ old.context.line + 1
    → IsAt w (progress_after w p (Command.On side action)) new
IsAt-line w p side action old new is ends window moment line =
    let world = world_of p.steps in
    let M : ℕ → Type 0 =
    λ now.
    IsEnds w (world ++ events_of (step_of w world now old.context.line side action ∷ [])) new.ends
    in
    let L : ℕ → Type 0 =
    λ n. IsEnds w (world ++ events_of (step_of w world p.now n side action ∷ [])) new.ends in
    let s = step_of w world p.now p.line side action in
    let V : List Event → Type 0 = λ v. IsEnds w v new.ends in
    record {
      ends =
          subst V (sym (world_of-append p.steps (s ∷ [])))
          (subst L is.line (subst M is.moment ends));
      window = window ∙ is.window;
      moment = moment ∙ is.moment;
      line = line ∙ ap (λ n. n + 1) is.line;
    }

-- ---- rounds

-- one round more
pub rounds-more : (count seed : ℕ)
    → rounds (count + 1) seed
    ≡ rounds count seed ++ round_lines count (round_at seed count)
unfolding rounds
rounds-more count seed =
    let f : ℕ → List Command = λ round. round_lines round (round_at seed round) in
    ap (flat_map f) (range_with_len-add 0 count 1)
    ∙ flat_map-append f (range_with_len 0 count) (range_with_len (0 + count) 1)
    ∙ ap
    (λ (xs : List Command). flat_map f (range_with_len 0 count) ++ xs)
    (append-nil (f (0 + count)) ∙ ap f (zero-add count))

pub rounds-none : (seed : ℕ) → rounds 0 seed ≡ []
unfolding rounds
rounds-none seed = refl

-- more lines go on from where the ones before them came to
pub progress-append : (w : ℕ) (xs ys : List Command)
    → progress w (xs ++ ys) ≡ fold (progress_after w) (progress w xs) ys
unfolding progress
progress-append w xs ys = fold-append (progress_after w) _ xs ys

number_at-none : (seed : ℕ) → number_at seed 0 ≡ seed
unfolding number_at
number_at-none seed = refl

number_at-more : (seed k : ℕ) → number_at seed (k + 1) ≡ number_after (number_at seed k)
unfolding number_at
number_at-more seed k = ap (number_at seed) (add-one k)

-- so many rounds were made
pub record HasMade (w seed round number : ℕ) (run : Run) : Type 0 where
  pub drawn : number ≡ number_at seed round
  pub at : IsAt w (progress w (rounds round seed)) run
  pub early : run.context.line ≤ 5 * round + 1

-- none
pub HasMade-none : (w seed : ℕ) (run : Run)
    → IsAt w (progress w []) run
    → run.context.line ≡ 1
    → HasMade w seed 0 seed run
HasMade-none w seed run at line =
    let P : List Command → Type 0 = λ lines. IsAt w (progress w lines) run in
    record {
      drawn = sym (number_at-none seed);
      at = subst P (sym (rounds-none seed)) at;
      early = omega arith;
    }

-- one more
pub HasMade-more : (w seed round number next : ℕ) (what : Round) (old new : Run)
    → HasMade w seed round number old
    → next ≡ number_after number
    → what ≡ round_of_bits (next / 2 ^ 60)
    → IsAt w (fold (progress_after w) (progress w (rounds round seed)) (round_lines round what))
    new
    → new.context.line ≤ old.context.line + 5
    → HasMade w seed (round + 1) next new
HasMade-more w seed round number next what old new before is decided at few =
    let drawn : next ≡ number_at seed (round + 1) =
    is ∙ ap number_after before.drawn ∙ sym (number_at-more seed round) in
    let same : what ≡ round_at seed round =
    decided ∙ ap (λ (n : ℕ). round_of_bits (n / 2 ^ 60)) drawn in
    let lines : rounds (round + 1) seed ≡ rounds round seed ++ round_lines round what =
    rounds-more round seed
    ∙ ap (λ (r : Round). rounds round seed ++ round_lines round r) (sym same) in
    let P : Progress → Type 0 = λ p. IsAt w p new in
    record {
      drawn = drawn;
      at =
          subst P
          (sym
          (ap (progress w) lines
          ∙ progress-append w (rounds round seed) (round_lines round what)))
          at;
      early = omega (arith, before.early, few);
    }

-- the world of a whole generated script
pub world_of-generated : (w count seed : ℕ)
    → world_of (run w (generated count seed))
    ≡ world_of (progress_after w (progress w (rounds count seed)) Command.Settle).steps
world_of-generated w count seed =
    ap (λ (p : Progress). world_of p.steps) (progress-push w (rounds count seed) Command.Settle)

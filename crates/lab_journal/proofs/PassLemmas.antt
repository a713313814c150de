-- The steps of a settle, recorded turn after turn.
use Rattle.std.proofs.Common.{◌≡◌, ℕ, zero, suc, true, false, List, [], ◌∷◌, ◌++◌, refl, sym, ap, ◌∙◌, append_assoc, append-nil}
use Rattle.chan_values.specs.declared.side.Side.{Side}
use Rattle.channel_core.specs.declared.call.EndCall.TheVariants as EndCall
use Rattle.channel_core.specs.World.{Event}
use Rattle.lab_script.specs.declared.verb.Verb.TheVariants as Verb
use Rattle.lab_script.specs.declared.word.Which.TheVariants as Which
use Rattle.lab_run.specs.declared.pair.Pair.{Pair}
use Rattle.lab_run.specs.declared.stop.Stop.{Stop}
use Rattle.lab_run.specs.Ends.{IsPair}
use Rattle.lab_run.specs.Outcomes.{is_emission}
use Rattle.lab_run.specs.Printing.{Adds, Printout, Stops}
use Rattle.lab_run.specs.Steps.{Step, called, events_of, pass_steps}
use Rattle.lab_run.proofs.PassLemmas.{IsPair-then, pass_steps-begins, pass_steps-emits, pass_steps-idle, world-then}
use Rattle.lab_run.proofs.WritingLemmas.{Adds-nothing}
use Rattle.lab_journal.proofs.TextLemmas.{Adds-both, Stops-both, Stops-front, text_of}

-- a pass of no turn makes no step
pass_steps-none : (w : ℕ) (world : List Event) (now line : ℕ) (side : Side)
    → pass_steps zero w world now line side ≡ []
unfolding pass_steps
pass_steps-none w world now line side = refl

-- the step of a pull
abbrev pub pull_of : ℕ → List Event → ℕ → ℕ → Side → Step
pull_of w world now line side = called w world line Verb.Pull side (EndCall.Pull now)

-- a pass has come so far: these steps were made and recorded, and at most so many turns are left
pub record Passes (w all : ℕ) (world : List Event) (now line : ℕ) (side : Side) (left : ℕ)
    (pair : Pair) (old new : Printout) : Type 0 where
  pub made : List Step
  pub rest :
      pass_steps all w world now line side
      ≡ made ++ pass_steps left w (world ++ events_of made) now line side
  pub ends : IsPair w (world ++ events_of made) pair
  pub written : Adds (text_of Which.Last world made) old new

-- at first no step was made
pub Passes-start : (w all : ℕ) (world : List Event) (now line : ℕ) (side : Side) (left : ℕ)
    (pair : Pair) (old : Printout)
    → all ≡ left
    → IsPair w world pair
    → Passes w all world now line side left pair old old
Passes-start w all world now line side left pair old is ends =
    record {
      made = [];
      rest =
          ap (λ n. pass_steps n w world now line side) is
          ∙ ap (λ (v : List Event). pass_steps left w v now line side) (sym (append-nil world));
      ends = rw append-nil ends;
      written = Adds-nothing old;
    }

-- one turn more
pub Passes-turn : (w all : ℕ) (world : List Event) (now line : ℕ) (side : Side) (n left : ℕ)
    (old_pair new_pair : Pair) (first old new : Printout)
    → n ≡ suc left
    → (p : Passes w all world now line side n old_pair first old)
    → let so_far = world ++ events_of p.made in
    let turn = pass_steps 1 w so_far now line side in
    is_emission (pull_of w so_far now line side).outcome ≡ true
    → IsPair w (so_far ++ events_of turn) new_pair
    → Adds (text_of Which.Last so_far turn) old new
    → Passes w all world now line side left new_pair first new
Passes-turn w all world now line side n left old_pair new_pair first old new is p emits ends written
    =
    let so_far = world ++ events_of p.made in
    let turn = pass_steps 1 w so_far now line side in
    let more : List Event → List Step = λ v. pass_steps left w v now line side in
    record {
      made = p.made ++ turn;
      rest =
          p.rest
          ∙ ap (λ n. p.made ++ pass_steps n w so_far now line side) is
          ∙ ap
          (λ (xs : List Step). p.made ++ xs)
          (pass_steps-emits left w so_far now line side emits)
          ∙ sym (append_assoc p.made turn (more (so_far ++ events_of turn)))
          ∙ ap (λ (v : List Event). (p.made ++ turn) ++ more v) (world-then world p.made turn);
      ends = IsPair-then w world p.made turn (p.made ++ turn) new_pair refl ends;
      written =
          Adds-both Which.Last world p.made turn (p.made ++ turn) first old new refl p.written
          written;
    }

-- the turn at which the end was idle is the last
pub pass-ends : (w all : ℕ) (world : List Event) (now line : ℕ) (side : Side) (n left : ℕ)
    (pair : Pair) (old new : Printout)
    → n ≡ suc left
    → (p : Passes w all world now line side n pair old new)
    → let so_far = world ++ events_of p.made in
    is_emission (pull_of w so_far now line side).outcome ≡ false
    → pass_steps all w world now line side ≡ p.made ++ pass_steps 1 w so_far now line side
pass-ends w all world now line side n left pair old new is p idle =
    let so_far = world ++ events_of p.made in
    p.rest
    ∙ ap (λ n. p.made ++ pass_steps n w so_far now line side) is
    ∙ ap
    (λ (xs : List Step). p.made ++ xs)
    (pass_steps-idle left w so_far now line side idle)

-- so is the last turn that there may be
pub pass-over : (w all : ℕ) (world : List Event) (now line : ℕ) (side : Side) (n : ℕ)
    (pair : Pair) (old new : Printout)
    → n ≡ zero
    → (p : Passes w all world now line side n pair old new)
    → pass_steps all w world now line side ≡ p.made
pass-over w all world now line side n pair old new is p =
    let so_far = world ++ events_of p.made in
    p.rest
    ∙ ap (λ n. p.made ++ pass_steps n w so_far now line side) is
    ∙ ap (λ (xs : List Step). p.made ++ xs) (pass_steps-none w so_far now line side)
    ∙ append-nil p.made

-- a turn that stops is a part of the pass
pub Stops-turn : (w all : ℕ) (world : List Event) (now line : ℕ) (side : Side) (n left : ℕ)
    (pair : Pair) (stop : Stop) (first old new : Printout)
    → n ≡ suc left
    → (p : Passes w all world now line side n pair first old)
    → let so_far = world ++ events_of p.made in
    Stops (text_of Which.Last so_far (pass_steps 1 w so_far now line side)) stop old new
    → Stops (text_of Which.Last world (pass_steps all w world now line side)) stop first new
Stops-turn w all world now line side n left pair stop first old new is p stops =
    let so_far = world ++ events_of p.made in
    let turn = pass_steps 1 w so_far now line side in
    let begins = pass_steps-begins left w so_far now line side in
    Stops-front Which.Last world (p.made ++ turn) begins.0 (pass_steps all w world now line side)
    stop first new
    (p.rest
    ∙ ap (λ n. p.made ++ pass_steps n w so_far now line side) is
    ∙ ap (λ (xs : List Step). p.made ++ xs) begins.1
    ∙ sym (append_assoc p.made turn begins.0))
    (Stops-both Which.Last world p.made turn (p.made ++ turn) stop first old new refl p.written stops)

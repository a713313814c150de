-- The steps of a settle, turn after turn.
use Rattle.std.proofs.Common.{◌≡◌, ℕ, zero, suc, Bool, true, false, cond, Result, List, [], ◌∷◌, ◌++◌, refl, sym, ap, subst, ◌∙◌, append_assoc, append-nil}
use Rattle.std.proofs.lemmas.List.Elements.{filter_map-append}
use Rattle.chan_values.specs.declared.side.Side.{Side}
use Rattle.chan_values.specs.Sides.{other}
use Rattle.channel_core.specs.declared.call.EndCall.TheVariants as EndCall
use Rattle.channel_core.specs.History.{emissions}
use Rattle.channel_core.specs.World.{Event, history_of}
use Rattle.channel_core.proofs.WorldLemmas.{other-other}
use Rattle.lab_script.specs.declared.command.Action.TheVariants as Action
use Rattle.lab_script.specs.declared.verb.Verb.TheVariants as Verb
use Rattle.lab_script.specs.declared.word.Which.TheVariants as Which
use Rattle.std.proofs.lemmas.Result.{MatchResult-weaker}
use Rattle.lab_run.specs.declared.pair.Pair.{Pair}
use Rattle.lab_run.specs.declared.stop.Stop.{Stop}
use Rattle.lab_run.specs.Ends.{IsPair}
use Rattle.lab_run.specs.Outcomes.{is_emission}
use Rattle.lab_run.specs.Printing.{Adds, Printout, Prints, Stops}
use Rattle.lab_run.specs.Run.{report}
use Rattle.lab_run.specs.Steps.{Step, called, emission_at, events_of, heard_at, pass_steps, step_of}
use Rattle.lab_run.proofs.RunLemmas.{report-append, report-none}
use Rattle.lab_run.proofs.WritingLemmas.{Adds-nothing, Adds-then, Stops-longer, Stops-then}

-- what happened in some steps and then in more
pub world-then : (world : List Event) (a b : List Step)
    → (world ++ events_of a) ++ events_of b ≡ world ++ events_of (a ++ b)
world-then world a b =
    append_assoc world (events_of a) (events_of b)
    ∙ ap (λ (xs : List Event). world ++ xs) (sym (filter_map-append (λ (s : Step). s.event) a b))

-- what happened in four runs of steps
pub world-four : (world : List Event) (a b c d : List Step)
    → (((world ++ events_of a) ++ events_of b) ++ events_of c) ++ events_of d
    ≡ world ++ events_of (((a ++ b) ++ c) ++ d)
world-four world a b c d =
    ap (λ (v : List Event). (v ++ events_of c) ++ events_of d) (world-then world a b)
    ∙ ap (λ (v : List Event). v ++ events_of d) (world-then world (a ++ b) c)
    ∙ world-then world ((a ++ b) ++ c) d

-- both ends after some steps and then more
pub IsPair-then : (w : ℕ) (world : List Event) (a b all : List Step) (pair : Pair)
    → all ≡ a ++ b
    → IsPair w ((world ++ events_of a) ++ events_of b) pair
    → IsPair w (world ++ events_of all) pair
IsPair-then w world a b all pair is both =
    let P : List Event → Type 0 = λ v. IsPair w v pair in
    subst P
    (world-then world a b ∙ ap (λ (xs : List Step). world ++ events_of xs) (sym is)) both

-- some steps are reported, and then more
report-both : (a b all : List Step) → all ≡ a ++ b → report a ++ report b ≡ report all
report-both a b all is = sym (report-append a b) ∙ ap report (sym is)

pub Adds-both : (a b all : List Step) (s t u : Printout)
    → all ≡ a ++ b → Adds (report a) s t → Adds (report b) t u → Adds (report all) s u
Adds-both a b all s t u is first second =
    subst (λ (xs : List ℕ). Adds xs s u) (report-both a b all is)
    (Adds-then (report a) (report b) s t u first second)

-- some steps are reported, and then a part of more
pub Stops-both : (a b all : List Step) (stop : Stop) (s t u : Printout)
    → all ≡ a ++ b → Adds (report a) s t → Stops (report b) stop t u → Stops (report all) stop s u
Stops-both a b all stop s t u is first second =
    subst (λ (xs : List ℕ). Stops xs stop s u) (report-both a b all is)
    (Stops-then (report a) (report b) stop s t u first second)

-- a part of some steps is reported
pub Stops-front : (a b all : List Step) (stop : Stop) (s t : Printout)
    → all ≡ a ++ b → Stops (report a) stop s t → Stops (report all) stop s t
Stops-front a b all stop s t is first =
    subst (λ (xs : List ℕ). Stops xs stop s t) (report-both a b all is)
    (Stops-longer (report a) (report b) stop s t first)

-- the reporting of more steps behind some
pub Prints-both : {T : Type 0} (a b all : List Step) (r : Result T Stop) (s t u : Printout)
    → all ≡ a ++ b → Adds (report a) s t → Prints (report b) r t u → Prints (report all) r s u
Prints-both a b all r s t u is first second =
    MatchResult-weaker r second
    (λ _ adds. Adds-both a b all s t u is first adds)
    (λ stop stops. Stops-both a b all stop s t u is first stops)

-- the step of a pull
abbrev pull_of : ℕ → List Event → ℕ → ℕ → Side → Step
pull_of w world now line side = called w world line Verb.Pull side (EndCall.Pull now)

-- the step in which the other end hears what was emitted last
abbrev hear_of : ℕ → List Event → ℕ → ℕ → Side → Step
hear_of w world now line side =
    let one = world ++ events_of (pull_of w world now line side ∷ []) in
    heard_at w one now line (other side) (emission_at (emissions (history_of side one)) Which.Last)

-- a turn of an end that is idle is a pull
pub turn-idle : (w : ℕ) (world : List Event) (now line : ℕ) (side : Side)
    → is_emission (pull_of w world now line side).outcome ≡ false
    → pass_steps 1 w world now line side ≡ pull_of w world now line side ∷ []
unfolding pass_steps
turn-idle w world now line side idle =
    ap (λ b. pull_of w world now line side ∷ cond b (hear_of w world now line side ∷ []) []) idle

-- a turn of an end that emits is a pull and a hearing
turn_both : (w : ℕ) (world : List Event) (now line : ℕ) (side : Side)
    → is_emission (pull_of w world now line side).outcome ≡ true
    → pass_steps 1 w world now line side
    ≡ pull_of w world now line side ∷ hear_of w world now line side ∷ []
unfolding pass_steps
turn_both w world now line side emits =
    ap (λ b. pull_of w world now line side ∷ cond b (hear_of w world now line side ∷ []) []) emits

-- these are the steps of a line that pulls and of a line that hears
pub turn-emits : (w : ℕ) (world : List Event) (now line : ℕ) (side there : Side)
    → there ≡ other side
    → is_emission (pull_of w world now line side).outcome ≡ true
    → let pulled = pull_of w world now line side in
    let one = world ++ events_of (pulled ∷ []) in
    pass_steps 1 w world now line side
    ≡ (pulled ∷ []) ++ (step_of w one now line there (Action.Hear Which.Last) ∷ [])
turn-emits w world now line side there is emits =
    let pulled = pull_of w world now line side in
    let one = world ++ events_of (pulled ∷ []) in
    turn_both w world now line side emits
    ∙ ap
    (λ (s : Side). pulled ∷ heard_at w one now line (other side)
    (emission_at (emissions (history_of s one)) Which.Last) ∷ [])
    (sym (other-other side))
    ∙ ap (λ (s : Side). pulled ∷ step_of w one now line s (Action.Hear Which.Last) ∷ []) (sym is)

-- each turn begins with a pull
pub turn-begins : (w : ℕ) (world : List Event) (now line : ℕ) (side : Side)
    → (more : List Step)
    × (pass_steps 1 w world now line side ≡ (pull_of w world now line side ∷ []) ++ more)
unfolding pass_steps
turn-begins w world now line side = (
  cond (is_emission (pull_of w world now line side).outcome) (hear_of w world now line side ∷ [])
      [],
  refl,
)

-- a pass of an end that is idle is one turn
pub pass_steps-idle : (n w : ℕ) (world : List Event) (now line : ℕ) (side : Side)
    → is_emission (pull_of w world now line side).outcome ≡ false
    → pass_steps (suc n) w world now line side ≡ pass_steps 1 w world now line side
unfolding pass_steps
pass_steps-idle n w world now line side idle =
    let pulled = pull_of w world now line side in
    let heard = hear_of w world now line side in
    let two = (world ++ events_of (pulled ∷ [])) ++ events_of (heard ∷ []) in
    ap (λ b. pulled ∷ cond b (heard ∷ pass_steps n w two now line side) []) idle
    ∙ sym (turn-idle w world now line side idle)

-- a pass of an end that emits goes on after a turn
pub pass_steps-emits : (n w : ℕ) (world : List Event) (now line : ℕ) (side : Side)
    → is_emission (pull_of w world now line side).outcome ≡ true
    → let turn = pass_steps 1 w world now line side in
    pass_steps (suc n) w world now line side
    ≡ turn ++ pass_steps n w (world ++ events_of turn) now line side
unfolding pass_steps
pass_steps-emits n w world now line side emits =
    let pulled = pull_of w world now line side in
    let heard = hear_of w world now line side in
    let two = (world ++ events_of (pulled ∷ [])) ++ events_of (heard ∷ []) in
    ap (λ b. pulled ∷ cond b (heard ∷ pass_steps n w two now line side) []) emits
    ∙ ap (λ (v : List Event). pulled ∷ heard ∷ pass_steps n w v now line side)
    (world-then world (pulled ∷ []) (heard ∷ []))
    ∙ ap (λ (t : List Step). t ++ pass_steps n w (world ++ events_of t) now line side)
    (sym (turn_both w world now line side emits))

-- each pass that may make a turn begins with one
pub pass_steps-begins : (n w : ℕ) (world : List Event) (now line : ℕ) (side : Side)
    → (more : List Step)
    × (pass_steps (suc n) w world now line side ≡ pass_steps 1 w world now line side ++ more)
unfolding pass_steps
pass_steps-begins n w world now line side =
    let pulled = pull_of w world now line side in
    let heard = hear_of w world now line side in
    let rest = pass_steps n w ((world ++ events_of (pulled ∷ [])) ++ events_of (heard ∷ []))
    now line side in (
      cond (is_emission pulled.outcome) rest [],
      split pulled heard rest
          (is_emission pulled.outcome),
    )
  where
    split : (x y : Step) (xs : List Step) (b : Bool)
        → x ∷ cond b (y ∷ xs) [] ≡ (x ∷ cond b (y ∷ []) []) ++ cond b xs []
    split x y xs true = refl
    split x y xs false = refl

-- a pass of no turn makes no step
pass_steps-none : (w : ℕ) (world : List Event) (now line : ℕ) (side : Side)
    → pass_steps zero w world now line side ≡ []
unfolding pass_steps
pass_steps-none w world now line side = refl

-- a pass has come so far: these steps were made and reported, and at most so many turns are left
pub record Passes (w all : ℕ) (world : List Event) (now line : ℕ) (side : Side) (left : ℕ)
    (pair : Pair) (old new : Printout) : Type 0 where
  pub made : List Step
  pub rest :
      pass_steps all w world now line side
      ≡ made ++ pass_steps left w (world ++ events_of made) now line side
  pub ends : IsPair w (world ++ events_of made) pair
  pub printed : Adds (report made) old new

-- at first no step was made
pub Passes-start : (w all : ℕ) (world : List Event) (now line : ℕ) (side : Side) (left : ℕ)
    (pair : Pair) (old : Printout)
    → all ≡ left
    → IsPair w world pair
    → Passes w all world now line side left pair old old
Passes-start w all world now line side left pair old is ends =
    record {
      made = [];
      rest =
          ap (λ n. pass_steps n w world now line side) is
          ∙ ap (λ (v : List Event). pass_steps left w v now line side) (sym (append-nil world));
      ends = rw append-nil ends;
      printed = rw report-none (Adds-nothing old);
    }

-- one turn more
pub Passes-turn : (w all : ℕ) (world : List Event) (now line : ℕ) (side : Side) (n left : ℕ)
    (old_pair new_pair : Pair) (first old new : Printout)
    → n ≡ suc left
    → (p : Passes w all world now line side n old_pair first old)
    → let so_far = world ++ events_of p.made in
    let turn = pass_steps 1 w so_far now line side in
    is_emission (pull_of w so_far now line side).outcome ≡ true
    → IsPair w (so_far ++ events_of turn) new_pair
    → Adds (report turn) old new
    → Passes w all world now line side left new_pair first new
Passes-turn w all world now line side n left old_pair new_pair first old new is p emits ends printed
    =
    let so_far = world ++ events_of p.made in
    let turn = pass_steps 1 w so_far now line side in
    let more : List Event → List Step = λ v. pass_steps left w v now line side in
    record {
      made = p.made ++ turn;
      rest =
          p.rest
          ∙ ap (λ n. p.made ++ pass_steps n w so_far now line side) is
          ∙ ap
          (λ (xs : List Step). p.made ++ xs)
          (pass_steps-emits left w so_far now line side emits)
          ∙ sym (append_assoc p.made turn (more (so_far ++ events_of turn)))
          ∙ ap (λ (v : List Event). (p.made ++ turn) ++ more v) (world-then world p.made turn);
      ends = IsPair-then w world p.made turn (p.made ++ turn) new_pair refl ends;
      printed = Adds-both p.made turn (p.made ++ turn) first old new refl p.printed printed;
    }

-- the turn at which the end was idle is the last
pub pass-ends : (w all : ℕ) (world : List Event) (now line : ℕ) (side : Side) (n left : ℕ)
    (pair : Pair) (old new : Printout)
    → n ≡ suc left
    → (p : Passes w all world now line side n pair old new)
    → let so_far = world ++ events_of p.made in
    is_emission (pull_of w so_far now line side).outcome ≡ false
    → pass_steps all w world now line side ≡ p.made ++ pass_steps 1 w so_far now line side
pass-ends w all world now line side n left pair old new is p idle =
    let so_far = world ++ events_of p.made in
    p.rest
    ∙ ap (λ n. p.made ++ pass_steps n w so_far now line side) is
    ∙ ap
    (λ (xs : List Step). p.made ++ xs)
    (pass_steps-idle left w so_far now line side idle)

-- so is the last turn that there may be
pub pass-over : (w all : ℕ) (world : List Event) (now line : ℕ) (side : Side) (n : ℕ)
    (pair : Pair) (old new : Printout)
    → n ≡ zero
    → (p : Passes w all world now line side n pair old new)
    → pass_steps all w world now line side ≡ p.made
pass-over w all world now line side n pair old new is p =
    let so_far = world ++ events_of p.made in
    p.rest
    ∙ ap (λ n. p.made ++ pass_steps n w so_far now line side) is
    ∙ ap (λ (xs : List Step). p.made ++ xs) (pass_steps-none w so_far now line side)
    ∙ append-nil p.made

-- a turn that stops is a part of the pass
pub Stops-turn : (w all : ℕ) (world : List Event) (now line : ℕ) (side : Side) (n left : ℕ)
    (pair : Pair) (stop : Stop) (first old new : Printout)
    → n ≡ suc left
    → (p : Passes w all world now line side n pair first old)
    → let so_far = world ++ events_of p.made in
    Stops (report (pass_steps 1 w so_far now line side)) stop old new
    → Stops (report (pass_steps all w world now line side)) stop first new
Stops-turn w all world now line side n left pair stop first old new is p stops =
    let so_far = world ++ events_of p.made in
    let turn = pass_steps 1 w so_far now line side in
    let begins = pass_steps-begins left w so_far now line side in
    Stops-front (p.made ++ turn) begins.0 (pass_steps all w world now line side) stop first new
    (p.rest
    ∙ ap (λ n. p.made ++ pass_steps n w so_far now line side) is
    ∙ ap (λ (xs : List Step). p.made ++ xs) begins.1
    ∙ sym (append_assoc p.made turn begins.0))
    (Stops-both p.made turn (p.made ++ turn) stop first old new refl p.printed stops)

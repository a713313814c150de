-- The steps of a settle with their feeds, turn after turn.
use Rattle.std.proofs.Common.{◌≡◌, ℕ, ◌+◌, ◌*◌, zero, suc, true, false, List, [], ◌∷◌, ◌++◌, sym, ap, subst, ◌∙◌, append_assoc, append-nil}
use Rattle.chan_values.specs.declared.side.Side.{Side}
use Rattle.chan_values.specs.declared.side.Side.TheVariants.{Plugin, Agent}
use Rattle.chan_values.specs.Sides.{other}
use Rattle.channel_core.specs.declared.call.EndCall.TheVariants as EndCall
use Rattle.channel_core.specs.World.{Event}
use Rattle.lab_script.specs.declared.command.Action.TheVariants as Action
use Rattle.lab_script.specs.declared.verb.Verb.TheVariants as Verb
use Rattle.lab_script.specs.declared.word.Which.TheVariants as Which
use Rattle.lab_run.specs.declared.stop.Stop.{Stop}
use Rattle.lab_run.specs.Outcomes.{is_emission}
use Rattle.lab_run.specs.Printing.{Adds, Printout, Stops}
use Rattle.lab_run.specs.Steps.{Step, called, events_of, pass_steps, settle_steps, step_of}
use Rattle.lab_run.proofs.PassLemmas.{pass_steps-begins, pass_steps-emits, pass_steps-idle, turn-emits}
use Rattle.lab_run.proofs.WritingLemmas.{Adds-nothing}
use Rattle.lab_streams.specs.declared.streams.Streams.{Streams}
use Rattle.lab_streams.specs.Ends.{IsStreams}
use Rattle.lab_streams.specs.Steps.{Past}
use Rattle.lab_streams.proofs.PastLemmas.{past_then, past_then-append, past_then-events, past_then-none}
use Rattle.lab_streams.proofs.ReportLemmas.{Adds-fed, Stops-fed, Stops-fed-before, fed_report, fed_report-none}

-- after some steps of ends with their feeds, and then more
pub IsStreams-fed : (w : ℕ) (past : Past) (a b : List Step) (streams : Streams)
    → IsStreams w (past_then (past_then past a) b) streams
    → IsStreams w (past_then past (a ++ b)) streams
IsStreams-fed w past a b streams is =
    subst (λ (p : Past). IsStreams w p streams) (past_then-append past a b) is

-- the same of four runs of steps
pub IsStreams-four : (w : ℕ) (past : Past) (a b c d : List Step) (streams : Streams)
    → IsStreams w (past_then (past_then (past_then (past_then past a) b) c) d) streams
    → IsStreams w (past_then past (((a ++ b) ++ c) ++ d)) streams
IsStreams-four w past a b c d streams is =
    let P : Past → Type 0 = λ p. IsStreams w p streams in
    let two = past_then-append past a b in
    let three = ap (λ (p : Past). past_then p c) two ∙ past_then-append past (a ++ b) c in
    subst P (ap (λ (p : Past). past_then p d) three ∙ past_then-append past ((a ++ b) ++ c) d) is

-- the step of a pull
abbrev pub pull_of : ℕ → List Event → ℕ → ℕ → Side → Step
pull_of w world now line side = called w world line Verb.Pull side (EndCall.Pull now)

-- a turn of an end that emits: a pull, and the hearing by the other end
pub turn-fed : (w : ℕ) (past : Past) (now line : ℕ) (side there : Side)
    → there ≡ other side
    → is_emission (pull_of w past.events now line side).outcome ≡ true
    → let pulled = pull_of w past.events now line side in
    let one = past_then past (pulled ∷ []) in
    pass_steps 1 w past.events now line side
    ≡ (pulled ∷ []) ++ (step_of w one.events now line there (Action.Hear Which.Last) ∷ [])
turn-fed w past now line side there is emits =
    let pulled = pull_of w past.events now line side in
    turn-emits w past.events now line side there is emits
    ∙ ap
    (λ (v : List Event). (pulled ∷ []) ++ (step_of w v now line there (Action.Hear Which.Last) ∷ []))
    (sym (past_then-events past (pulled ∷ [])))

-- the parts of a settle
pub settle-fed : (w : ℕ) (past : Past) (now line : ℕ)
    → let plugin = step_of w past.events now line Plugin Action.Open in
    let one = past_then past (plugin ∷ []) in
    let agent = step_of w one.events now line Agent Action.Open in
    let two = past_then one (agent ∷ []) in
    let to_agent = pass_steps (2 * w + 1) w two.events now line Plugin in
    let three = past_then two to_agent in
    let to_plugin = pass_steps (2 * w + 1) w three.events now line Agent in
    settle_steps w past.events now line
    ≡ (((plugin ∷ []) ++ (agent ∷ [])) ++ to_agent) ++ to_plugin
settle-fed w past now line =
    let plugin = step_of w past.events now line Plugin Action.Open in
    let one = past_then past (plugin ∷ []) in
    let opened : List Event → Step = λ v. step_of w v now line Agent Action.Open in
    let agent = opened one.events in
    let two = past_then one (agent ∷ []) in
    let first : List Event → List Step = λ v. pass_steps (2 * w + 1) w v now line Plugin in
    let second : List Event → List Step = λ v. pass_steps (2 * w + 1) w v now line Agent in
    let both : List Event → List Step = λ v. first v ++ second (v ++ events_of (first v)) in
    ap (λ (v : List Event). plugin ∷ opened v ∷ both (v ++ events_of (opened v ∷ [])))
    (sym (past_then-events past (plugin ∷ [])))
    ∙ ap (λ (v : List Event). plugin ∷ agent ∷ both v) (sym (past_then-events one (agent ∷ [])))
    ∙ ap (λ (v : List Event). plugin ∷ agent ∷ (first two.events ++ second v))
    (sym (past_then-events two (first two.events)))

-- a pass has come so far: these steps were made and reported, and at most so many turns are left
pub record Passes (w all : ℕ) (past : Past) (now line : ℕ) (side : Side) (left : ℕ)
    (streams : Streams) (old new : Printout) : Type 0 where
  pub made : List Step
  pub rest :
      pass_steps all w past.events now line side
      ≡ made ++ pass_steps left w (past_then past made).events now line side
  pub ends : IsStreams w (past_then past made) streams
  pub printed : Adds (fed_report past made) old new

-- at first no step was made
pub Passes-start : (w all : ℕ) (past : Past) (now line : ℕ) (side : Side) (left : ℕ)
    (streams : Streams) (old : Printout)
    → all ≡ left
    → IsStreams w past streams
    → Passes w all past now line side left streams old old
Passes-start w all past now line side left streams old is ends =
    record {
      made = [];
      rest =
          ap (λ n. pass_steps n w past.events now line side) is
          ∙ ap (λ (p : Past). pass_steps left w p.events now line side)
          (sym (past_then-none past));
      ends = subst (λ (p : Past). IsStreams w p streams) (sym (past_then-none past)) ends;
      printed =
          subst (λ (t : List ℕ). Adds t old old) (sym (fed_report-none past))
          (Adds-nothing old);
    }

-- one turn more
pub Passes-turn : (w all : ℕ) (past : Past) (now line : ℕ) (side : Side) (n left : ℕ)
    (old_streams new_streams : Streams) (first old new : Printout)
    → n ≡ suc left
    → (p : Passes w all past now line side n old_streams first old)
    → let so_far = past_then past p.made in
    let turn = pass_steps 1 w so_far.events now line side in
    is_emission (pull_of w so_far.events now line side).outcome ≡ true
    → IsStreams w (past_then so_far turn) new_streams
    → Adds (fed_report so_far turn) old new
    → Passes w all past now line side left new_streams first new
Passes-turn w all past now line side n left old_streams new_streams first old new is p emits ends
    printed =
    let so_far = past_then past p.made in
    let turn = pass_steps 1 w so_far.events now line side in
    let more : List Event → List Step = λ v. pass_steps left w v now line side in
    record {
      made = p.made ++ turn;
      rest =
          p.rest
          ∙ ap (λ n. p.made ++ pass_steps n w so_far.events now line side) is
          ∙ ap
          (λ (xs : List Step). p.made ++ xs)
          (pass_steps-emits left w so_far.events now line side emits)
          ∙ sym (append_assoc p.made turn (more (so_far.events ++ events_of turn)))
          ∙ ap (λ (v : List Event). (p.made ++ turn) ++ more v)
          (sym (past_then-events so_far turn))
          ∙ ap (λ (q : Past). (p.made ++ turn) ++ more q.events)
          (past_then-append past p.made turn);
      ends = IsStreams-fed w past p.made turn new_streams ends;
      printed = Adds-fed past p.made turn first old new p.printed printed;
    }

-- the turn at which the end was idle is the last
pub pass-ends : (w all : ℕ) (past : Past) (now line : ℕ) (side : Side) (n left : ℕ)
    (streams : Streams) (old new : Printout)
    → n ≡ suc left
    → (p : Passes w all past now line side n streams old new)
    → let so_far = past_then past p.made in
    is_emission (pull_of w so_far.events now line side).outcome ≡ false
    → pass_steps all w past.events now line side
    ≡ p.made ++ pass_steps 1 w so_far.events now line side
pass-ends w all past now line side n left streams old new is p idle =
    let so_far = past_then past p.made in
    p.rest
    ∙ ap (λ n. p.made ++ pass_steps n w so_far.events now line side) is
    ∙ ap
    (λ (xs : List Step). p.made ++ xs)
    (pass_steps-idle left w so_far.events now line side idle)

-- so is the last turn that there may be
pub pass-over : (w all : ℕ) (past : Past) (now line : ℕ) (side : Side) (n : ℕ)
    (streams : Streams) (old new : Printout)
    → n ≡ zero
    → (p : Passes w all past now line side n streams old new)
    → pass_steps all w past.events now line side ≡ p.made
unfolding pass_steps
pass-over w all past now line side n streams old new is p =
    let so_far = past_then past p.made in
    p.rest
    ∙ ap (λ n. p.made ++ pass_steps n w so_far.events now line side) is
    ∙ append-nil p.made

-- a turn that stops is a part of the pass
pub Stops-turn : (w all : ℕ) (past : Past) (now line : ℕ) (side : Side) (n left : ℕ)
    (streams : Streams) (stop : Stop) (first old new : Printout)
    → n ≡ suc left
    → (p : Passes w all past now line side n streams first old)
    → let so_far = past_then past p.made in
    Stops (fed_report so_far (pass_steps 1 w so_far.events now line side)) stop old new
    → Stops (fed_report past (pass_steps all w past.events now line side)) stop first new
Stops-turn w all past now line side n left streams stop first old new is p stops =
    let so_far = past_then past p.made in
    let turn = pass_steps 1 w so_far.events now line side in
    let begins = pass_steps-begins left w so_far.events now line side in
    let all_steps : pass_steps all w past.events now line side ≡ (p.made ++ turn) ++ begins.0 =
    p.rest
    ∙ ap (λ n. p.made ++ pass_steps n w so_far.events now line side) is
    ∙ ap (λ (xs : List Step). p.made ++ xs) begins.1
    ∙ sym (append_assoc p.made turn begins.0) in
    subst (λ (xs : List Step). Stops (fed_report past xs) stop first new) (sym all_steps)
    (Stops-fed-before past (p.made ++ turn) begins.0 stop first new
    (Stops-fed past p.made turn stop first old new p.printed stops))

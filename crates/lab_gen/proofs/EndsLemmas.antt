-- Both ends after a step, and after the steps of a pass.
use Rattle.std.proofs.Common.{◌≡◌, ℕ, zero, suc, true, false, List, [], ◌∷◌, ◌++◌, refl, sym, ap, subst, ◌∙◌, append-nil}
use Rattle.chan_values.specs.declared.side.Side.{Side}
use Rattle.chan_values.specs.declared.side.Side.TheVariants.{Plugin, Agent}
use Rattle.chan_values.specs.Sides.{other}
use Rattle.channel_core.specs.declared.call.EndCall.{EndCall}
use Rattle.channel_core.specs.World.{Event, history_of}
use Rattle.channel_core.proofs.WorldLemmas.{IsRight}
use Rattle.lab_script.specs.declared.command.Action.{Action}
use Rattle.lab_script.specs.declared.verb.Verb.{Verb}
use Rattle.lab_script.specs.declared.word.Which.{Which}
use Rattle.lab_run.specs.Outcomes.{is_emission}
use Rattle.lab_run.specs.Steps.{Step, called, events_of, pass_steps, start, step_of}
use Rattle.lab_run.proofs.PassLemmas.{pass_steps-emits, pass_steps-idle, turn-emits, turn-idle, world-then}
use Rattle.lab_run.proofs.RightLemmas.{IsRight-start, IsRight-step, step_of-away}
use Rattle.channel_core.specs.Exchange.{opening}
use Rattle.lab_gen.specs.declared.ends.Ends.{Ends}
use Rattle.lab_gen.specs.Ends.{IsEnds, IsLatest}

-- two new ends
pub IsEnds-start : (w : ℕ) (ends : Ends)
    → IsLatest w Plugin ((opening Plugin 0).entry ∷ []) ends.plugin
    → IsLatest w Agent ((opening Agent 0).entry ∷ []) ends.agent
    → IsEnds w start ends
unfolding history_of
IsEnds-start w ends plugin agent =
    record {
      legal = (IsRight-start w).legal;
      honest = (IsRight-start w).honest;
      plugin = plugin;
      agent = agent;
    }

-- what happened is legal and honest
pub IsEnds-right : (w : ℕ) (world : List Event) (ends : Ends) → IsEnds w world ends
    → IsRight w world
IsEnds-right w world ends is = record { legal = is.legal; honest = is.honest }

-- the plugin's end made a step
pub IsEnds-plugin : (w : ℕ) (world : List Event) (now line : ℕ) (action : Action)
    (old new : Ends)
    → IsEnds w world old
    → let longer = world ++ events_of (step_of w world now line Plugin action ∷ []) in
    IsLatest w Plugin (history_of Plugin longer) new.plugin
    → new.agent ≡ old.agent
    → IsEnds w longer new
IsEnds-plugin w world now line action old new is made away =
    let r = IsRight-step w world now line Plugin action (IsEnds-right w world old is) in
    record {
      legal = r.legal;
      honest = r.honest;
      plugin = made;
      agent = rw (away, step_of-away w world now line Plugin action) is.agent;
    }

-- the agent's end made a step
pub IsEnds-agent : (w : ℕ) (world : List Event) (now line : ℕ) (action : Action)
    (old new : Ends)
    → IsEnds w world old
    → let longer = world ++ events_of (step_of w world now line Agent action ∷ []) in
    IsLatest w Agent (history_of Agent longer) new.agent
    → new.plugin ≡ old.plugin
    → IsEnds w longer new
IsEnds-agent w world now line action old new is made away =
    let r = IsRight-step w world now line Agent action (IsEnds-right w world old is) in
    record {
      legal = r.legal;
      honest = r.honest;
      plugin = rw (away, step_of-away w world now line Agent action) is.plugin;
      agent = made;
    }

-- ---- a pass

-- the step of a pull
abbrev pull_of : ℕ → List Event → ℕ → ℕ → Side → Step
pull_of w world now line side = called w world line Verb.Pull side (EndCall.Pull now)

-- a pass of no turn makes no step
pass_steps-none : (w : ℕ) (world : List Event) (now line : ℕ) (side : Side)
    → pass_steps zero w world now line side ≡ []
unfolding pass_steps
pass_steps-none w world now line side = refl

-- a pass has come so far, and at most so many turns are left
pub record Passes (w all : ℕ) (world : List Event) (now line : ℕ) (side : Side) (left : ℕ)
    (ends : Ends) : Type 0 where
  pub so_far : List Event
  pub rest :
      world ++ events_of (pass_steps all w world now line side)
      ≡ so_far ++ events_of (pass_steps left w so_far now line side)
  pub reached : IsEnds w so_far ends

-- at first no turn was made
pub Passes-start : (w all : ℕ) (world : List Event) (now line : ℕ) (side : Side) (left : ℕ)
    (ends : Ends)
    → all ≡ left
    → IsEnds w world ends
    → Passes w all world now line side left ends
Passes-start w all world now line side left ends is started =
    record {
      so_far = world;
      rest = ap (λ n. world ++ events_of (pass_steps n w world now line side)) is;
      reached = started;
    }

-- what a pass leaves, where this many turns are left
left_is : (w : ℕ) (so_far : List Event) (now line : ℕ) (side : Side) (m n : ℕ)
    → m ≡ n
    → so_far ++ events_of (pass_steps m w so_far now line side)
    ≡ so_far ++ events_of (pass_steps n w so_far now line side)
left_is w so_far now line side m n is =
    ap (λ k. so_far ++ events_of (pass_steps k w so_far now line side)) is

-- one turn more
pub Passes-turn : (w all : ℕ) (world : List Event) (now line : ℕ) (side there : Side)
    (n left : ℕ) (old new : Ends)
    → n ≡ suc left
    → there ≡ other side
    → (p : Passes w all world now line side n old)
    → let pulled = pull_of w p.so_far now line side in
    let one = p.so_far ++ events_of (pulled ∷ []) in
    is_emission pulled.outcome ≡ true
    → IsEnds w
    (one ++ events_of (step_of w one now line there (Action.Hear Which.Last) ∷ [])) new
    → Passes w all world now line side left new
Passes-turn w all world now line side there n left old new is across p emits ends =
    let so_far = p.so_far in
    let pulled = pull_of w so_far now line side in
    let one = so_far ++ events_of (pulled ∷ []) in
    let heard = step_of w one now line there (Action.Hear Which.Last) in
    let two = one ++ events_of (heard ∷ []) in
    let turn = pass_steps 1 w so_far now line side in
    let rest : List Event → List Step = λ v. pass_steps left w v now line side in
    let turned : so_far ++ events_of turn ≡ two =
    ap
    (λ (t : List Step). so_far ++ events_of t)
    (turn-emits w so_far now line side there across emits)
    ∙ sym (world-then so_far (pulled ∷ []) (heard ∷ [])) in
    record {
      so_far = two;
      rest =
          p.rest
          ∙ left_is w so_far now line side n (suc left) is
          ∙ ap
          (λ (t : List Step). so_far ++ events_of t)
          (pass_steps-emits left w so_far now line side emits)
          ∙ sym (world-then so_far turn (rest (so_far ++ events_of turn)))
          ∙ ap (λ (v : List Event). v ++ events_of (rest v)) turned;
      reached = ends;
    }

-- the turn at which the end was idle is the last
pub Passes-idle : (w all : ℕ) (world : List Event) (now line : ℕ) (side : Side) (n left : ℕ)
    (old new : Ends)
    → n ≡ suc left
    → (p : Passes w all world now line side n old)
    → let pulled = pull_of w p.so_far now line side in
    is_emission pulled.outcome ≡ false
    → IsEnds w (p.so_far ++ events_of (pulled ∷ [])) new
    → IsEnds w (world ++ events_of (pass_steps all w world now line side)) new
Passes-idle w all world now line side n left old new is p idle ends =
    let so_far = p.so_far in
    let P : List Event → Type 0 = λ v. IsEnds w v new in
    subst P
    (sym
    (p.rest
    ∙ left_is w so_far now line side n (suc left) is
    ∙ ap
    (λ (t : List Step). so_far ++ events_of t)
    (pass_steps-idle left w so_far now line side idle
    ∙ turn-idle w so_far now line side idle)))
    ends

-- so is the last turn that there may be
pub Passes-over : (w all : ℕ) (world : List Event) (now line : ℕ) (side : Side) (n : ℕ)
    (ends : Ends)
    → n ≡ zero
    → Passes w all world now line side n ends
    → IsEnds w (world ++ events_of (pass_steps all w world now line side)) ends
Passes-over w all world now line side n ends is p =
    let so_far = p.so_far in
    let P : List Event → Type 0 = λ v. IsEnds w v ends in
    subst P
    (sym
    (p.rest
    ∙ left_is w so_far now line side n zero is
    ∙ ap
    (λ (t : List Step). so_far ++ events_of t)
    (pass_steps-none w so_far now line side)
    ∙ append-nil so_far))
    p.reached

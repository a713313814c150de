-- The two ends after a step.
use Rattle.std.proofs.Common.{◌≡◌, ℕ, Result, IfOk, List, [], ◌∷◌, ◌++◌, sym, ap, subst, ◌∙◌}
use Rattle.std.specs.List.{cons_option}
use Rattle.std.proofs.lemmas.Result.{IfOk-weaker}
use Rattle.chan_values.specs.declared.no_memory.NoMemory.{NoMemory}
use Rattle.chan_values.specs.declared.side.Side.{Side}
use Rattle.chan_values.specs.declared.side.Side.TheVariants.{Plugin, Agent}
use Rattle.chan_values.specs.Sides.{other}
use Rattle.channel_core.specs.Exchange.{opening}
use Rattle.channel_core.specs.World.{Event, IsLegalWorld, history_of}
use Rattle.channel_core.proofs.WorldLemmas.{IsRight}
use Rattle.lab_script.specs.declared.command.Action.{Action}
use Rattle.lab_script.specs.declared.outcome.Outcome.{Outcome}
use Rattle.lab_run.specs.declared.pair.Pair.{Pair}
use Rattle.lab_run.specs.Ends.{AllSendable, IsEndpoint, IsPair, Makes, PairMakes, endpoint_of}
use Rattle.lab_run.specs.Outcomes.{encodings_in}
use Rattle.lab_run.specs.Steps.{Step, events_of, start, step_of}
use Rattle.lab_run.proofs.RightLemmas.{IsOf-step_of, IsRight-start, IsRight-step, step_of-away}

-- two new ends
pub IsPair-start : (w : ℕ) (pair : Pair)
    → IsEndpoint w Plugin ((opening Plugin 0).entry ∷ []) pair.plugin
    → IsEndpoint w Agent ((opening Agent 0).entry ∷ []) pair.agent
    → IsPair w start pair
unfolding history_of
IsPair-start w pair plugin agent =
    record {
      legal = (IsRight-start w).legal;
      honest = (IsRight-start w).honest;
      plugin =
          plugin;
      agent = agent;
    }

-- both ends, from the one of a side and the other
both : (w : ℕ) (side : Side) (world : List Event) (pair : Pair)
    → IsRight w world
    → IsEndpoint w side (history_of side world) (endpoint_of side pair)
    → IsEndpoint w (other side) (history_of (other side) world) (endpoint_of (other side) pair)
    → IsPair w world pair
both w Plugin world pair r here there =
    record { legal = r.legal; honest = r.honest; plugin = here; agent = there }
both w Agent world pair r here there =
    record { legal = r.legal; honest = r.honest; plugin = there; agent = here }

-- one end made a step
pub PairMakes-acted : (w : ℕ) (world : List Event) (now line : ℕ) (side : Side) (action : Action)
    (pair : Pair) (outcome : Outcome)
    → IsRight w world
    → let s = step_of w world now line side action in
    Makes w world s (endpoint_of side pair) outcome
    → IsEndpoint w (other side) (history_of (other side) world) (endpoint_of (other side) pair)
    → PairMakes w world s pair outcome
PairMakes-acted w world now line side action pair outcome right made there =
    let s = step_of w world now line side action in
    let r = IsRight-step w world now line side action right in
    let at : s.side ≡ side = (IsOf-step_of w world now line side action).at in
    record {
      legal = r.legal;
      honest = r.honest;
      here = rw at made;
      there = rw (at, step_of-away w world now line side action) there;
    }

-- the same, of two ends that did all that happened in a world
pub PairMakes-by : (w : ℕ) (world : List Event) (now line : ℕ) (side : Side) (action : Action)
    (old new : Pair) (r : Result Outcome NoMemory)
    → IsPair w world old
    → let at = (endpoint_of side old).side in
    (IsLegalWorld w world
    → IsEndpoint w at (history_of at world) (endpoint_of side old)
    → IsEndpoint w (other at) (history_of (other at) world) (endpoint_of (other side) old)
    → IfOk r (Makes w world (step_of w world now line at action) (endpoint_of side new)))
    → endpoint_of (other side) new ≡ endpoint_of (other side) old
    → IfOk r (PairMakes w world (step_of w world now line side action) new)
PairMakes-by w world now line side action old new r is acts away =
    let here = at_side side in
    let there = at_side (other side) in
    let P : Side → Type 0 = λ s. IsEndpoint w s (history_of s world) (endpoint_of side old) in
    let Q : Side → Type 0 =
    λ s. IsEndpoint w (other s) (history_of (other s) world) (endpoint_of (other side) old) in
    let acted = acts is.legal (subst P (sym here.at) here) (subst Q (sym here.at) there) in
    IfOk-weaker r _ _
    (λ outcome made.
    let M : Side → Type 0 =
    λ s. Makes w world (step_of w world now line s action) (endpoint_of side new) outcome in
    PairMakes-acted w world now line side action new outcome
    (record { legal = is.legal; honest = is.honest }) (subst M here.at made) (rw away there))
    acted
  where
    at_side : (s : Side) → IsEndpoint w s (history_of s world) (endpoint_of s old)
    at_side Plugin = is.plugin
    at_side Agent = is.agent

-- what was emitted is kept
pub IsPair-kept : (w : ℕ) (world : List Event) (s : Step) (old new : Pair) (outcome : Outcome)
    → PairMakes w world s old outcome
    → (endpoint_of s.side new).end ≡ (endpoint_of s.side old).end
    → (endpoint_of s.side new).side ≡ (endpoint_of s.side old).side
    → (endpoint_of s.side new).sent.items
    ≡ (endpoint_of s.side old).sent.items ++ encodings_in outcome
    → endpoint_of (other s.side) new ≡ endpoint_of (other s.side) old
    → IsPair w (world ++ events_of (s ∷ [])) new
IsPair-kept w world s old new outcome made end same sent away =
    let longer = world ++ events_of (s ∷ []) in
    let here : IsEndpoint w s.side (history_of s.side longer) (endpoint_of s.side new) =
    record { at = same ∙ made.here.at; sent = rw (end, sent) made.here.sent } in
    let there :
    IsEndpoint w (other s.side) (history_of (other s.side) longer) (endpoint_of (other s.side) new)
    =
    rw away made.there in
    both w s.side longer new (record { legal = made.legal; honest = made.honest }) here there

-- what the ends of a pair emitted has an encoding
pub AllSendable-IsPair : (w : ℕ) (world : List Event) (pair : Pair) → IsPair w world pair
    → AllSendable world
AllSendable-IsPair w world pair is Plugin = is.plugin.sent.sendable
AllSendable-IsPair w world pair is Agent = is.agent.sent.sendable

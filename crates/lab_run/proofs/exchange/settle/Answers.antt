use Rattle.std.proofs.Common.{◌≡◌, ℕ, ◌+◌, ◌*◌, List, [], ◌∷◌, ◌++◌, refl, subst}
use Rattle.std.proofs.lemmas.Result.{err_from_is_err_and, on_ok_weaker}
use Rattle.chan_values.specs.declared.side.Side.TheVariants.{Plugin, Agent}
use Rattle.channel_core.specs.World.{Event}
use Rattle.lab_script.specs.declared.command.Action.TheVariants as Action
use Rattle.lab_run.specs.Ends.{IsPair}
use Rattle.lab_run.specs.Steps.{events_of, pass_steps, step_of}
use Rattle.lab_run.proofs.PassLemmas.{Adds-both, Prints-both, Stops-both, Stops-front, world-four}
use Rattle.lab_run.proofs.exchange.settle.Goals as goal

-- the plugin's end could not be connected
pub returns-in_err-step-clause-printed : goal.returns-in_err-step-clause-printed
returns-in_err-step-clause-printed g c world is =
    let err = err_from_is_err_and c.from_residual.result c.from_residual.ensures.1 in
    let w = c.args.context.now.window in
    let now = c.args.context.now.moment in
    let line = c.args.context.now.line in
    let plugin = step_of w world now line Plugin Action.Open in
    let one = world ++ events_of (plugin ∷ []) in
    let agent = step_of w one now line Agent Action.Open in
    let two = one ++ events_of (agent ∷ []) in
    let to_agent = pass_steps (2 * w + 1) w two now line Plugin in
    let three = two ++ events_of to_agent in
    let to_plugin = pass_steps (2 * w + 1) w three now line Agent in
    rw (err.1, err.2)
    (Stops-front (plugin ∷ []) (agent ∷ (to_agent ++ to_plugin)) _ _ _ _ refl
    (c.in_err-step.ensures.printed w world is))

-- the agent's end could not be connected
pub returns-in_err-step-2-clause-printed : goal.returns-in_err-step-2-clause-printed
returns-in_err-step-2-clause-printed g c world is =
    let err =
    err_from_is_err_and c.from_residual-in_err-step-2.result
    c.from_residual-in_err-step-2.ensures.1 in
    let w = c.args.context.now.window in
    let now = c.args.context.now.moment in
    let line = c.args.context.now.line in
    let plugin = step_of w world now line Plugin Action.Open in
    let one = world ++ events_of (plugin ∷ []) in
    let agent = step_of w one now line Agent Action.Open in
    let two = one ++ events_of (agent ∷ []) in
    let to_agent = pass_steps (2 * w + 1) w two now line Plugin in
    let three = two ++ events_of to_agent in
    let to_plugin = pass_steps (2 * w + 1) w three now line Agent in
    let made_one = c.in_ok-step.ensures.made w world is in
    rw (err.1, err.2)
    (Stops-front (plugin ∷ agent ∷ []) (to_agent ++ to_plugin) _ _ _ _ refl
    (Stops-both (plugin ∷ []) (agent ∷ []) (plugin ∷ agent ∷ []) _ _ _ _ refl
    (c.in_ok-step.ensures.printed w world is)
    (c.in_err-step-2.ensures.printed w one made_one)))

-- the plugin could not send all
pub returns-in_err-pass-clause-printed : goal.returns-in_err-pass-clause-printed
returns-in_err-pass-clause-printed g c world is =
    let err =
    err_from_is_err_and c.from_residual-in_err-pass.result c.from_residual-in_err-pass.ensures.1 in
    let w = c.args.context.now.window in
    let now = c.args.context.now.moment in
    let line = c.args.context.now.line in
    let plugin = step_of w world now line Plugin Action.Open in
    let one = world ++ events_of (plugin ∷ []) in
    let agent = step_of w one now line Agent Action.Open in
    let two = one ++ events_of (agent ∷ []) in
    let to_agent = pass_steps (2 * w + 1) w two now line Plugin in
    let three = two ++ events_of to_agent in
    let to_plugin = pass_steps (2 * w + 1) w three now line Agent in
    let made_one = c.in_ok-step.ensures.made w world is in
    let made_two = c.in_ok-step-2.ensures.made w one made_one in
    let opened =
    Adds-both (plugin ∷ []) (agent ∷ []) (plugin ∷ agent ∷ []) _ _ _ refl
    (c.in_ok-step.ensures.printed w world is) (c.in_ok-step-2.ensures.printed w one made_one) in
    rw (err.1, err.2)
    (Stops-front (plugin ∷ agent ∷ to_agent) to_plugin _ _ _ _ refl
    (Stops-both (plugin ∷ agent ∷ []) to_agent (plugin ∷ agent ∷ to_agent) _ _ _ _ refl opened
    (c.in_err-pass.ensures.printed two made_two)))

pub returns-clause-made : goal.returns-clause-made
returns-clause-made g c world is =
    let w = c.args.context.now.window in
    let now = c.args.context.now.moment in
    let line = c.args.context.now.line in
    let plugin = step_of w world now line Plugin Action.Open in
    let one = world ++ events_of (plugin ∷ []) in
    let agent = step_of w one now line Agent Action.Open in
    let two = one ++ events_of (agent ∷ []) in
    let to_agent = pass_steps (2 * w + 1) w two now line Plugin in
    let three = two ++ events_of to_agent in
    let to_plugin = pass_steps (2 * w + 1) w three now line Agent in
    let made_one = c.in_ok-step.ensures.made w world is in
    let made_two = c.in_ok-step-2.ensures.made w one made_one in
    let made_three = c.in_ok-pass.ensures.made two made_two in
    let P : List Event → Type 0 = λ v. IsPair w v c.pass-2.new.pair in
    on_ok_weaker c.pass-2.result
    (λ ends. subst P (world-four world (plugin ∷ []) (agent ∷ []) to_agent to_plugin) ends)
    (c.pass-2.ensures.made three made_three)

pub returns-clause-printed : goal.returns-clause-printed
returns-clause-printed g c world is =
    let w = c.args.context.now.window in
    let now = c.args.context.now.moment in
    let line = c.args.context.now.line in
    let plugin = step_of w world now line Plugin Action.Open in
    let one = world ++ events_of (plugin ∷ []) in
    let agent = step_of w one now line Agent Action.Open in
    let two = one ++ events_of (agent ∷ []) in
    let to_agent = pass_steps (2 * w + 1) w two now line Plugin in
    let three = two ++ events_of to_agent in
    let to_plugin = pass_steps (2 * w + 1) w three now line Agent in
    let made_one = c.in_ok-step.ensures.made w world is in
    let made_two = c.in_ok-step-2.ensures.made w one made_one in
    let opened =
    Adds-both (plugin ∷ []) (agent ∷ []) (plugin ∷ agent ∷ []) _ _ _ refl
    (c.in_ok-step.ensures.printed w world is) (c.in_ok-step-2.ensures.printed w one made_one) in
    let made_three = c.in_ok-pass.ensures.made two made_two in
    let sent =
    Adds-both (plugin ∷ agent ∷ []) to_agent (plugin ∷ agent ∷ to_agent) _ _ _ refl opened
    (c.in_ok-pass.ensures.printed two made_two) in
    Prints-both (plugin ∷ agent ∷ to_agent) to_plugin _ c.pass-2.result _ _ _ refl sent
    (c.pass-2.ensures.printed three made_three)

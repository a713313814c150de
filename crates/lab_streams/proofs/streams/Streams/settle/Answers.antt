use Rattle.std.proofs.Common.{◌+◌, ◌*◌, List, [], ◌∷◌, sym, subst}
use Rattle.std.proofs.lemmas.Result.{err_from_is_err_and, on_ok_weaker}
use Rattle.chan_values.specs.declared.side.Side.TheVariants.{Plugin, Agent}
use Rattle.lab_script.specs.declared.command.Action.TheVariants as Action
use Rattle.lab_run.specs.Steps.{Step, pass_steps, step_of}
use Rattle.lab_streams.specs.Ends.{IsStreams}
use Rattle.lab_streams.proofs.PassLemmas.{IsStreams-four, settle-fed}
use Rattle.lab_streams.proofs.PastLemmas.{past_then}
use Rattle.lab_streams.proofs.ReportLemmas.{Adds-fed, Adds-fed-two, Prints-fed-three, Stops-fed, Stops-fed-before, Stops-fed-two}
use Rattle.lab_streams.proofs.streams.Streams.settle.Goals as goal

-- the plugin's end could not be connected
pub returns-in_err-step-clause-printed : goal.returns-in_err-step-clause-printed
returns-in_err-step-clause-printed g c past is =
    let err =
    err_from_is_err_and c.from_residual.result c.from_residual.ensures.1 in
    let w = c.args.context.now.window in
    let now = c.args.context.now.moment in
    let line = c.args.context.now.line in
    let plugin = step_of w past.events now line Plugin Action.Open in
    let one = past_then past (plugin ∷ []) in
    let agent = step_of w one.events now line Agent Action.Open in
    let two = past_then one (agent ∷ []) in
    let to_agent = pass_steps (2 * w + 1) w two.events now line Plugin in
    let three = past_then two to_agent in
    let to_plugin = pass_steps (2 * w + 1) w three.events now line Agent in
    let parts = settle-fed w past now line in
    rw (err.1, err.2, parts)
    (Stops-fed-before past _ to_plugin _ _ _
    (Stops-fed-before past _ to_agent _ _ _
    (Stops-fed-before past (plugin ∷ []) (agent ∷ []) _ _ _
    (c.in_err-step.ensures.printed w past is))))

-- the agent's end could not be connected
pub returns-in_err-step-2-clause-printed : goal.returns-in_err-step-2-clause-printed
returns-in_err-step-2-clause-printed g c past is =
    let err =
    err_from_is_err_and c.from_residual-in_err-step-2.result c.from_residual-in_err-step-2.ensures.1 in
    let w = c.args.context.now.window in
    let now = c.args.context.now.moment in
    let line = c.args.context.now.line in
    let plugin = step_of w past.events now line Plugin Action.Open in
    let one = past_then past (plugin ∷ []) in
    let agent = step_of w one.events now line Agent Action.Open in
    let two = past_then one (agent ∷ []) in
    let to_agent = pass_steps (2 * w + 1) w two.events now line Plugin in
    let three = past_then two to_agent in
    let to_plugin = pass_steps (2 * w + 1) w three.events now line Agent in
    let parts = settle-fed w past now line in
    let made_one = c.in_ok-step.ensures.made w past is in
    rw (err.1, err.2, parts)
    (Stops-fed-before past _ to_plugin _ _ _
    (Stops-fed-before past _ to_agent _ _ _
    (Stops-fed past (plugin ∷ []) (agent ∷ []) _ _ _ _ (c.in_ok-step.ensures.printed w past is)
    (c.in_err-step-2.ensures.printed w one made_one))))

-- the plugin could not send all
pub returns-in_err-pass-clause-printed : goal.returns-in_err-pass-clause-printed
returns-in_err-pass-clause-printed g c past is =
    let err =
    err_from_is_err_and c.from_residual-in_err-pass.result c.from_residual-in_err-pass.ensures.1 in
    let w = c.args.context.now.window in
    let now = c.args.context.now.moment in
    let line = c.args.context.now.line in
    let plugin = step_of w past.events now line Plugin Action.Open in
    let one = past_then past (plugin ∷ []) in
    let agent = step_of w one.events now line Agent Action.Open in
    let two = past_then one (agent ∷ []) in
    let to_agent = pass_steps (2 * w + 1) w two.events now line Plugin in
    let three = past_then two to_agent in
    let to_plugin = pass_steps (2 * w + 1) w three.events now line Agent in
    let parts = settle-fed w past now line in
    let made_one = c.in_ok-step.ensures.made w past is in
    let made_two = c.in_ok-step-2.ensures.made w one made_one in
    let opened =
    Adds-fed past (plugin ∷ []) (agent ∷ []) _ _ _ (c.in_ok-step.ensures.printed w past is)
    (c.in_ok-step-2.ensures.printed w one made_one) in
    rw (err.1, err.2, parts)
    (Stops-fed-before past _ to_plugin _ _ _
    (Stops-fed-two past (plugin ∷ []) (agent ∷ []) to_agent _ _ _ _ opened
    (c.in_err-pass.ensures.printed two made_two)))

pub returns-clause-made : goal.returns-clause-made
returns-clause-made g c past is =
    let w = c.args.context.now.window in
    let now = c.args.context.now.moment in
    let line = c.args.context.now.line in
    let plugin = step_of w past.events now line Plugin Action.Open in
    let one = past_then past (plugin ∷ []) in
    let agent = step_of w one.events now line Agent Action.Open in
    let two = past_then one (agent ∷ []) in
    let to_agent = pass_steps (2 * w + 1) w two.events now line Plugin in
    let three = past_then two to_agent in
    let to_plugin = pass_steps (2 * w + 1) w three.events now line Agent in
    let parts = settle-fed w past now line in
    let made_one = c.in_ok-step.ensures.made w past is in
    let made_two = c.in_ok-step-2.ensures.made w one made_one in
    let made_three = c.in_ok-pass.ensures.made two made_two in
    on_ok_weaker c.pass-2.result
    (λ ends.
    subst (λ (xs : List Step). IsStreams w (past_then past xs) c.pass-2.new.self) (sym parts)
    (IsStreams-four w past (plugin ∷ []) (agent ∷ []) to_agent to_plugin _ ends))
    (c.pass-2.ensures.made three made_three)

pub returns-clause-printed : goal.returns-clause-printed
returns-clause-printed g c past is =
    let w = c.args.context.now.window in
    let now = c.args.context.now.moment in
    let line = c.args.context.now.line in
    let plugin = step_of w past.events now line Plugin Action.Open in
    let one = past_then past (plugin ∷ []) in
    let agent = step_of w one.events now line Agent Action.Open in
    let two = past_then one (agent ∷ []) in
    let to_agent = pass_steps (2 * w + 1) w two.events now line Plugin in
    let three = past_then two to_agent in
    let to_plugin = pass_steps (2 * w + 1) w three.events now line Agent in
    let parts = settle-fed w past now line in
    let made_one = c.in_ok-step.ensures.made w past is in
    let made_two = c.in_ok-step-2.ensures.made w one made_one in
    let opened =
    Adds-fed past (plugin ∷ []) (agent ∷ []) _ _ _ (c.in_ok-step.ensures.printed w past is)
    (c.in_ok-step-2.ensures.printed w one made_one) in
    let made_three = c.in_ok-pass.ensures.made two made_two in
    let first =
    Adds-fed-two past (plugin ∷ []) (agent ∷ []) to_agent _ _ _ opened
    (c.in_ok-pass.ensures.printed two made_two) in
    rw parts
    (Prints-fed-three past (plugin ∷ []) (agent ∷ []) to_agent to_plugin c.pass-2.result _ _ _ first
    (c.pass-2.ensures.printed three made_three))

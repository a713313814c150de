use Rattle.std.proofs.Common.{◌≡◌, ℕ, ◌+◌, ◌*◌, List, [], ◌∷◌, ◌++◌, refl, ap, ◌∙◌}
use Rattle.std.proofs.lemmas.Result.{err_from_is_err_and}
use Rattle.chan_values.specs.declared.side.Side.TheVariants.{Plugin, Agent}
use Rattle.channel_core.specs.World.{Event}
use Rattle.lab_script.specs.declared.command.Action.TheVariants as Action
use Rattle.lab_script.specs.declared.word.Which.TheVariants as Which
use Rattle.lab_run.specs.Printing.{printout}
use Rattle.lab_run.specs.Steps.{events_of, pass_steps, step_of}
use Rattle.lab_run.proofs.PassLemmas.{world-then}
use Rattle.lab_journal.specs.Recording.{Records}
use Rattle.lab_journal.proofs.TextLemmas.{Adds-both, Records-both, Stops-both, Stops-front}
use Rattle.lab_journal.proofs.recorder.Recorder.settle.Goals as goal

-- the plugin's end could not be connected
pub returns-in_err-step : goal.returns-in_err-step
returns-in_err-step g c world is =
    let err = err_from_is_err_and c.from_residual.result c.from_residual.ensures.1 in
    let w = c.args.context.now.window in
    let now = c.args.context.now.moment in
    let line = c.args.context.now.line in
    let plugin = step_of w world now line Plugin Action.Open in
    let one = world ++ events_of (plugin ∷ []) in
    let agent = step_of w one now line Agent Action.Open in
    let two = one ++ events_of (agent ∷ []) in
    let to_agent = pass_steps (2 * w + 1) w two now line Plugin in
    let three = two ++ events_of to_agent in
    let to_plugin = pass_steps (2 * w + 1) w three now line Agent in
    rw (err.1, err.2)
    (Stops-front Which.Last world (plugin ∷ []) (agent ∷ (to_agent ++ to_plugin)) _ _ _ _ refl
    (c.in_err-step.ensures.recorded w world is))

-- the agent's end could not be connected
pub returns-in_err-step-2 : goal.returns-in_err-step-2
returns-in_err-step-2 g c world is =
    let err =
    err_from_is_err_and c.from_residual-in_err-step-2.result
    c.from_residual-in_err-step-2.ensures.1 in
    let w = c.args.context.now.window in
    let now = c.args.context.now.moment in
    let line = c.args.context.now.line in
    let plugin = step_of w world now line Plugin Action.Open in
    let one = world ++ events_of (plugin ∷ []) in
    let agent = step_of w one now line Agent Action.Open in
    let two = one ++ events_of (agent ∷ []) in
    let to_agent = pass_steps (2 * w + 1) w two now line Plugin in
    let three = two ++ events_of to_agent in
    let to_plugin = pass_steps (2 * w + 1) w three now line Agent in
    let first = c.in_ok-step.ensures.recorded w world is in
    rw (err.1, err.2)
    (Stops-front Which.Last world (plugin ∷ agent ∷ []) (to_agent ++ to_plugin) _ _ _ _ refl
    (Stops-both Which.Last world (plugin ∷ []) (agent ∷ []) (plugin ∷ agent ∷ []) _ _ _ _ refl
    first.1
    (c.in_err-step-2.ensures.recorded w one first.0)))

-- the plugin could not send all
pub returns-in_err-pass : goal.returns-in_err-pass
returns-in_err-pass g c world is =
    let err =
    err_from_is_err_and c.from_residual-in_err-pass.result c.from_residual-in_err-pass.ensures.1 in
    let w = c.args.context.now.window in
    let now = c.args.context.now.moment in
    let line = c.args.context.now.line in
    let plugin = step_of w world now line Plugin Action.Open in
    let one = world ++ events_of (plugin ∷ []) in
    let agent = step_of w one now line Agent Action.Open in
    let two = one ++ events_of (agent ∷ []) in
    let to_agent = pass_steps (2 * w + 1) w two now line Plugin in
    let three = two ++ events_of to_agent in
    let to_plugin = pass_steps (2 * w + 1) w three now line Agent in
    let first = c.in_ok-step.ensures.recorded w world is in
    let second = c.in_ok-step-2.ensures.recorded w one first.0 in
    let opened =
    Adds-both Which.Last world (plugin ∷ []) (agent ∷ []) (plugin ∷ agent ∷ []) _ _ _ refl first.1
    second.1 in
    let both : two ≡ world ++ events_of (plugin ∷ agent ∷ []) =
    world-then world (plugin ∷ []) (agent ∷ []) in
    rw (err.1, err.2)
    (Stops-front Which.Last world (plugin ∷ agent ∷ to_agent) to_plugin _ _ _ _ refl
    (Stops-both Which.Last world (plugin ∷ agent ∷ []) to_agent (plugin ∷ agent ∷ to_agent) _ _ _ _
    refl opened (rw (← both) (c.in_err-pass.ensures two second.0))))

pub returns : goal.returns
returns g c world is =
    let w = c.args.context.now.window in
    let now = c.args.context.now.moment in
    let line = c.args.context.now.line in
    let plugin = step_of w world now line Plugin Action.Open in
    let one = world ++ events_of (plugin ∷ []) in
    let agent = step_of w one now line Agent Action.Open in
    let two = one ++ events_of (agent ∷ []) in
    let to_agent = pass_steps (2 * w + 1) w two now line Plugin in
    let three = two ++ events_of to_agent in
    let to_plugin = pass_steps (2 * w + 1) w three now line Agent in
    let first = c.in_ok-step.ensures.recorded w world is in
    let second = c.in_ok-step-2.ensures.recorded w one first.0 in
    let third = c.in_ok-pass.ensures two second.0 in
    let both : two ≡ world ++ events_of (plugin ∷ agent ∷ []) =
    world-then world (plugin ∷ []) (agent ∷ []) in
    let all : three ≡ world ++ events_of (plugin ∷ agent ∷ to_agent) =
    ap (λ (v : List Event). v ++ events_of to_agent) both
    ∙ world-then world (plugin ∷ agent ∷ []) to_agent in
    let opened =
    Adds-both Which.Last world (plugin ∷ []) (agent ∷ []) (plugin ∷ agent ∷ []) _ _ _ refl first.1
    second.1 in
    let sent =
    Adds-both Which.Last world (plugin ∷ agent ∷ []) to_agent (plugin ∷ agent ∷ to_agent) _ _ _ refl
    opened (rw (← both) third.1) in
    let at = printout g.K.Sink.output g.K.Sink.faults in
    let more : Records w Which.Last (world ++ events_of (plugin ∷ agent ∷ to_agent)) to_plugin
    c.pass-2.result c.pass-2.new.self.pair (at c.pass.new.self.writer c.pass.new.sink)
    (at c.pass-2.new.self.writer c.pass-2.new.sink)
    = rw (← all) (c.pass-2.ensures three third.0) in
    Records-both w Which.Last world (plugin ∷ agent ∷ to_agent) to_plugin
    (plugin ∷ agent ∷ (to_agent ++ to_plugin)) c.pass-2.result c.pass-2.new.self.pair
    (at c.args.self.now.writer c.args.sink.now) (at c.pass.new.self.writer c.pass.new.sink)
    (at c.pass-2.new.self.writer c.pass-2.new.sink) refl sent more

use Rattle.std.proofs.Common.{◌+◌, ◌*◌, List, [], ◌∷◌, ◌++◌, subst}
use Rattle.std.proofs.lemmas.Result.{on_ok_weaker}
use Rattle.chan_values.specs.declared.side.Side.TheVariants.{Plugin, Agent}
use Rattle.channel_core.specs.World.{Event}
use Rattle.lab_script.specs.declared.command.Action.TheVariants as Action
use Rattle.lab_run.specs.Steps.{events_of, pass_steps, step_of}
use Rattle.lab_run.proofs.PassLemmas.{world-four}
use Rattle.lab_gen.specs.Ends.{IsEnds}
use Rattle.lab_gen.proofs.ends.Ends.settle.Goals as goal

pub returns : goal.returns
returns c world is =
    let w = c.args.context.now.window in
    let now = c.args.context.now.moment in
    let line = c.args.context.now.line in
    let plugin = step_of w world now line Plugin Action.Open in
    let one = world ++ events_of (plugin ∷ []) in
    let agent = step_of w one now line Agent Action.Open in
    let two = one ++ events_of (agent ∷ []) in
    let to_agent = pass_steps (2 * w + 1) w two now line Plugin in
    let three = two ++ events_of to_agent in
    let to_plugin = pass_steps (2 * w + 1) w three now line Agent in
    let made_one = c.in_ok-step.ensures.made w world is in
    let made_two = c.in_ok-step-2.ensures.made w one made_one in
    let made_three = c.in_ok-pass.ensures two made_two in
    let P : List Event → Type 0 = λ v. IsEnds w v c.pass-2.new.self in
    on_ok_weaker c.pass-2.result
    (λ ends. subst P (world-four world (plugin ∷ []) (agent ∷ []) to_agent to_plugin) ends)
    (c.pass-2.ensures three made_three)

use Rattle.std.proofs.Common.{◌≡◌, ℕ, ◌++◌, [], ◌∷◌, true, false, List, refl}
use Rattle.std.proofs.lemmas.Result.{err_from_is_err_and}
use Rattle.channel_core.specs.declared.call.EndCall.TheVariants as EndCall
use Rattle.lab_script.specs.declared.command.Action.TheVariants as Action
use Rattle.lab_script.specs.declared.verb.Verb.TheVariants as Verb
use Rattle.lab_script.specs.declared.word.Which.TheVariants as Which
use Rattle.lab_run.specs.Outcomes.{is_emission}
use Rattle.lab_run.specs.Steps.{Step, called, events_of, pass_steps, step_of}
use Rattle.lab_run.proofs.PassLemmas.{Adds-both, IsPair-then, Stops-both, Stops-front, turn-begins, turn-emits, turn-idle}
use Rattle.lab_run.proofs.exchange.turn.Goals as goal

pub returns-in_err-step-clause-printed : goal.returns-in_err-step-clause-printed
returns-in_err-step-clause-printed g c world is =
    let err = err_from_is_err_and c.from_residual.result c.from_residual.ensures.1 in
    let w = c.args.context.now.window in
    let begins =
    turn-begins w world c.args.context.now.moment c.args.context.now.line c.args.side in
    rw (err.1, err.2)
    (Stops-front _ begins.0 _ _ _ _ begins.1 (c.in_err-step.ensures.printed w world is))

pub returns-then-not-branch-clause-made : goal.returns-then-not-branch-clause-made
returns-then-not-branch-clause-made g c world is =
    let w = c.args.context.now.window in
    let call = EndCall.Pull c.args.context.now.moment in
    let pulled = called w world c.args.context.now.line Verb.Pull c.args.side call in
    let told : c.in_ok-step.field-0 ≡ is_emission pulled.outcome =
    c.in_ok-step.ensures.told w world is in
    let idle : is_emission pulled.outcome ≡ false = cc in
    let steps =
    turn-idle w world c.args.context.now.moment c.args.context.now.line c.args.side idle in
    rw steps (c.in_ok-step.ensures.made w world is)

pub returns-then-not-branch-clause-printed : goal.returns-then-not-branch-clause-printed
returns-then-not-branch-clause-printed g c world is =
    let w = c.args.context.now.window in
    let call = EndCall.Pull c.args.context.now.moment in
    let pulled = called w world c.args.context.now.line Verb.Pull c.args.side call in
    let told : c.in_ok-step.field-0 ≡ is_emission pulled.outcome =
    c.in_ok-step.ensures.told w world is in
    let idle : is_emission pulled.outcome ≡ false = cc in
    let steps =
    turn-idle w world c.args.context.now.moment c.args.context.now.line c.args.side idle in
    rw steps (c.in_ok-step.ensures.printed w world is)

pub returns-in_err-step-2-clause-printed : goal.returns-in_err-step-2-clause-printed
returns-in_err-step-2-clause-printed g c world is =
    let err = err_from_is_err_and c.from_residual-in_err-step-2.result
    c.from_residual-in_err-step-2.ensures.1 in
    let w = c.args.context.now.window in
    let call = EndCall.Pull c.args.context.now.moment in
    let pulled = called w world c.args.context.now.line Verb.Pull c.args.side call in
    let told : c.in_ok-step.field-0 ≡ is_emission pulled.outcome =
    c.in_ok-step.ensures.told w world is in
    let emits : is_emission pulled.outcome ≡ true = cc in
    let both =
    turn-emits w world c.args.context.now.moment c.args.context.now.line c.args.side _
    c.other.ensures emits in
    let made = c.in_ok-step.ensures.made w world is in
    rw (err.1, err.2)
    (Stops-both _ _ _ _ _ _ _ both (c.in_ok-step.ensures.printed w world is)
    (c.in_err-step-2.ensures.printed w (world ++ events_of (pulled ∷ [])) made))

pub returns-clause-made : goal.returns-clause-made
returns-clause-made g c world is =
    let w = c.args.context.now.window in
    let call = EndCall.Pull c.args.context.now.moment in
    let pulled = called w world c.args.context.now.line Verb.Pull c.args.side call in
    let told : c.in_ok-step.field-0 ≡ is_emission pulled.outcome =
    c.in_ok-step.ensures.told w world is in
    let emits : is_emission pulled.outcome ≡ true = cc in
    let both =
    turn-emits w world c.args.context.now.moment c.args.context.now.line c.args.side _
    c.other.ensures emits in
    let made = c.in_ok-step.ensures.made w world is in
    IsPair-then w world (pulled ∷ []) _ _ _ both
    (c.in_ok-step-2.ensures.made w (world ++ events_of (pulled ∷ [])) made)

pub returns-clause-printed : goal.returns-clause-printed
returns-clause-printed g c world is =
    let w = c.args.context.now.window in
    let call = EndCall.Pull c.args.context.now.moment in
    let pulled = called w world c.args.context.now.line Verb.Pull c.args.side call in
    let told : c.in_ok-step.field-0 ≡ is_emission pulled.outcome =
    c.in_ok-step.ensures.told w world is in
    let emits : is_emission pulled.outcome ≡ true = cc in
    let both =
    turn-emits w world c.args.context.now.moment c.args.context.now.line c.args.side _
    c.other.ensures emits in
    let made = c.in_ok-step.ensures.made w world is in
    Adds-both _ _ _ _ _ _ both (c.in_ok-step.ensures.printed w world is)
    (c.in_ok-step-2.ensures.printed w (world ++ events_of (pulled ∷ [])) made)

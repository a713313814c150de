use Rattle.std.proofs.Common.{◌≡◌, ℕ, ◌++◌, [], ◌∷◌, true, false, List, refl}
use Rattle.std.proofs.lemmas.Result.{err_from_is_err_and}
use Rattle.channel_core.specs.declared.call.EndCall.TheVariants as EndCall
use Rattle.lab_script.specs.declared.verb.Verb.TheVariants as Verb
use Rattle.lab_script.specs.declared.word.Which.TheVariants as Which
use Rattle.lab_run.specs.Outcomes.{is_emission}
use Rattle.lab_run.specs.Steps.{called, events_of}
use Rattle.lab_run.proofs.PassLemmas.{IsPair-then, turn-begins, turn-emits, turn-idle}
use Rattle.lab_journal.proofs.TextLemmas.{Adds-both, Stops-both, Stops-front}
use Rattle.lab_journal.proofs.recorder.Recorder.turn.Goals as goal

pub returns-in_err-step-clause-recorded : goal.returns-in_err-step-clause-recorded
returns-in_err-step-clause-recorded g c world is =
    let err = err_from_is_err_and c.from_residual.result c.from_residual.ensures.1 in
    let w = c.args.context.now.window in
    let call = EndCall.Pull c.args.context.now.moment in
    let pulled = called w world c.args.context.now.line Verb.Pull c.args.side call in
    let begins =
    turn-begins w world c.args.context.now.moment c.args.context.now.line c.args.side in
    rw (err.1, err.2)
    (Stops-front Which.Last world (pulled ∷ []) begins.0 _ _ _ _ begins.1
    (c.in_err-step.ensures.recorded w world is))

pub returns-then-not-branch-clause-recorded : goal.returns-then-not-branch-clause-recorded
returns-then-not-branch-clause-recorded g c world is =
    let w = c.args.context.now.window in
    let call = EndCall.Pull c.args.context.now.moment in
    let pulled = called w world c.args.context.now.line Verb.Pull c.args.side call in
    let told : c.in_ok-step.field-0 ≡ is_emission pulled.outcome =
    c.in_ok-step.ensures.told w world is in
    let idle : is_emission pulled.outcome ≡ false = cc in
    let steps =
    turn-idle w world c.args.context.now.moment c.args.context.now.line c.args.side idle in
    rw steps (c.in_ok-step.ensures.recorded w world is)

pub returns-in_err-step-2-clause-recorded : goal.returns-in_err-step-2-clause-recorded
returns-in_err-step-2-clause-recorded g c world is =
    let err = err_from_is_err_and c.from_residual-in_err-step-2.result
    c.from_residual-in_err-step-2.ensures.1 in
    let w = c.args.context.now.window in
    let call = EndCall.Pull c.args.context.now.moment in
    let pulled = called w world c.args.context.now.line Verb.Pull c.args.side call in
    let told : c.in_ok-step.field-0 ≡ is_emission pulled.outcome =
    c.in_ok-step.ensures.told w world is in
    let emits : is_emission pulled.outcome ≡ true = cc in
    let both =
    turn-emits w world c.args.context.now.moment c.args.context.now.line c.args.side _
    c.other.ensures emits in
    let made = c.in_ok-step.ensures.recorded w world is in
    rw (err.1, err.2)
    (Stops-both Which.Last world (pulled ∷ []) _ _ _ _ _ _ both made.1
    (c.in_err-step-2.ensures.recorded w (world ++ events_of (pulled ∷ [])) made.0))

pub returns-clause-recorded : goal.returns-clause-recorded
returns-clause-recorded g c world is =
    let w = c.args.context.now.window in
    let call = EndCall.Pull c.args.context.now.moment in
    let pulled = called w world c.args.context.now.line Verb.Pull c.args.side call in
    let told : c.in_ok-step.field-0 ≡ is_emission pulled.outcome =
    c.in_ok-step.ensures.told w world is in
    let emits : is_emission pulled.outcome ≡ true = cc in
    let both =
    turn-emits w world c.args.context.now.moment c.args.context.now.line c.args.side _
    c.other.ensures emits in
    let made = c.in_ok-step.ensures.recorded w world is in
    let more = c.in_ok-step-2.ensures.recorded w (world ++ events_of (pulled ∷ [])) made.0 in (
      IsPair-then w world (pulled ∷ []) _ _ _ both more.0,
      Adds-both Which.Last world (pulled ∷ []) _ _ _ _ _ both made.1 more.1,
    )

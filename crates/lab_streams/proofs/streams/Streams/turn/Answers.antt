use Rattle.std.proofs.Common.{◌≡◌, [], ◌∷◌, true, false, List, sym, subst}
use Rattle.std.proofs.lemmas.Result.{err_from_is_err_and}
use Rattle.channel_core.specs.declared.call.EndCall.TheVariants as EndCall
use Rattle.lab_script.specs.declared.verb.Verb.TheVariants as Verb
use Rattle.lab_run.specs.Outcomes.{is_emission}
use Rattle.lab_run.specs.Steps.{Step, called}
use Rattle.lab_run.proofs.PassLemmas.{turn-begins, turn-idle}
use Rattle.lab_streams.specs.Ends.{IsStreams}
use Rattle.lab_streams.proofs.PassLemmas.{IsStreams-fed, turn-fed}
use Rattle.lab_streams.proofs.PastLemmas.{past_then}
use Rattle.lab_streams.proofs.ReportLemmas.{Adds-fed, Stops-fed, Stops-fed-before}
use Rattle.lab_streams.proofs.streams.Streams.turn.Goals as goal

pub returns-in_err-step-clause-printed : goal.returns-in_err-step-clause-printed
returns-in_err-step-clause-printed g c past is =
    let err = err_from_is_err_and c.from_residual.result c.from_residual.ensures.1 in
    let w = c.args.context.now.window in
    let begins =
    turn-begins w past.events c.args.context.now.moment c.args.context.now.line c.args.side in
    rw (err.1, err.2, begins.1)
    (Stops-fed-before past _ begins.0 _ _ _ (c.in_err-step.ensures.printed w past is))

pub returns-then-not-branch-clause-made : goal.returns-then-not-branch-clause-made
returns-then-not-branch-clause-made g c past is =
    let w = c.args.context.now.window in
    let call = EndCall.Pull c.args.context.now.moment in
    let pulled = called w past.events c.args.context.now.line Verb.Pull c.args.side call in
    let told : c.in_ok-step.field-0 ≡ is_emission pulled.outcome =
    c.in_ok-step.ensures.told w past is in
    let idle : is_emission pulled.outcome ≡ false = cc in
    let steps =
    turn-idle w past.events c.args.context.now.moment c.args.context.now.line c.args.side idle in
    rw steps (c.in_ok-step.ensures.made w past is)

pub returns-then-not-branch-clause-printed : goal.returns-then-not-branch-clause-printed
returns-then-not-branch-clause-printed g c past is =
    let w = c.args.context.now.window in
    let call = EndCall.Pull c.args.context.now.moment in
    let pulled = called w past.events c.args.context.now.line Verb.Pull c.args.side call in
    let told : c.in_ok-step.field-0 ≡ is_emission pulled.outcome =
    c.in_ok-step.ensures.told w past is in
    let idle : is_emission pulled.outcome ≡ false = cc in
    let steps =
    turn-idle w past.events c.args.context.now.moment c.args.context.now.line c.args.side idle in
    rw steps (c.in_ok-step.ensures.printed w past is)

pub returns-in_err-step-2-clause-printed : goal.returns-in_err-step-2-clause-printed
returns-in_err-step-2-clause-printed g c past is =
    let err = err_from_is_err_and c.from_residual-in_err-step-2.result
    c.from_residual-in_err-step-2.ensures.1 in
    let w = c.args.context.now.window in
    let call = EndCall.Pull c.args.context.now.moment in
    let pulled = called w past.events c.args.context.now.line Verb.Pull c.args.side call in
    let told : c.in_ok-step.field-0 ≡ is_emission pulled.outcome =
    c.in_ok-step.ensures.told w past is in
    let emits : is_emission pulled.outcome ≡ true = cc in
    let both =
    turn-fed w past c.args.context.now.moment c.args.context.now.line c.args.side _
    c.other.ensures emits in
    let made = c.in_ok-step.ensures.made w past is in
    rw (err.1, err.2, both)
    (Stops-fed past (pulled ∷ []) _ _ _ _ _ (c.in_ok-step.ensures.printed w past is)
    (c.in_err-step-2.ensures.printed w (past_then past (pulled ∷ [])) made))

pub returns-clause-made : goal.returns-clause-made
returns-clause-made g c past is =
    let w = c.args.context.now.window in
    let call = EndCall.Pull c.args.context.now.moment in
    let pulled = called w past.events c.args.context.now.line Verb.Pull c.args.side call in
    let told : c.in_ok-step.field-0 ≡ is_emission pulled.outcome =
    c.in_ok-step.ensures.told w past is in
    let emits : is_emission pulled.outcome ≡ true = cc in
    let both =
    turn-fed w past c.args.context.now.moment c.args.context.now.line c.args.side _
    c.other.ensures emits in
    let made = c.in_ok-step.ensures.made w past is in
    subst (λ (xs : List Step). IsStreams w (past_then past xs) c.step-2.new.self) (sym both)
    (IsStreams-fed w past (pulled ∷ []) _ _
    (c.in_ok-step-2.ensures.made w (past_then past (pulled ∷ [])) made))

pub returns-clause-printed : goal.returns-clause-printed
returns-clause-printed g c past is =
    let w = c.args.context.now.window in
    let call = EndCall.Pull c.args.context.now.moment in
    let pulled = called w past.events c.args.context.now.line Verb.Pull c.args.side call in
    let told : c.in_ok-step.field-0 ≡ is_emission pulled.outcome =
    c.in_ok-step.ensures.told w past is in
    let emits : is_emission pulled.outcome ≡ true = cc in
    let both =
    turn-fed w past c.args.context.now.moment c.args.context.now.line c.args.side _
    c.other.ensures emits in
    let made = c.in_ok-step.ensures.made w past is in
    rw both
    (Adds-fed past (pulled ∷ []) _ _ _ _ (c.in_ok-step.ensures.printed w past is)
    (c.in_ok-step-2.ensures.printed w (past_then past (pulled ∷ [])) made))

use Rattle.std.proofs.Common.{◌≡◌, ℕ, ◌+◌, ◌*◌, ◌-◌, ◌<◌, suc, zero, List, true, false, sym, subst, arith}
use Rattle.std.proofs.lemmas.Result.{err_from_is_err_and}
use Rattle.channel_core.specs.declared.call.EndCall.TheVariants as EndCall
use Rattle.lab_script.specs.declared.verb.Verb.TheVariants as Verb
use Rattle.lab_run.specs.Outcomes.{is_emission}
use Rattle.lab_run.specs.Steps.{Step, called, pass_steps}
use Rattle.lab_streams.specs.Ends.{IsStreams}
use Rattle.lab_streams.proofs.PassLemmas.{IsStreams-fed, Passes-start, Passes-turn, Stops-turn, pass-ends, pass-over}
use Rattle.lab_streams.proofs.PastLemmas.{past_then}
use Rattle.lab_streams.proofs.ReportLemmas.{Adds-fed}
use Rattle.lab_streams.proofs.streams.Streams.pass.Goals as goal

-- a turn takes one of those that are left
left_after : (all made : ℕ) → made < all → all - made ≡ suc (all - (made + 1))
left_after all made less = omega (arith, less)

pub turns-init : goal.turns-init
turns-init g c past is =
    Passes-start c.args.context.now.window _ past c.args.context.now.moment
    c.args.context.now.line c.args.side _ c.args.self.now _ (omega arith) is

pub turns-preserved : goal.turns-preserved
turns-preserved g c past is =
    let w = c.args.context.now.window in
    let now = c.args.context.now.moment in
    let line = c.args.context.now.line in
    let all = 2 * w + 1 in
    let p = c.turns.invariant past is in
    let so_far = past_then past p.made in
    let pulled = called w so_far.events line Verb.Pull c.args.side (EndCall.Pull now) in
    let told : c.in_ok-turn.field-0 ≡ is_emission pulled.outcome =
    c.in_ok-turn.ensures.told so_far p.ends in
    let emits : is_emission pulled.outcome ≡ true = cc in
    Passes-turn w all past now line c.args.side _ _ _ _ _ _ _
    (left_after all c.turns.counter (omega arith)) p emits
    (c.in_ok-turn.ensures.made so_far p.ends)
    (c.in_ok-turn.ensures.printed so_far p.ends)

pub returns-in_err-turn-clause-printed : goal.returns-in_err-turn-clause-printed
returns-in_err-turn-clause-printed g c past is =
    let err = err_from_is_err_and c.from_residual.result c.from_residual.ensures.1 in
    let w = c.args.context.now.window in
    let now = c.args.context.now.moment in
    let line = c.args.context.now.line in
    let all = 2 * w + 1 in
    let p = c.turns.invariant past is in
    let so_far = past_then past p.made in
    rw (err.1, err.2)
    (Stops-turn w all past now line c.args.side _ _ _ _ _ _ _
    (left_after all c.turns.counter (omega arith)) p
    (c.in_err-turn.ensures.printed so_far p.ends))

-- the end was idle
pub returns-then-not-branch-clause-made : goal.returns-then-not-branch-clause-made
returns-then-not-branch-clause-made g c past is =
    let w = c.args.context.now.window in
    let now = c.args.context.now.moment in
    let line = c.args.context.now.line in
    let all = 2 * w + 1 in
    let p = c.turns.invariant past is in
    let so_far = past_then past p.made in
    let pulled = called w so_far.events line Verb.Pull c.args.side (EndCall.Pull now) in
    let told : c.in_ok-turn.field-0 ≡ is_emission pulled.outcome =
    c.in_ok-turn.ensures.told so_far p.ends in
    let idle : is_emission pulled.outcome ≡ false = cc in
    let steps =
    pass-ends w all past now line c.args.side _ _ _ _ _
    (left_after all c.turns.counter (omega arith)) p idle in
    subst (λ (xs : List Step). IsStreams w (past_then past xs) c.turn.new.self) (sym steps)
    (IsStreams-fed w past p.made (pass_steps 1 w so_far.events now line c.args.side) _
    (c.in_ok-turn.ensures.made so_far p.ends))

pub returns-then-not-branch-clause-printed : goal.returns-then-not-branch-clause-printed
returns-then-not-branch-clause-printed g c past is =
    let w = c.args.context.now.window in
    let now = c.args.context.now.moment in
    let line = c.args.context.now.line in
    let all = 2 * w + 1 in
    let p = c.turns.invariant past is in
    let so_far = past_then past p.made in
    let pulled = called w so_far.events line Verb.Pull c.args.side (EndCall.Pull now) in
    let told : c.in_ok-turn.field-0 ≡ is_emission pulled.outcome =
    c.in_ok-turn.ensures.told so_far p.ends in
    let idle : is_emission pulled.outcome ≡ false = cc in
    let steps =
    pass-ends w all past now line c.args.side _ _ _ _ _
    (left_after all c.turns.counter (omega arith)) p idle in
    rw steps
    (Adds-fed past p.made (pass_steps 1 w so_far.events now line c.args.side) _ _ _
    p.printed (c.in_ok-turn.ensures.printed so_far p.ends))

-- all turns were made
pub returns-clause-made : goal.returns-clause-made
returns-clause-made g c past is =
    let w = c.args.context.now.window in
    let now = c.args.context.now.moment in
    let line = c.args.context.now.line in
    let all = 2 * w + 1 in
    let p = c.turns.invariant past is in
    let over : all - c.turns.counter ≡ zero = omega arith in
    let steps = pass-over w all past now line c.args.side _ _ _ _ over p in
    subst (λ (xs : List Step). IsStreams w (past_then past xs) c.turns.self) (sym steps) p.ends

pub returns-clause-printed : goal.returns-clause-printed
returns-clause-printed g c past is =
    let w = c.args.context.now.window in
    let now = c.args.context.now.moment in
    let line = c.args.context.now.line in
    let all = 2 * w + 1 in
    let p = c.turns.invariant past is in
    let over : all - c.turns.counter ≡ zero = omega arith in
    let steps = pass-over w all past now line c.args.side _ _ _ _ over p in
    rw steps p.printed

use Rattle.std.proofs.Common.{◌≡◌, ℕ, ◌+◌, ◌*◌, ◌-◌, ◌<◌, suc, zero, List, ◌++◌, true, false, sym, subst, arith}
use Rattle.std.proofs.lemmas.Result.{err_from_is_err_and}
use Rattle.channel_core.specs.declared.call.EndCall.TheVariants as EndCall
use Rattle.lab_script.specs.declared.verb.Verb.TheVariants as Verb
use Rattle.lab_script.specs.declared.word.Which.TheVariants as Which
use Rattle.lab_run.specs.Ends.{IsPair}
use Rattle.lab_run.specs.Outcomes.{is_emission}
use Rattle.lab_run.specs.Steps.{Step, called, events_of, pass_steps}
use Rattle.lab_run.proofs.PassLemmas.{IsPair-then}
use Rattle.lab_journal.proofs.PassLemmas.{Passes-start, Passes-turn, Stops-turn, pass-ends, pass-over}
use Rattle.lab_journal.proofs.TextLemmas.{Adds-both}
use Rattle.lab_journal.proofs.recorder.Recorder.pass.Goals as goal

-- a turn takes one of those that are left
left_after : (all made : ℕ) → made < all → all - made ≡ suc (all - (made + 1))
left_after all made less = omega (arith, less)

pub turns-init : goal.turns-init
turns-init g c world is =
    Passes-start c.args.context.now.window _ world c.args.context.now.moment
    c.args.context.now.line c.args.side _ c.args.self.now.pair _ (omega arith) is

pub turns-preserved : goal.turns-preserved
turns-preserved g c world is =
    let w = c.args.context.now.window in
    let now = c.args.context.now.moment in
    let line = c.args.context.now.line in
    let all = 2 * w + 1 in
    let p = c.turns.invariant world is in
    let so_far = world ++ events_of p.made in
    let pulled = called w so_far line Verb.Pull c.args.side (EndCall.Pull now) in
    let told : c.in_ok-turn.field-0 ≡ is_emission pulled.outcome =
    c.in_ok-turn.ensures.told so_far p.ends in
    let emits : is_emission pulled.outcome ≡ true = cc in
    let made = c.in_ok-turn.ensures.recorded so_far p.ends in
    Passes-turn w all world now line c.args.side _ _ _ _ _ _ _
    (left_after all c.turns.counter (omega arith)) p emits made.0 made.1

pub returns-in_err-turn : goal.returns-in_err-turn
returns-in_err-turn g c world is =
    let err = err_from_is_err_and c.from_residual.result c.from_residual.ensures.1 in
    let w = c.args.context.now.window in
    let now = c.args.context.now.moment in
    let line = c.args.context.now.line in
    let all = 2 * w + 1 in
    let p = c.turns.invariant world is in
    let so_far = world ++ events_of p.made in
    rw (err.1, err.2)
    (Stops-turn w all world now line c.args.side _ _ _ _ _ _ _
    (left_after all c.turns.counter (omega arith)) p
    (c.in_err-turn.ensures.recorded so_far p.ends))

-- the end was idle
pub returns-then-not-branch : goal.returns-then-not-branch
returns-then-not-branch g c world is =
    let w = c.args.context.now.window in
    let now = c.args.context.now.moment in
    let line = c.args.context.now.line in
    let all = 2 * w + 1 in
    let p = c.turns.invariant world is in
    let so_far = world ++ events_of p.made in
    let pulled = called w so_far line Verb.Pull c.args.side (EndCall.Pull now) in
    let told : c.in_ok-turn.field-0 ≡ is_emission pulled.outcome =
    c.in_ok-turn.ensures.told so_far p.ends in
    let idle : is_emission pulled.outcome ≡ false = cc in
    let ends =
    pass-ends w all world now line c.args.side _ _ _ _ _
    (left_after all c.turns.counter (omega arith)) p idle in
    let made = c.in_ok-turn.ensures.recorded so_far p.ends in (
      IsPair-then w world p.made (pass_steps 1 w so_far now line c.args.side)
          (pass_steps all w world now line c.args.side) _ ends made.0,
      Adds-both Which.Last world p.made (pass_steps 1 w so_far now line c.args.side)
          (pass_steps all w world now line c.args.side) _ _ _ ends p.written made.1,
    )

-- all turns were made
pub returns : goal.returns
returns g c world is =
    let w = c.args.context.now.window in
    let now = c.args.context.now.moment in
    let line = c.args.context.now.line in
    let all = 2 * w + 1 in
    let p = c.turns.invariant world is in
    let over : all - c.turns.counter ≡ zero = omega arith in
    let steps = pass-over w all world now line c.args.side _ _ _ _ over p in
    rw steps (p.ends, p.written)

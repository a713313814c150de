use Rattle.std.proofs.Common.{◌≡◌, ℕ, ◌+◌, ◌*◌, ◌-◌, ◌<◌, suc, zero, [], ◌∷◌, ◌++◌, true, false, arith}
use Rattle.channel_core.specs.declared.call.EndCall.TheVariants as EndCall
use Rattle.lab_script.specs.declared.verb.Verb.TheVariants as Verb
use Rattle.lab_run.specs.Outcomes.{is_emission}
use Rattle.lab_run.specs.Steps.{called, events_of}
use Rattle.lab_gen.proofs.EndsLemmas.{Passes-idle, Passes-over, Passes-start, Passes-turn}
use Rattle.lab_gen.proofs.ends.Ends.pass.Goals as goal

-- a turn takes one of those that are left
left_after : (all made : ℕ) → made < all → all - made ≡ suc (all - (made + 1))
left_after all made less = omega (arith, less)

pub turns-init : goal.turns-init
turns-init c world is =
    Passes-start c.args.context.now.window _ world c.args.context.now.moment
    c.args.context.now.line c.args.side _ c.args.self.now (omega arith) is

pub turns-preserved : goal.turns-preserved
turns-preserved c world is =
    let w = c.args.context.now.window in
    let now = c.args.context.now.moment in
    let line = c.args.context.now.line in
    let all = 2 * w + 1 in
    let p = c.turns.invariant world is in
    let pulled = called w p.so_far line Verb.Pull c.args.side (EndCall.Pull now) in
    let told : c.in_ok-step.field-0 ≡ is_emission pulled.outcome =
    c.in_ok-step.ensures.told w p.so_far p.reached in
    let emits : is_emission pulled.outcome ≡ true = cc in
    Passes-turn w all world now line c.args.side _ _ _ _ _
    (left_after all c.turns.counter (omega arith)) c.other.ensures p emits
    (c.in_ok-step-2.ensures.made w (p.so_far ++ events_of (pulled ∷ []))
    (c.in_ok-step.ensures.made w p.so_far p.reached))

-- the end was idle
pub returns-then-not-branch : goal.returns-then-not-branch
returns-then-not-branch c world is =
    let w = c.args.context.now.window in
    let now = c.args.context.now.moment in
    let line = c.args.context.now.line in
    let all = 2 * w + 1 in
    let p = c.turns.invariant world is in
    let pulled = called w p.so_far line Verb.Pull c.args.side (EndCall.Pull now) in
    let told : c.in_ok-step.field-0 ≡ is_emission pulled.outcome =
    c.in_ok-step.ensures.told w p.so_far p.reached in
    let idle : is_emission pulled.outcome ≡ false = cc in
    Passes-idle w all world now line c.args.side _ _ _ _
    (left_after all c.turns.counter (omega arith)) p idle
    (c.in_ok-step.ensures.made w p.so_far p.reached)

-- all turns were made
pub returns : goal.returns
returns c world is =
    let w = c.args.context.now.window in
    let all = 2 * w + 1 in
    let over : all - c.turns.counter ≡ zero = omega arith in
    Passes-over w all world c.args.context.now.moment c.args.context.now.line c.args.side _ _
    over (c.turns.invariant world is)

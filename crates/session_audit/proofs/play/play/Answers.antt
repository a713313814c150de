use Rattle.std.proofs.Common.{◌+◌, ◌-◌, ◌<◌, Bool, [], arith, cond, length, subst, sym}
use Rattle.session_audit.proofs.TurnLemmas.{both_new, smaller}
use Rattle.session_audit.proofs.play.play.Goals as goal

pub loop-going-init : goal.loop-going-init
loop-going-init c = (
  [],
  both_new c.args.window c.args.sayings.now c.in_ok-plugin.plugin c.in_ok-agent.agent
      c.in_ok-plugin.ensures c.in_ok-agent.ensures,
  λ stops. cc,
)

pub loop-going-preserved : goal.loop-going-preserved
loop-going-preserved c =
    let x = c.loop-going.invariant in
    let y = c.in_ok-going.ensures c.args.window x.0 x.1 in
    (y.0, y.1, y.4)

pub loop-going-smaller : goal.loop-going-smaller
loop-going-smaller c =
    let x = c.loop-going.invariant in
    let y = c.in_ok-going.ensures c.args.window x.0 x.1 in
    let n = length c.args.sayings.now + length c.args.sayings.now in
    let old = c.loop-going.plugin.next + c.loop-going.agent.next in
    let new = c.turn.new.plugin.next + c.turn.new.agent.next in
    let p = y.1.plugin_played.within in
    let a = y.1.agent_played.within in
    subst
    (λ (b : Bool). n - new + cond c.in_ok-going.going 1 0 < n - old + cond b 1 0)
    (sym c.loop-going-test.true)
    (smaller n old new c.in_ok-going.going y.2 y.3 (omega (arith, p, a)))

pub returns : goal.returns
returns c =
    let x = c.loop-going.invariant in
    (x.0, x.1, x.2 c.loop-going-test.false)

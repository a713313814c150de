use Rattle.std.proofs.Common.{Bool, ◌||◌, ap, subst, sym, ◌∙◌}
use Rattle.session_audit.specs.Halting.{Turns}
use Rattle.session_audit.proofs.TurnLemmas.{turned}
use Rattle.session_audit.proofs.play.turn.Goals as goal

pub returns-then-first : goal.returns-then-first
returns-then-first c =
    let p = c.args.plugin.now in
    let a = c.args.agent.now in
    let q = c.go_on.new.self in
    let b = c.go_on-2.new.self in
    let second = c.in_ok-second.second in
    subst
    (Turns c.args.sayings.now p a q b)
    (ap (λ (x : Bool). x || second) c.if-first.true ∙ sym c.if-first.true)
    (turned c.args.sayings.now p a q b c.in_ok-first.first second c.in_ok-first.ensures
    c.in_ok-second.ensures)

pub returns-else-first : goal.returns-else-first
returns-else-first c =
    let p = c.args.plugin.now in
    let a = c.args.agent.now in
    let q = c.go_on.new.self in
    let b = c.go_on-2.new.self in
    let second = c.in_ok-second.second in
    subst
    (Turns c.args.sayings.now p a q b)
    (ap (λ (x : Bool). x || second) c.if-first.false)
    (turned c.args.sayings.now p a q b c.in_ok-first.first second c.in_ok-first.ensures
    c.in_ok-second.ensures)

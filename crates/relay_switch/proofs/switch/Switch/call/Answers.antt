use Rattle.std.proofs.Common.{sym, subst}
use Rattle.relay_switch.specs.declared.switch_call.SwitchAnswer.{SwitchAnswer}
use Rattle.relay_switch.specs.declared.switch_call.SwitchCall.{SwitchCall}
use Rattle.relay_switch.specs.Lines.{line_in}
use Rattle.relay_switch.specs.Switching.{SwitchFollows}
use Rattle.relay_switch.proofs.StepLemmas.{SameSwitch-then, none-left, takes-same}
use Rattle.relay_switch.proofs.SwitchLemmas.{goes-done, goes-idle, goes-next, goes-starved}
use Rattle.relay_switch.proofs.switch.Switch.call.Goals as goal

pub idle-requires : goal.idle-requires
idle-requires c = none-left _ _ _ c.in-None.ensures

pub returns-in-Ok : goal.returns-in-Ok
returns-in-Ok c =
    let s = c.in-Step in
    subst (λ call. SwitchFollows c.args.self.now c.step.new.self call SwitchAnswer.Done) (sym s.is)
    (goes-done _ _ s.event s.id s.now c.in-Ok.ensures.ok)

pub returns-in-Err : goal.returns-in-Err
returns-in-Err c =
    let s = c.in-Step in
    subst (λ call. SwitchFollows c.args.self.now c.step.new.self call SwitchAnswer.NoMemory)
    (sym s.is)
    (goes-starved _ _ s.event s.id s.now c.in-Err.ensures.err)

pub returns-in-Some : goal.returns-in-Some
returns-in-Some c =
    let t = c.in-Take in
    subst
    (λ call. SwitchFollows c.args.self.now c.take.new.self call
    (SwitchAnswer.Next c.in-Some.action)) (sym t.is)
    (goes-next _ _ t.conn c.in-Some.action c.in-Some.ensures)

pub returns-in-None : goal.returns-in-None
returns-in-None c =
    let t = c.in-Take in
    let takes = c.in-None.ensures in
    let mid = takes-same _ _ t.conn takes in
    subst (λ call. SwitchFollows c.args.self.now c.idle.new.self call c.idle.result) (sym t.is)
    (subst (SwitchFollows c.args.self.now c.idle.new.self (SwitchCall.Take t.conn))
    (sym c.idle.ensures.answer)
    (goes-idle c.args.self.now c.idle.new.self t.conn
    (line_in c.take.new.self.lines t.conn).is_open takes.first
    (mid.waits.is_open t.conn)
    (SameSwitch-then _ _ _ mid c.idle.ensures.same)))

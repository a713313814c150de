use Rattle.std.proofs.Common.{ap, refl, subst, sym, ◌∙◌}
use Rattle.relay_switch.specs.Lines.{waiting_in}
use Rattle.relay_switch.specs.Steps.{SameSwitch}
use Rattle.relay_switch.specs.Switching.{SwitchState}
use Rattle.relay_switch.proofs.StepLemmas.{WaitsSame-lines, line-empty, same-switch}
use Rattle.relay_switch.proofs.SwitchLemmas.{SameSwitch-refl}
use Rattle.relay_switch.proofs.switch.Switch.idle.Goals as goal

pub forget_line-requires : goal.forget_line-requires
forget_line-requires c =
    let in_ = c.self.inside in
    line-empty in_.lines.entries in_.added.items c.args.conn
    (ap (λ (s : SwitchState). waiting_in s.lines s.added c.args.conn) c.self.view_is ∙ c.requires)
    (sym c.is_open.ensures ∙ c.if-is_open.false)

pub returns-then-is_open-clause-same : goal.returns-then-is_open-clause-same
returns-then-is_open-clause-same c = SameSwitch-refl _

pub returns-clause-same : goal.returns-clause-same
returns-clause-same c =
    let in_ = c.self.inside in
    let old : SwitchState = record {
      relay = in_.relay;
      lines = in_.lines.entries;
      added = in_.added.items;
      opened = in_.opened.keys;
    } in
    let new : SwitchState = record old { lines = c.forget_line.new.lines.entries } in
    subst (λ (s : SwitchState). SameSwitch s new) c.self.view_is
    (same-switch old new (λ es stands. stands)
    (WaitsSame-lines _ _ in_.added.items c.forget_line.ensures)
    (λ n. refl))

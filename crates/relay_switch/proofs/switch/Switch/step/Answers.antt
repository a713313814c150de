use Rattle.std.proofs.Common.{List, inr, ap, refl, sym, subst, ◌∙◌}
use Rattle.relay_switch.specs.Steps.{SameSwitch, StepsOrNot}
use Rattle.relay_switch.specs.Switching.{SwitchState, is_among}
use Rattle.relay_switch.proofs.StepLemmas.{WaitsSame-lines, WaitsSame-then, on-err, same-switch, steps-by, taken-back}
use Rattle.relay_switch.proofs.switch.Switch.step.Goals as goal

pub returns-in_err-settle-clause-err : goal.returns-in_err-settle-clause-err
returns-in_err-settle-clause-err c =
    let in_ = c.self.inside in
    let old : SwitchState = record {
      relay = in_.relay;
      lines = in_.lines.entries;
      added = in_.added.items;
      opened = in_.opened.keys;
    } in
    let new : SwitchState = record old {
      lines = c.settle.new.lines.entries;
      added = c.settle.new.added.items;
    } in
    on-err _
    (subst (λ (s : SwitchState). SameSwitch s new) c.self.view_is
    (same-switch old new (λ es stands. stands) c.settle.ensures.same (λ n. refl)))

pub returns-in_err-make_room-clause-err : goal.returns-in_err-make_room-clause-err
returns-in_err-make_room-clause-err c =
    let in_ = c.self.inside in
    let old : SwitchState = record {
      relay = in_.relay;
      lines = in_.lines.entries;
      added = in_.added.items;
      opened = in_.opened.keys;
    } in
    let new : SwitchState = record old {
      lines = c.make_room.new.lines.entries;
      added = c.settle.new.added.items;
    } in
    on-err _
    (subst (λ (s : SwitchState). SameSwitch s new) c.self.view_is
    (same-switch old new (λ es stands. stands)
    (WaitsSame-then _ _ _ _ _ _ c.settle.ensures.same
    (WaitsSame-lines _ _ c.settle.new.added.items c.make_room.ensures.same))
    (λ n. refl)))

pub returns-in_err-let_in-clause-err : goal.returns-in_err-let_in-clause-err
returns-in_err-let_in-clause-err c =
    let in_ = c.self.inside in
    let old : SwitchState = record {
      relay = in_.relay;
      lines = in_.lines.entries;
      added = in_.added.items;
      opened = in_.opened.keys;
    } in
    let new : SwitchState = record {
      relay = in_.relay;
      lines = c.make_room.new.lines.entries;
      added = c.settle.new.added.items;
      opened = c.let_in.new.opened.keys;
    } in
    on-err _
    (subst (λ (s : SwitchState). SameSwitch s new) c.self.view_is
    (same-switch old new (λ es stands. stands)
    (WaitsSame-then _ _ _ _ _ _ c.settle.ensures.same
    (WaitsSame-lines _ _ c.settle.new.added.items c.make_room.ensures.same))
    (λ n. ap (λ (ns : List _). is_among ns n) c.in_err-let_in.ensures.err)))

pub returns-in-Ok-clause-ok : goal.returns-in-Ok-clause-ok
returns-in-Ok-clause-ok c =
    let in_ = c.self.inside in
    let old : SwitchState = record {
      relay = in_.relay;
      lines = in_.lines.entries;
      added = in_.added.items;
      opened = in_.opened.keys;
    } in
    let new : SwitchState = record {
      relay = c.step.new.self;
      lines = c.open_by.new.lines.entries;
      added = c.added_by.result.items;
      opened = c.let_in.new.opened.keys;
    } in
    subst (λ (s : SwitchState). StepsOrNot s c.args.event c.args.id c.args.now new) c.self.view_is
    (inr (
      sym c.is_known.ensures ∙ c.if-is_known.false,
      steps-by old new c.args.event c.args.id c.args.now c.in-Ok.told
          c.settle.new.lines.entries c.make_room.new.lines.entries c.settle.new.added.items
          c.change_of-change.result c.is_binary-forwards.result
          c.change_of-change.ensures c.is_binary-forwards.ensures
          (λ es stands fresh. (c.in-Ok.ensures es stands).0 fresh)
          c.settle.ensures.same c.in_ok-settle.ensures.done c.make_room.ensures.same
          c.open_by.ensures c.added_by.ensures c.in_ok-let_in.ensures.ok,
    ))

pub returns-in-Err-clause-err : goal.returns-in-Err-clause-err
returns-in-Err-clause-err c =
    let in_ = c.self.inside in
    let old : SwitchState = record {
      relay = in_.relay;
      lines = in_.lines.entries;
      added = in_.added.items;
      opened = in_.opened.keys;
    } in
    let new : SwitchState = record {
      relay = c.step.new.self;
      lines = c.make_room.new.lines.entries;
      added = c.settle.new.added.items;
      opened = c.take_back.new.opened.keys;
    } in
    subst (λ (s : SwitchState). SameSwitch s new) c.self.view_is
    (same-switch old new (λ es stands. (c.in-Err.ensures es stands).1)
    (WaitsSame-then _ _ _ _ _ _ c.settle.ensures.same
    (WaitsSame-lines _ _ c.settle.new.added.items c.make_room.ensures.same))
    (taken-back in_.opened.keys c.let_in.new.opened.keys c.take_back.new.opened.keys c.args.event
    c.change_of-change.result c.change_of-change.ensures
    (sym c.is_known.ensures ∙ c.if-is_known.false)
    c.in_ok-let_in.ensures.ok c.take_back.ensures))

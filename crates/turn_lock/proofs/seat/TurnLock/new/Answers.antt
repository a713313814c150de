use Rattle.std.proofs.Common.{◌≡◌, ◌∷◌, [], List, rules, subst, sym, ap, Some, None}
use Rattle.turn_lock.specs.declared.view.Locked.{Locked}
use Rattle.atomic_table.specs.Table.{opening}
use Rattle.turn_lock.specs.Views.{first_view}
use Rattle.turn_lock.specs.Rule.{Slot}
use Rattle.turn_lock.proofs.RuleLemmas.{Rule}
use Rattle.turn_lock.proofs.TableLemmas.{opens}
use Rattle.turn_lock.proofs.seat.TurnLock.new.Goals as goal

pub new-requires : goal.new-requires
new-requires g c =
    let x : Locked g.row.V.Denot g.row.V-Call.Denot g.row.V-Answer.Denot =
    record { value = c.args.value; last = None } in
    let key = c.of-about.ensures in
    let setting = g.V.Turn.setting c.of-about.result.value in
    let items : c.push.new.self.items ≡ Some x ∷ [] = search rules in
    let kept = opens g.V.Turn setting x
    (subst (λ (v : g.row.V.Denot). g.V.Turn.legal (g.V.Turn.setting v) []) (sym key) c.requires.legal)
    c.requires.fresh
    (ap g.V.Turn.setting (sym key)) in
    let Slots = List (Slot g.row.V.Denot g.row.V-Call.Denot g.row.V-Answer.Denot) in
    let Opened = λ (l : Slots). Rule g.V.Turn setting (opening (0 ∷ 0 ∷ []) l (first_view setting)) in
    subst Opened (sym items) kept

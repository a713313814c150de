use Rattle.std.proofs.Common.{rules, ◌≡◌, ◌∷◌, [], subst, sym, ap, ◌∙◌, refl, Some}
use Rattle.atomic_table.specs.Table.{rest}
use Rattle.turn_lock.specs.declared.view.Locked.{Locked}
use Rattle.turn_lock.specs.Rule.{StandsFor}
use Rattle.turn_lock.specs.Views.{with_call, IsWhole}
use Rattle.turn_lock.proofs.AdvanceLemmas.{advances}
use Rattle.turn_lock.proofs.seat.TurnLock.end.Goals as goal

pub fetch_add-served-requires : goal.fetch_add-served-requires
fetch_add-served-requires g c =
    let x : Locked g.row.V.Denot g.row.V-Call.Denot g.row.V-Answer.Denot = record {
      value = c.args.value;
      last = Some c.args.last;
    } in
    let v = c.args.inner.now.me.0 in
    let turn = c.requires.turn in
    let given : c.exchange.new.seat.me ≡ (v, (0, Some x) ∷ []) =
    c.exchange.ensures.3 ∙ (λ i. (v, (0, Some x) ∷ ap rest turn.2 i)) in
    let stands : StandsFor g.V.Turn.legal g.V.Turn.stands g.V.Turn.setting v.setting (with_call v c.args.last).seen x
    = record { value_stands = c.requires.stands; value_set = c.requires.setting } in (
      search rules,
      search rules,
      rw given (advances g.V.Turn _ _ _ (v, (0, Some x) ∷ []) turn.0 x c.args.last turn.1 refl refl c.requires.legal stands),
    )

pub returns-clause-entered : goal.returns-clause-entered
returns-clause-entered g c =
    let x : Locked g.row.V.Denot g.row.V-Call.Denot g.row.V-Answer.Denot = record {
      value = c.args.value;
      last = Some c.args.last;
    } in
    let v = c.args.inner.now.me.0 in
    let given : c.exchange.new.seat.me ≡ (v, (0, Some x) ∷ []) =
    c.exchange.ensures.3 ∙ (λ i. (v, (0, Some x) ∷ ap rest c.requires.turn.2 i)) in
    (c.fetch_add-served.ensures.2 x c.args.last (ap (λ m. m.1) given) refl).0
    ∙ ap (λ m. (with_call m.0 c.args.last, [])) given

pub returns-clause-own : goal.returns-clause-own
returns-clause-own g c =
    let x : Locked g.row.V.Denot g.row.V-Call.Denot g.row.V-Answer.Denot = record {
      value = c.args.value;
      last = Some c.args.last;
    } in
    let v = c.args.inner.now.me.0 in
    let given : c.exchange.new.seat.me ≡ (v, (0, Some x) ∷ []) =
    c.exchange.ensures.3 ∙ (λ i. (v, (0, Some x) ∷ ap rest c.requires.turn.2 i)) in
    (c.fetch_add-served.ensures.2 x c.args.last (ap (λ m. m.1) given) refl).1

pub returns-clause-whole : goal.returns-clause-whole
returns-clause-whole g c =
    let x : Locked g.row.V.Denot g.row.V-Call.Denot g.row.V-Answer.Denot = record {
      value = c.args.value;
      last = Some c.args.last;
    } in
    let v = c.args.inner.now.me.0 in
    let given : c.exchange.new.seat.me ≡ (v, (0, Some x) ∷ []) =
    c.exchange.ensures.3 ∙ (λ i. (v, (0, Some x) ∷ ap rest c.requires.turn.2 i)) in
    let entered = c.fetch_add-served.ensures.2 x c.args.last (ap (λ m. m.1) given) refl in
    λ all. entered.2 (subst (λ m. IsWhole m.0.share) (sym given) all)

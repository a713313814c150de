use Rattle.std.proofs.Common.{◌≡◌, sym, ap, subst, ◌∙◌, Some}
use mathlib.Core.Option.{some-injective}
use Rattle.turn_lock.specs.Histories.{calls_of}
use Rattle.turn_lock.proofs.TableLemmas.{closes}
use Rattle.turn_lock.proofs.seat.TurnLock.take_apart.Goals as goal

pub unreachable-requires : goal.unreachable-requires
unreachable-requires g c =
    let found = (closes g.V.Turn _ _ _ _ _ c.requires.ready c.close_with-closed.ensures.values.2).1 in
    let is : c.take.result ≡ Some found.0 = some-injective _ _ (sym c.take.ensures.value ∙ found.1) in
    let none_is = c.in_default.is in cc

pub returns-clause-value : goal.returns-clause-value
returns-clause-value g c =
    let found = (closes g.V.Turn _ _ _ _ _ c.requires.ready c.close_with-closed.ensures.values.2).1 in
    let is : c.take.result ≡ Some found.0 = some-injective _ _ (sym c.take.ensures.value ∙ found.1) in
    let some_is = c.in-Some.is in
    let same : found.0 ≡ c.in-Some.locked = cc in
    subst (λ x. g.V.Turn.stands x.value (calls_of c.args.inner.me.0.seen)) same found.2.value_stands

pub returns-clause-legal : goal.returns-clause-legal
returns-clause-legal g c = (closes g.V.Turn _ _ _ _ _ c.requires.ready c.close_with-closed.ensures.values.2).0

pub returns-clause-setting : goal.returns-clause-setting
returns-clause-setting g c =
    let found = (closes g.V.Turn _ _ _ _ _ c.requires.ready c.close_with-closed.ensures.values.2).1 in
    let is : c.take.result ≡ Some found.0 = some-injective _ _ (sym c.take.ensures.value ∙ found.1) in
    let some_is = c.in-Some.is in
    let same : found.0 ≡ c.in-Some.locked = cc in
    ap (λ x. g.V.Turn.setting x.value) (sym same) ∙ found.2.value_set

pub returns-clause-whole : goal.returns-clause-whole
returns-clause-whole g c = (closes g.V.Turn _ _ _ _ _ c.requires.ready c.close_with-closed.ensures.values.2).2

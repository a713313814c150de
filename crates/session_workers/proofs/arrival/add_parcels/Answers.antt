use Rattle.std.proofs.Common.{◌≡◌, ◌∙◌, List, [], ◌∷◌, ◌++◌, ap, map, refl, sym, subst, append_assoc, arith}
use Rattle.std.proofs.lemmas.List.{append-nil}
use Rattle.std.specs.Vec.Iter.{into_iter_items}
use Rattle.chan_values.specs.declared.item.Item.{Item}
use Rattle.session_run.specs.Adds.{AddsCalls}
use Rattle.session_run.proofs.AddsLemmas.{AddsCalls-none, AddsCalls-then}
use Rattle.session_workers.specs.Reading.{added_call}
use Rattle.session_workers.proofs.ReaderLemmas.{added-of, added-push, finish_added, finish_lacks, item_lacks, items_added, none_left, parcel_of}
use Rattle.session_workers.proofs.arrival.add_parcels.Goals as goal

pub loop-item-init : goal.loop-item-init
loop-item-init g c = (tt, tt, [], refl, AddsCalls-none _)

pub loop-item-preserved : goal.loop-item-preserved
loop-item-preserved g c =
    let m = c.loop-item.invariant in
    let adds =
    AddsCalls-then _ _ _ _ _ m.4 (added-of _ _ _ _ _ c.if-not-add.false c.add.ensures) in (
      tt,
      tt,
      m.2 ++ c.in-Some.item ∷ [],
      m.3 ∙ ap (λ l. m.2 ++ l) c.in-Some.ensures.steps.0
          ∙ sym (append_assoc m.2 (c.in-Some.item ∷ []) _),
      subst (λ l. AddsCalls c.args.seat.now l c.add.new.seat) (added-push m.2 c.in-Some.item) adds,
    )

pub add-requires : goal.add-requires
add-requires g c = c.loop-item.invariant.4.same_seat.same_lock ∙ c.requires

pub returns-then-not-add : goal.returns-then-not-add
returns-then-not-add g c =
    let m = c.loop-item.invariant in
    let given :
    into_iter_items c.into_iter-item-iterator.result ≡ c.into_vec-item-items.result.items =
    c.into_iter-item-iterator.ensures.into_iter_gives.0 in
    let is =
    sym c.into_vec-item-items.ensures ∙ sym given ∙ m.3
    ∙ ap (λ l. m.2 ++ l) c.in-Some.ensures.steps.0 in
    let a = item_lacks c.args.items m.2 _ c.in-Some.item c.args.last is in
    let adds =
    AddsCalls-then _ _ _ _ _ m.4 (added-of _ _ _ _ _ c.if-not-add.true c.add.ensures) in (
      a.added,
      record {
        calls = subst (λ l. AddsCalls c.args.seat.now l c.add.new.seat) a.are adds;
        over = a.end;
      },
    )

pub returns-then-not-last : goal.returns-then-not-last
returns-then-not-last g c =
    let m = c.loop-item.invariant in
    let given :
    into_iter_items c.into_iter-item-iterator.result ≡ c.into_vec-item-items.result.items =
    c.into_iter-item-iterator.ensures.into_iter_gives.0 in
    let none =
    none_left _ (omega (arith, c.in-None.ensures.steps.0, c.loop-item.item-iterator.rest.ok)) in
    let is : c.args.items ≡ m.2 =
    sym c.into_vec-item-items.ensures ∙ sym given ∙ m.3
    ∙ ap (λ l. m.2 ++ l) none ∙ append-nil m.2 in
    let a = items_added c.args.items c.args.last c.if-not-last.true in
    let adds =
    subst (λ (l : List Item). AddsCalls c.args.seat.now (map added_call (map parcel_of l))
    c.loop-item.seat) (sym is) m.4 in (
      a.added,
      record {
        calls = subst (λ l. AddsCalls c.args.seat.now l c.loop-item.seat) a.are adds;
        over = a.end;
      },
    )

pub add-requires-2 : goal.add-requires-2
add-requires-2 g c = c.loop-item.invariant.4.same_seat.same_lock ∙ c.requires

pub returns-then-not-add-2 : goal.returns-then-not-add-2
returns-then-not-add-2 g c =
    let m = c.loop-item.invariant in
    let given :
    into_iter_items c.into_iter-item-iterator.result ≡ c.into_vec-item-items.result.items =
    c.into_iter-item-iterator.ensures.into_iter_gives.0 in
    let none =
    none_left _ (omega (arith, c.in-None.ensures.steps.0, c.loop-item.item-iterator.rest.ok)) in
    let is : c.args.items ≡ m.2 =
    sym c.into_vec-item-items.ensures ∙ sym given ∙ m.3
    ∙ ap (λ l. m.2 ++ l) none ∙ append-nil m.2 in
    let a = finish_lacks c.args.items c.args.last c.if-not-last.false in
    let all =
    subst (λ (l : List Item). AddsCalls c.args.seat.now (map added_call (map parcel_of l))
    c.loop-item.seat) (sym is) m.4 in
    let adds =
    AddsCalls-then _ _ _ _ _ all (added-of _ _ _ _ _ c.if-not-add-2.true c.add-2.ensures) in (
      a.added,
      record {
        calls = subst (λ l. AddsCalls c.args.seat.now l c.add-2.new.seat) a.are adds;
        over = a.end;
      },
    )

pub returns : goal.returns
returns g c =
    let m = c.loop-item.invariant in
    let given :
    into_iter_items c.into_iter-item-iterator.result ≡ c.into_vec-item-items.result.items =
    c.into_iter-item-iterator.ensures.into_iter_gives.0 in
    let none =
    none_left _ (omega (arith, c.in-None.ensures.steps.0, c.loop-item.item-iterator.rest.ok)) in
    let is : c.args.items ≡ m.2 =
    sym c.into_vec-item-items.ensures ∙ sym given ∙ m.3
    ∙ ap (λ l. m.2 ++ l) none ∙ append-nil m.2 in
    let a = finish_added c.args.items c.args.last c.if-not-last.false in
    let all =
    subst (λ (l : List Item). AddsCalls c.args.seat.now (map added_call (map parcel_of l))
    c.loop-item.seat) (sym is) m.4 in
    let adds =
    AddsCalls-then _ _ _ _ _ all (added-of _ _ _ _ _ c.if-not-add-2.false c.add-2.ensures) in (
      a.added,
      record {
        calls = subst (λ l. AddsCalls c.args.seat.now l c.add-2.new.seat) a.are adds;
        over = a.end;
      },
    )

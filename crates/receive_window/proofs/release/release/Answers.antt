use Rattle.std.proofs.Common.{◌≡◌, ℕ, ◌+◌, ◌≤◌, ◌<◌, ◌++◌, ◌∷◌, [], List, Some, ap, sym, ◌∙◌, arith, append_assoc, append-nil, ⊎_elim}
use Rattle.std.proofs.lemmas.Bool.{cases_lt}
use Rattle.chan_values.specs.declared.item.Item.{Item}
use Rattle.slot_ring.specs.Ring.{Ring, without}
use Rattle.receive_window.specs.Inside.{from_number}
use Rattle.receive_window.specs.Window.{item_with, items_in_order}
use Rattle.receive_window.proofs.ItemLemmas.{above_next, from_number-all, from_number-next, item_with-before, item_with-from, items_in_order-more, items_in_order-none, not_some}
use Rattle.receive_window.proofs.release.release.Goals as goal

pub releasing-init : goal.releasing-init
releasing-init c =
    let early = c.args.early.now in
    let above = above_next early c.base-number.ensures.sound c.requires.missing in
    rw c.base-number.ensures.value (record {
      within = let above = c.requires.above in omega arith;
      room = let room = c.requires.room in omega arith;
      items = sym (ap (λ (l : List Item). c.args.items.now.items ++ l)
          (items_in_order-none early.held (early.base + 1)) ∙ append-nil c.args.items.now.items);
      rest = ap (λ (es : List (ℕ × Item)).
          record { base = early.base; capacity = early.capacity; held = es })
          (sym (from_number-all (early.base + 1) early.held
          (λ k d below. let more = above k d below in omega arith)));
    })

pub unreachable-requires : goal.unreachable-requires
unreachable-requires c =
    let early = c.args.early.now in
    let number = c.releasing.number in
    let base = c.base-number.ensures.value in
    let low = c.releasing.auto.number in
    let none = sym c.remove.ensures.removed ∙ c.in_default.is in
    let here = sym (item_with-from number number early.held (omega arith))
    ∙ sym (ap (λ (r : Ring Item). item_with r.held number) c.releasing.invariant.rest) ∙ none in
    not_some (item_with early.held number) here
    (c.requires.there number (omega arith) c.releasing-test.true)

pub releasing-preserved : goal.releasing-preserved
releasing-preserved c =
    let early = c.args.early.now in
    let number = c.releasing.number in
    let item = c.in-Some.item in
    let kept = c.releasing.invariant in
    let base = c.base-number.ensures.value in
    let low = c.releasing.auto.number in
    let found : item_with early.held number ≡ Some item =
    sym (item_with-from number number early.held (omega arith))
    ∙ sym (ap (λ (r : Ring Item). item_with r.held number) kept.rest)
    ∙ sym c.in-Some.ensures.removed in
    record {
      within = let less = c.releasing-test.true in omega arith;
      room = let room = kept.room in let less = c.releasing-test.true in
          omega (arith, c.push_reserved.ensures.len, c.push_reserved.ensures.capacity);
      items = c.push_reserved.ensures.items
          ∙ ap (λ (l : List Item). l ++ item ∷ []) kept.items
          ∙ append_assoc c.args.items.now.items
          (items_in_order early.held (early.base + 1) number) (item ∷ [])
          ∙ ap (λ (l : List Item). c.args.items.now.items ++ l)
          (sym (items_in_order-more early.held (early.base + 1) number item (omega arith) found));
      rest = c.remove.ensures.state
          ∙ ap (λ (r : Ring Item).
          record { base = r.base; capacity = r.capacity; held = without r.held number }) kept.rest
          ∙ ap (λ (es : List (ℕ × Item)).
          record { base = early.base; capacity = early.capacity; held = es })
          (from_number-next number early.held);
    }

pub returns-clause-rest : goal.returns-clause-rest
returns-clause-rest c =
    let early = c.args.early.now in
    let kept = c.releasing.invariant in
    let state = c.skip.ensures.state in
    let held = ap (λ (r : Ring Item). r.held) state ∙ ap (λ (r : Ring Item). r.held) kept.rest in
    let base = ap (λ (r : Ring Item). r.base) kept.rest in
    let low = c.skip.ensures.low in
    let high = c.skip.ensures.high in
    let above = c.requires.above in
    let there : c.releasing.number ≡ c.args.to =
    let end = c.releasing-test.false in let within = kept.within in omega arith in
    let up : c.skip.new.self.base ≡ c.args.to = ⊎_elim
    (λ (less : c.skip.new.self.base < c.args.to).
    absurd (not_some (item_with c.skip.new.self.held c.skip.new.self.base)
    (ap (λ (es : List (ℕ × Item)). item_with es c.skip.new.self.base) held
    ∙ item_with-before c.releasing.number c.skip.new.self.base early.held (omega arith))
    (c.skip.ensures.first less)))
    (λ (more : c.args.to ≤ c.skip.new.self.base). omega arith)
    (cases_lt c.skip.new.self.base c.args.to) in
    state
    ∙ ap (λ (n : ℕ).
    record { base = n; capacity = c.releasing.early.capacity; held = c.releasing.early.held }) up
    ∙ ap (λ (r : Ring Item). record { base = c.args.to; capacity = r.capacity; held = r.held })
    kept.rest
    ∙ ap (λ (n : ℕ). record {
      base = c.args.to;
      capacity = early.capacity;
      held = from_number n early.held;
    }) there

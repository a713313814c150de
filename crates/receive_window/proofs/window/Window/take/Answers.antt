use Rattle.std.proofs.Common.{◌≡◌, ◌≢◌, ℕ, ◌+◌, ◌^◌, ◌<◌, ◌≤◌, List, [], ◌∷◌, ◌++◌, filter, leb, ltb, sym, ap, ◌∙◌, arith, refl, subst, ⊎_elim}
use Rattle.std.proofs.lemmas.Bool.{cases_lt, ne_eqb}
use Rattle.std.proofs.lemmas.List.Elements.{All-append, All-cons, All-filter}
use Rattle.std.proofs.lemmas.List.Kept.{AllPairs-filter}
use Rattle.std.specs.Option.{IsSome}
use Rattle.chan_values.specs.declared.item.Item.{Item}
use Rattle.slot_ring.specs.Ring.{Ring}
use Rattle.receive_window.specs.Inside.{from_number}
use Rattle.receive_window.specs.Window.{WindowState, is_last_among, item_with, items_in_order, last_with}
use Rattle.receive_window.proofs.ItemLemmas.{above_next, absent, copied-some, eqb-turned, item_with-before, item_with-from, next_small, numbers-found, numbers_differ}
use Rattle.receive_window.proofs.ReleaseLemmas.{Releases-early, Releases-next_at, in_order-taken, late-not_beyond}
use Rattle.receive_window.proofs.window.Window.take.Goals as goal
use Rattle.receive_window.proofs.window.Window.take.Goals.{then-seq-expected-via-then-seq-expected, then-seq-expected-via-else-seq-expected+then-is_some}

pub returns-then-seq-expected-clause-beyond : goal.returns-then-seq-expected-clause-beyond
returns-then-seq-expected-clause-beyond c =
    let inside = c.self.inside in
    let early = inside.early in
    let sound = c.self.invariant in
    let near : c.args.seq < early.base + inside.window = elim c.then-seq-expected.branch [
      | then-seq-expected-via-then-seq-expected w ↦
          let low = w.if-seq-expected.true in
          let base = c.base-expected.ensures.value in
          let some = sound.narrow in omega arith
      | then-seq-expected-via-else-seq-expected+then-is_some w ↦
          let there = numbers-found (λ k. k < early.base + early.capacity) early.held c.args.seq
          (λ k d below. (c.base-expected.ensures.sound.within k d below).1)
          (subst IsSome w.get.ensures
          (copied-some w.get.result (sym w.is_some.ensures ∙ w.if-is_some.true))) in
          let room = sound.room in omega arith
    ] in
    let below : c.args.seq < c.args.self.now.expected + c.args.self.now.window =
    subst (λ (v : WindowState). c.args.seq < v.expected + v.window) c.self.view_is near in
    ((λ is. absurd (late-not_beyond is)), (λ far. absurd (omega (arith, below, far))))

pub invariant_of-self : goal.invariant_of-self
invariant_of-self c =
    let inside = c.self.inside in
    let early = inside.early in
    let sound = c.self.invariant in
    let state = c.set-none.ensures.state in
    let base = ap (λ (r : Ring Item). r.base) state in
    let held = ap (λ (r : Ring Item). r.held) state in
    let ahead = c.if-ahead-gt0.true in
    let differ : early.base ≢ c.args.seq = λ same. (let at = c.base-expected.ensures.value in
    omega arith) in
    record {
      narrow = sound.narrow;
      wide = sound.wide;
      numbers = rw base sound.numbers;
      missing = rw base
          (c.set-none.ensures.found early.base
          ∙ rw (ne_eqb early.base c.args.seq differ) sound.missing);
      small = rw held
          (All-append (λ (e : ℕ × Item). e.0 < 2 ^ 63)
          (filter (λ (e : ℕ × Item). ltb e.0 c.args.seq) early.held)
          ((c.args.seq, c.args.item) ∷ filter (λ (e : ℕ × Item). ltb c.args.seq e.0) early.held)
          (All-filter (λ (e : ℕ × Item). ltb e.0 c.args.seq) (λ (e : ℕ × Item). e.0 < 2 ^ 63)
          early.held sound.small)
          (All-cons (λ (e : ℕ × Item). e.0 < 2 ^ 63) (c.args.seq, c.args.item)
          (filter (λ (e : ℕ × Item). ltb c.args.seq e.0) early.held) c.requires
          (All-filter (λ (e : ℕ × Item). ltb c.args.seq e.0) (λ (e : ℕ × Item). e.0 < 2 ^ 63)
          early.held sound.small)));
      room = ap (λ (r : Ring Item). r.capacity) state ∙ sound.room;
    }

pub returns-then-ahead-gt0-clause-taken : goal.returns-then-ahead-gt0-clause-taken
returns-then-ahead-gt0-clause-taken c =
    let inside = c.self.inside in
    let early = inside.early in
    let base = ap (λ (r : Ring Item). r.base) c.set-none.ensures.state in
    let above = above_next early c.base-expected.ensures.sound c.self.invariant.missing in
    rw (← c.self.view_is, c.none.ensures, base, c.last_with-end.ensures)
    (Releases-early inside.window early.base c.args.seq c.args.item early.held
    c.set-none.new.self.held inside.last (last_with inside.last c.args.seq c.args.last)
    (let ahead = c.if-ahead-gt0.true in let at = c.base-expected.ensures.value in omega arith)
    (λ k some. numbers-found (λ n. early.base < n) early.held k above some)
    (λ k. c.set-none.ensures.found k ∙ rw (eqb-turned c.args.seq k) refl)
    (numbers_differ c.set-none.new.self.held c.set-none.ensures.sound.ascending))

pub release-requires-clause-small : goal.release-requires-clause-small
release-requires-clause-small c =
    next_small c.args.seq c.next_free-next.result c.self.inside.early.held c.requires
    c.self.invariant.small c.next_free-next.ensures.passed

pub invariant_of-self-2 : goal.invariant_of-self-2
invariant_of-self-2 c =
    let early = c.self.inside.early in
    let sound = c.self.invariant in
    let next = c.next_free-next.result in
    rw c.release.ensures.rest (record {
      narrow = sound.narrow;
      wide = sound.wide;
      numbers = next_small c.args.seq next early.held c.requires sound.small
          c.next_free-next.ensures.passed;
      missing = item_with-from next next early.held (omega arith) ∙ c.next_free-next.ensures.free;
      small = All-filter (λ (e : ℕ × Item). leb next e.0) (λ (e : ℕ × Item). e.0 < 2 ^ 63)
          early.held sound.small;
      room = sound.room;
    })

pub returns-clause-taken : goal.returns-clause-taken
returns-clause-taken c =
    let inside = c.self.inside in
    let early = inside.early in
    let next = c.next_free-next.result in
    let at = c.base-expected.ensures.value in
    let low = c.next_free-next.ensures.low in
    let here : c.args.seq ≡ early.base =
    let above = c.if-seq-expected.false in let below = c.if-ahead-gt0.false in omega arith in
    let above = above_next early c.base-expected.ensures.sound c.self.invariant.missing in
    let list : c.release.new.items.items
    ≡ c.args.item ∷ items_in_order early.held (c.args.seq + 1) next =
    c.release.ensures.items
    ∙ ap (λ (l : List Item). l ++ items_in_order early.held (early.base + 1) next)
    (c.push_reserved.ensures.items
    ∙ ap (λ (l : List Item). l ++ c.args.item ∷ []) c.in-Ok.ensures.items)
    ∙ ap (λ (n : ℕ). c.args.item ∷ items_in_order early.held (n + 1) next) (sym here) in
    let end = last_with inside.last c.args.seq c.args.last in
    rw (
      ← c.self.view_is,
      c.in_order.ensures,
      c.new.ensures,
      c.is_last_among.ensures,
      c.last_with-end.ensures,
      at,
      c.release.ensures.rest,
    )
    (in_order-taken (is_last_among end early.base next) c.release.new.items.items _
    (Releases-next_at inside.window early.base c.args.seq next c.args.item
    c.release.new.items.items early.held (from_number next early.held) inside.last
    end here
    (λ k some. numbers-found (λ n. early.base < n) early.held k above some) low list
    c.next_free-next.ensures.passed c.next_free-next.ensures.free
    (λ k beyond. ⊎_elim
    (λ (old : k < c.args.seq + 1).
    item_with-before next k early.held (omega arith)
    ∙ sym (absent (item_with early.held k) (λ some.
    let more = numbers-found (λ n. early.base < n) early.held k above some in omega arith)))
    (λ (more : c.args.seq + 1 ≤ k). item_with-from next k early.held (beyond more))
    (cases_lt k (c.args.seq + 1)))
    (λ k from below. item_with-before next k early.held below)
    (numbers_differ (from_number next early.held)
    (AllPairs-filter (λ (e f : ℕ × Item). e.0 < f.0) (λ (e : ℕ × Item). leb next e.0) early.held
    c.base-expected.ensures.sound.ascending))))

pub returns-clause-different : goal.returns-clause-different
returns-clause-different c =
    let early = c.self.inside.early in
    let next = c.next_free-next.result in
    rw c.release.ensures.rest
    (numbers_differ (from_number next early.held)
    (AllPairs-filter (λ (e f : ℕ × Item). e.0 < f.0) (λ (e : ℕ × Item). leb next e.0) early.held
    c.base-expected.ensures.sound.ascending))

-- What the take of a message releases and keeps.
use Rattle.std.proofs.Common.{◌≡◌, ℕ, ◌+◌, ◌-◌, ◌<◌, ◌≤◌, suc, Bool, true, false, cond, Option, Some, None, List, [], ◌∷◌, ⊎_elim, refl, sym, ap, subst, ◌∙◌, arith, eqb}
use Rattle.std.specs.Option.{IsSome}
use Rattle.std.specs.List.{filter_map, range_with_len}
use Rattle.std.proofs.lemmas.Bool.{cases_eq, cases_lt, eq-eqb, le-leb, le-ltb, lt-leb, lt-ltb, ne_eqb}
use Rattle.chan_values.specs.declared.item.Item.{Item}
use Rattle.receive_window.specs.declared.take.Take.TheVariants as takes
use Rattle.receive_window.specs.Window.{AreDifferent, IfTaken, Releases, is_last_among, item_with, items_in_order}
use Rattle.receive_window.proofs.ItemLemmas.{absent, filter_map-agree, item_with-cons, items_in_order-none, present}

-- no message stands from a bound up to itself
none_among : (end : Option ℕ) (e : ℕ) → false ≡ is_last_among end e e
none_among None e = refl
none_among (Some m) e =
    ⊎_elim
    (λ (below : m < e). rw (lt-leb e m below) refl)
    (λ (from : e ≤ m). rw (le-leb e m from, le-ltb m e from) refl)
    (cases_lt m e)

-- an early item releases nothing
pub Releases-early : (w e n : ℕ) (item : Item) (early new : List (ℕ × Item))
    (before end : Option ℕ)
    → e < n
    → ((k : ℕ) → IsSome (item_with early k) → e < k)
    → ((k : ℕ) → item_with new k ≡ cond (eqb n k) (Some item) (item_with early k))
    → AreDifferent new
    → Releases (record { window = w; expected = e; early = early; last = before })
    ((n, item) ∷ early) end [] false
    (record { window = w; expected = e; early = new; last = end })
Releases-early w e n item early new before end ahead above updated different =
    record {
      window = refl;
      grows = omega arith;
      there = λ k low high. absurd (omega arith);
      missing = item_with-cons early n e item
          ∙ rw (ne_eqb n e (λ q. omega arith)) (gap e (omega arith));
      released = sym (items_in_order-none ((n, item) ∷ early) e);
      early = λ k. updated k ∙ ⊎_elim
          (λ (low : k < e). rw (ne_eqb n k (λ q. omega arith), lt-ltb k e low)
          (gap k (omega arith)))
          (λ (high : e ≤ k). rw (le-ltb k e high) (sym (item_with-cons early n k item)))
          (cases_lt k e);
      different = different;
      last = refl;
      finished = none_among end e;
    }
  where
    gap : (k : ℕ) → k ≤ e → item_with early k ≡ None
    gap k low = absent (item_with early k) (λ some. let more = above k some in omega arith)

-- the next number releases its item and those that follow it
pub Releases-next : (w e to : ℕ) (item : Item) (items : List Item) (early new : List (ℕ × Item))
    (before end : Option ℕ)
    → ((k : ℕ) → IsSome (item_with early k) → e < k)
    → e + 1 ≤ to → items ≡ item ∷ items_in_order early (e + 1) to
    → ((k : ℕ) → e + 1 ≤ k → k < to → IsSome (item_with early k)) → item_with early to ≡ None
    → ((k : ℕ) → (e + 1 ≤ k → to ≤ k) → item_with new k ≡ item_with early k)
    → ((k : ℕ) → e + 1 ≤ k → k < to → item_with new k ≡ None)
    → AreDifferent new
    → Releases (record { window = w; expected = e; early = early; last = before })
    ((e, item) ∷ early) end items (is_last_among end e to)
    (record { window = w; expected = to; early = new; last = end })
Releases-next w e to item items early new before end above grows list there missing rest gone different =
    record {
      window = refl;
      grows = omega arith;
      there = λ k low high. ⊎_elim
          (λ (same : e ≡ k). present (item_with ((e, item) ∷ early) k) item
          (item_with-cons early e k item ∙ rw (eq-eqb e k same) refl))
          (λ (differ : e ≡ k → ⊥). subst IsSome (sym (other k differ)) (there k (omega arith) high))
          (cases_eq e k);
      missing = other to (λ q. omega arith) ∙ missing;
      released = list ∙ sym first;
      early = λ k. ⊎_elim
          (λ (low : k < to). rw (lt-ltb k to low) (below k low))
          (λ (high : to ≤ k). rw (le-ltb k to high)
          (rest k (λ _. high) ∙ sym (other k (λ q. omega arith))))
          (cases_lt k to);
      different = different;
      last = refl;
      finished = refl;
    }
  where
    other : (k : ℕ) → (e ≡ k → ⊥) → item_with ((e, item) ∷ early) k ≡ item_with early k
    other k differ = item_with-cons early e k item ∙ rw (ne_eqb e k differ) refl

    below : (k : ℕ) → k < to → item_with new k ≡ None
    below k low = ⊎_elim
        (λ (old : k < e + 1). rest k (λ q. absurd (omega arith))
        ∙ absent (item_with early k) (λ some. let more = above k some in omega arith))
        (λ (more : e + 1 ≤ k). gone k more low)
        (cases_lt k (e + 1))

    first : items_in_order ((e, item) ∷ early) e to ≡ item ∷ items_in_order early (e + 1) to
    first =
        let count : to - e ≡ suc (to - (e + 1)) = omega arith in
        ap (λ (n : ℕ). filter_map (item_with ((e, item) ∷ early)) (range_with_len e n)) count
        ∙ rw (eq-eqb e e refl)
        (ap (λ (l : List Item). item ∷ l)
        (filter_map-agree (item_with ((e, item) ∷ early)) (item_with early) (e + 1)
        (to - (e + 1)) (λ k low high. other k (λ q. omega arith))))

-- the same, of a number that is the next one
pub Releases-next_at : (w e n to : ℕ) (item : Item) (items : List Item)
    (early new : List (ℕ × Item)) (before end : Option ℕ)
    → n ≡ e
    → ((k : ℕ) → IsSome (item_with early k) → e < k)
    → n + 1 ≤ to → items ≡ item ∷ items_in_order early (n + 1) to
    → ((k : ℕ) → n + 1 ≤ k → k < to → IsSome (item_with early k)) → item_with early to ≡ None
    → ((k : ℕ) → (n + 1 ≤ k → to ≤ k) → item_with new k ≡ item_with early k)
    → ((k : ℕ) → n + 1 ≤ k → k < to → item_with new k ≡ None)
    → AreDifferent new
    → Releases (record { window = w; expected = e; early = early; last = before })
    ((n, item) ∷ early) end items (is_last_among end e to)
    (record { window = w; expected = to; early = new; last = end })
Releases-next_at w e n to item items early new before end here above grows list there missing rest gone
    different =
    rw here (Releases-next w e to item items early new before end above (omega arith) (rw (← here) list)
    (λ k low. there k (omega arith)) missing (λ k beyond. rest k (λ low. beyond (omega arith)))
    (λ k low. gone k (omega arith)) different)

-- ---- the answers

-- a late message isn't beyond
pub late-not_beyond : takes.Late ≡ takes.Beyond → ⊥
late-not_beyond is = cc

-- what holds of the items that are in order, finished or not, holds of the answer
pub in_order-taken : (finished : Bool) (items : List Item) (P : List Item → Bool → Type 0)
    → P items finished
    → IfTaken (cond finished (takes.Finished items) (takes.Released items)) P
in_order-taken true items P holds = holds
in_order-taken false items P holds = holds

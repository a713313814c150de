-- The invariant of a queue after each call that changes it.
use Rattle.std.proofs.Common.{◌≡◌, ◌≢◌, ℕ, ◌+◌, ◌^◌, ◌<◌, ◌≤◌, max, Bool, true, false, cond, not, Some, eqb, ⊎_elim, sym, ◌∙◌, arith}
use Rattle.std.specs.Option.{IsSome}
use Rattle.std.proofs.lemmas.Bool.{cases_lt}
use Rattle.std.proofs.lemmas.List.Elements.{All-filter, All-map, All-push, All-weaker}
use Rattle.slot_ring.specs.Ring.{IsRing, Ring, value_with, with_value, without}
use Rattle.resend_queue.specs.declared.slot.Slot.{Slot}
use Rattle.resend_queue.specs.Inside.{IsKept, IsRetransmissionQueue}
use Rattle.resend_queue.proofs.HeldLemmas.{All-found, value_with-changed, value_with-kept, value_with-put, value_with-without, with_value-held, with_value-last}
use Rattle.resend_queue.proofs.QueueLemmas.{below_next}

-- a queue whose fields keep to the invariant, before a call and after it
module _ (window next cursor : ℕ) (due : Bool) (dues : ℕ) (r : Ring Slot) where
  -- a queue whose cursor passed numbers without slots
  pub sound-passed : (to : ℕ)
      → IsRetransmissionQueue window next cursor due dues r
      → cursor ≤ to
      → to ≤ next
      → IsRetransmissionQueue window next to due dues r
  sound-passed to sound on within =
      record {
        narrow = sound.narrow;
        wide = sound.wide;
        numbers = sound.numbers;
        span = sound.span;
        begun = let begun = sound.begun in omega arith;
        passed = within;
        lowest = sound.lowest;
        kept = sound.kept;
        marked = sound.marked;
        marks = sound.marks;
        room = sound.room;
      }

  -- one from which a message went out
  pub sound-transmitted : (seq now : ℕ) (old new : Slot) (after : Ring Slot)
      → IsRing r
      → IsRetransmissionQueue window next cursor due dues r
      → value_with r.held seq ≡ Some old
      → new ≡ record old { emitted = Some now }
      → after ≡ record r { held = with_value r.held seq new }
      → IsRetransmissionQueue window next (max cursor (seq + 1)) false dues after
  sound-transmitted seq now old new after ring sound found is state =
      let change : ℕ × Slot → ℕ × Slot = λ e. cond (eqb e.0 seq) (seq, new) e in
      let own = All-found (IsKept next) seq old r.held sound.kept found in
      let begun = sound.begun in
      let passed = sound.passed in
      let below = own.below in
      rw (state, with_value-held seq old new r.held ring.ascending found) (record {
        narrow = sound.narrow;
        wide = sound.wide;
        numbers = sound.numbers;
        span = sound.span;
        begun = omega arith;
        passed = omega arith;
        lowest = λ some. value_with-changed r.base seq new r.held (sound.lowest some);
        kept = All-map (IsKept next) change r.held
            (All-weaker (IsKept next) (λ e. IsKept next (change e)) (each own) r.held sound.kept);
        marked = λ no. absurd (unlike no);
        marks = sound.marks;
        room = sound.room;
      })
    where
      unlike : false ≡ true → ⊥
      unlike is = cc

      each : IsKept next (seq, old)
          → (e : ℕ × Slot)
          → IsKept next e
          → IsKept next (cond (eqb e.0 seq) (seq, new) e)
      each own e kept = elim (eqb e.0 seq) as (λ b. IsKept next (cond b (seq, new) e)) [
        | true ↦ rw is (record { below = own.below; dated = own.dated; short = own.short })
        | false ↦ kept
      ]

  -- one into which a message was put
  pub sound-put : (slot : Slot) (after : Ring Slot)
      → IsRing r
      → IsRetransmissionQueue window next cursor due dues r
      → IsKept (next + 1) (next, slot)
      → next + 1 < 2 ^ 63
      → next + 1 ≤ r.base + window
      → after.base ≡ r.base
      → after.capacity ≡ window
      → after.held ≡ with_value r.held next slot
      → IsRetransmissionQueue window (next + 1) cursor due dues after
  sound-put slot after ring sound new numbers span base room held =
      let begun = sound.begun in
      let passed = sound.passed in
      let list = held ∙ with_value-last next slot r.held
      (below_next window next cursor due dues false r sound.kept) in
      record {
        narrow = sound.narrow;
        wide = sound.wide;
        numbers = numbers;
        span = omega arith;
        begun = omega arith;
        passed = omega arith;
        lowest = λ some. rw (base, list) (⊎_elim
            (λ (old : r.base < next).
            value_with-kept r.base next slot r.held (sound.lowest old))
            (λ (end : next ≤ r.base). let same : r.base ≡ next = omega arith in
            rw same (value_with-put next slot r.held))
            (cases_lt r.base next));
        kept = rw list
            (All-push (IsKept (next + 1)) r.held (next, slot)
            (All-weaker (IsKept next) (IsKept (next + 1))
            (λ e kept. record {
              below = let below = kept.below in omega arith;
              dated = kept.dated;
              short = kept.short;
            }) r.held sound.kept) new);
        marked = λ m. let some = sound.marked m in omega arith;
        marks = sound.marks;
        room = room;
      }

  -- one in which a higher number was acknowledged
  pub sound-without : (n : ℕ) (after : Ring Slot)
      → IsRetransmissionQueue window next cursor due dues r
      → n ≢ r.base
      → after ≡ record r { held = without r.held n }
      → IsRetransmissionQueue window next cursor due dues after
  sound-without n after sound higher state =
      rw state (record {
        narrow = sound.narrow;
        wide = sound.wide;
        numbers = sound.numbers;
        span = sound.span;
        begun = sound.begun;
        passed = sound.passed;
        lowest = λ some.
            rw (value_with-without r.base n r.held (λ same. higher (sym same))) (sound.lowest some);
        kept = All-filter (λ (e : ℕ × Slot). not (eqb e.0 n)) (IsKept next) r.held sound.kept;
        marked = sound.marked;
        marks = sound.marks;
        room = sound.room;
      })

  -- one in which the lowest number was, and the base has moved
  pub sound-risen : (n : ℕ) (after : Ring Slot)
      → IsRetransmissionQueue window next cursor due dues r
      → r.base ≤ after.base
      → after.base ≤ next
      → (after.base < next → IsSome (value_with after.held after.base))
      → after.capacity ≡ r.capacity
      → after.held ≡ without r.held n
      → IsRetransmissionQueue window next (max cursor after.base) false 0 after
  sound-risen n after sound up within first room held =
      let span = sound.span in
      let passed = sound.passed in
      record {
        narrow = sound.narrow;
        wide = sound.wide;
        numbers = sound.numbers;
        span = omega arith;
        begun = omega arith;
        passed = omega arith;
        lowest = first;
        kept = rw held
            (All-filter (λ (e : ℕ × Slot). not (eqb e.0 n)) (IsKept next) r.held sound.kept);
        marked = λ no. absurd (unlike no);
        marks = omega arith;
        room = rw room sound.room;
      }
    where
      unlike : false ≡ true → ⊥
      unlike is = cc

-- Slots of a ring: which numbers share one, and what a write of one slot changes.
use Rattle.std.proofs.Common.{◌≡◌, ◌⊎◌, ℕ, ◌+◌, ◌*◌, ◌/◌, ◌%◌, ◌^◌, ◌<◌, ◌≤◌, zero, suc, Bool, true, false, cond, not, Option, Some, None, is_some, List, [], length, get_or, replicate, set, eqb, ⊎_elim, refl, sym, ap, subst, ◌∙◌, arith}
use Rattle.std.proofs.lemmas.Bool.{cases_eq, cases_lt, eq-eqb, ne_eqb}
use Rattle.std.proofs.lemmas.List.{get_or-replicate, get_or-set_same, get_or-set_other, get_or_read}
use Rattle.std.proofs.Math.Nat.{mod-lt}
use mir.Val.{bool_byte}
use Rattle.slot_ring.specs.Inside.{IsSound, numbered, slot_at}
use Rattle.slot_ring.specs.Ring.{IsRing, Ring, empty_ring, value_with, with_value, without}
use Rattle.slot_ring.proofs.NumberedLemmas.{length-numbered, numbered-ascending, numbered-longer, numbered-pass, numbered-set, numbered-within, numbered-without, one_if, value_with-below, value_with-numbered, value_with-past, without-outside}

-- of two numbers less than a capacity apart, only equal ones share a slot
one_apart : (k n c : ℕ) → 0 < c → n ≤ k → k < n + c → k % c ≡ n % c → k ≡ n
one_apart k n c some low high same =
    let first : c * (k / c) + k % c ≡ k = omega arith in
    let second : c * (n / c) + n % c ≡ n = omega arith in
    ⊎_elim
    (λ (less : n / c < k / c).
    let more : c * (n / c + 1) ≤ c * (k / c) = grind arith in absurd (grind arith))
    (λ (most : k / c ≤ n / c). let fewer : c * (k / c) ≤ c * (n / c) = grind arith in omega arith)
    (cases_lt (n / c) (k / c))

-- two numbers of one range of that length share no slot
pub apart : (k n a c : ℕ) → a ≤ k → k < a + c → a ≤ n → n < a + c → k % c ≡ n % c → k ≡ n
apart k n a c klow khigh nlow nhigh same =
    ⊎_elim
    (λ (below : k < n). sym (one_apart n k c (omega arith) (omega arith) (omega arith) (sym same)))
    (λ (above : n ≤ k). one_apart k n c (omega arith) above (omega arith) same)
    (cases_lt k n)

-- the number past a range has the slot of the first
pub around : (a c : ℕ) → 0 < c → (a + c) % c ≡ a % c
around a c some = grind arith

module _ {T : Type 0} where
  -- the number of a test that a slot has a value
  pub bool_byte-is_some : (b : Bool) (o : Option T) → b ≡ is_some o → bool_byte b ≡ one_if o
  bool_byte-is_some b o is = rw is (by_case (is_some o))
    where
      by_case : (s : Bool) → bool_byte s ≡ cond s 1 0
      by_case true = refl
      by_case false = refl

  -- and of one that it has none
  pub bool_byte-is_none : (b : Bool) (o : Option T)
      → is_some o ≡ not b
      → bool_byte b + one_if o ≡ 1
  bool_byte-is_none b o is = rw is (by_case b)
    where
      by_case : (s : Bool) → bool_byte s + cond (not s) 1 0 ≡ 1
      by_case true = refl
      by_case false = refl

  -- a write of the slot of a number gives that number the value
  pub slot_at-set_same : (slots : List (Option T)) (c n : ℕ) (o : Option T)
      → 0 < c
      → length slots ≡ c
      → slot_at c (set slots (n % c) o) n ≡ o
  slot_at-set_same slots c n o some sized =
      let within : n % c < length slots = rw sized (mod-lt n some) in
      get_or-set_same slots (n % c) o None within

  -- and no other number of the range
  pub slot_at-set_other : (slots : List (Option T)) (c a n k : ℕ) (o : Option T)
      → a ≤ n
      → n < a + c
      → a ≤ k
      → k < a + c
      → (k ≡ n → ⊥)
      → slot_at c (set slots (n % c) o) k ≡ slot_at c slots k
  slot_at-set_other slots c a n k o nlow nhigh klow khigh differ =
      get_or-set_other slots (n % c) (k % c) o None
      (λ same. differ (apart k n a c klow khigh nlow nhigh same))

  -- what a slot has is the value with its number
  pub value_with-slot : (slots : List (Option T)) (c base n at : ℕ) (o : Option T)
      → length slots ≡ c
      → base ≤ n
      → n < base + c
      → at ≡ n % c
      → o ≡ get_or slots at o
      → o ≡ value_with (numbered (slot_at c slots) base c) n
  value_with-slot slots c base n at o sized low high is read =
      let within : n % c < length slots = rw sized (mod-lt n (omega arith)) in
      get_or_read slots (n % c) o within (read ∙ ap (λ (i : ℕ). get_or slots i o) is) None
      ∙ sym (value_with-numbered (slot_at c slots) base c n low high)

  -- a number outside has no value
  pub value_with-outside : (slots : List (Option T)) (c base n : ℕ)
      → (n < base) ⊎ (base + c ≤ n)
      → None ≡ value_with (numbered (slot_at c slots) base c) n
  value_with-outside slots c base n outside = sym (⊎_elim
      (λ (below : n < base). value_with-below (slot_at c slots) base c n below)
      (λ (past : base + c ≤ n). value_with-past (slot_at c slots) base c n past)
      outside)

  -- nor anything to remove
  pub without-no_room : (slots : List (Option T)) (c base n : ℕ)
      → (n < base) ⊎ (base + c ≤ n)
      → numbered (slot_at c slots) base c ≡ without (numbered (slot_at c slots) base c) n
  without-no_room slots c base n outside =
      sym (without-outside (slot_at c slots) base c n
      (λ k low high same. ⊎_elim (λ (below : n < base). omega arith)
      (λ (past : base + c ≤ n). omega arith) outside))

  -- the values after a write of the slot of a number
  pub numbered-written : (slots : List (Option T)) (c base n at : ℕ) (v : T)
      → length slots ≡ c
      → base ≤ n
      → n < base + c
      → at ≡ n % c
      → numbered (slot_at c (set slots at (Some v))) base c
      ≡ with_value (numbered (slot_at c slots) base c) n v
  numbered-written slots c base n at v sized low high is =
      ap (λ (i : ℕ). numbered (slot_at c (set slots i (Some v))) base c) is
      ∙ numbered-set (slot_at c (set slots (n % c) (Some v))) (slot_at c slots) base c n v low high
      (slot_at-set_same slots c n (Some v) (omega arith) sized)
      (λ k from to differ. slot_at-set_other slots c base n k (Some v) low high from to differ)

  -- and what is found then
  pub value_with-written : (slots : List (Option T)) (c base n at : ℕ) (v : T)
      → length slots ≡ c
      → base ≤ n
      → n < base + c
      → at ≡ n % c
      → (k : ℕ)
      → value_with (numbered (slot_at c (set slots at (Some v))) base c) k
      ≡ cond (eqb k n) (Some v) (value_with (numbered (slot_at c slots) base c) k)
  value_with-written slots c base n at v sized low high is k =
      ap (λ (i : ℕ). value_with (numbered (slot_at c (set slots i (Some v))) base c) k) is
      ∙ ⊎_elim
      (λ (here : k ≡ n). rw (here, eq-eqb n n refl)
      (value_with-numbered (slot_at c (set slots (n % c) (Some v))) base c n low high
      ∙ slot_at-set_same slots c n (Some v) (omega arith) sized))
      (λ (differ : k ≡ n → ⊥). rw (ne_eqb k n differ) (other differ))
      (cases_eq k n)
    where
      other : (k ≡ n → ⊥)
          → value_with (numbered (slot_at c (set slots (n % c) (Some v))) base c) k
          ≡ value_with (numbered (slot_at c slots) base c) k
      other differ =
          ⊎_elim
          (λ (below : k < base).
          value_with-below (slot_at c (set slots (n % c) (Some v))) base c k below
          ∙ sym (value_with-below (slot_at c slots) base c k below))
          (λ (from : base ≤ k).
          ⊎_elim
          (λ (in' : k < base + c).
          value_with-numbered (slot_at c (set slots (n % c) (Some v))) base c k from in'
          ∙ slot_at-set_other slots c base n k (Some v) low high from in' differ
          ∙ sym (value_with-numbered (slot_at c slots) base c k from in'))
          (λ (past : base + c ≤ k).
          value_with-past (slot_at c (set slots (n % c) (Some v))) base c k past
          ∙ sym (value_with-past (slot_at c slots) base c k past))
          (cases_lt k (base + c)))
          (cases_lt k base)

  -- the values after the slot of a number was cleared
  pub numbered-cleared : (slots : List (Option T)) (c base n at : ℕ)
      → length slots ≡ c
      → base ≤ n
      → n < base + c
      → at ≡ n % c
      → numbered (slot_at c (set slots at None)) base c
      ≡ without (numbered (slot_at c slots) base c) n
  numbered-cleared slots c base n at sized low high is =
      ap (λ (i : ℕ). numbered (slot_at c (set slots i None)) base c) is
      ∙ numbered-without (slot_at c (set slots (n % c) None)) (slot_at c slots) base c n
      (slot_at-set_same slots c n None (omega arith) sized)
      (λ k from to differ. slot_at-set_other slots c base n k None low high from to differ)

  -- how many there are after a change of a slot
  pub length-changed : (slots : List (Option T)) (c base n at : ℕ) (old new : Option T)
      → length slots ≡ c
      → base ≤ n
      → n < base + c
      → at ≡ n % c
      → old ≡ get_or slots at old
      → length (numbered (slot_at c (set slots at new)) base c) + one_if old
      ≡ length (numbered (slot_at c slots) base c) + one_if new
  length-changed slots c base n at old new sized low high is read =
      let within : n % c < length slots = rw sized (mod-lt n (omega arith)) in
      let was : old ≡ slot_at c slots n =
      get_or_read slots (n % c) old within (read ∙ ap (λ (i : ℕ). get_or slots i old) is) None in
      let now : slot_at c (set slots (n % c) new) n ≡ new =
      slot_at-set_same slots c n new (omega arith) sized in
      let count = length-numbered (slot_at c (set slots (n % c) new)) (slot_at c slots) base c n
      low high
      (λ k from to differ. slot_at-set_other slots c base n k new low high from to differ) in
      rw (is, was) (count ∙ ap (λ (o : Option T). length (numbered (slot_at c slots) base c) + one_if o) now)

  -- a slot that had a value is counted
  pub counted-slot : (slots : List (Option T)) (c base n at : ℕ) (old : Option T)
      → length slots ≡ c
      → base ≤ n
      → n < base + c
      → at ≡ n % c
      → old ≡ get_or slots at old
      → one_if old ≤ length (numbered (slot_at c slots) base c)
  counted-slot slots c base n at old sized low high is read =
      let count = length-changed slots c base n at old None sized low high is read in omega arith

  -- the base may pass a number without a value
  pub numbered-passed : (slots : List (Option T)) (c base : ℕ)
      → value_with (numbered (slot_at c slots) base c) base ≡ None
      → numbered (slot_at c slots) (base + 1) c ≡ numbered (slot_at c slots) base c
  numbered-passed slots zero base absent = refl
  numbered-passed slots (suc m) base absent =
      let first = sym (value_with-numbered (slot_at (suc m) slots) base (suc m) base
      (omega arith) (omega arith)) ∙ absent in
      sym (numbered-pass (slot_at (suc m) slots) base (suc m) first
      (ap (λ (i : ℕ). get_or slots i None) (around base (suc m) (omega arith)) ∙ first))

  -- what a look at any ring tells
  pub IsRing-numbered : (g : ℕ → Option T) (base c : ℕ)
      → IsRing (record { base = base; capacity = c; held = numbered g base c })
  IsRing-numbered g base c =
      record {
        ascending = numbered-ascending g base c;
        within = numbered-within g base (base + c) base c (omega arith) (omega arith);
      }

-- slots without a value, as many as there are numbers
module _ {T : Type 0} (slots : List (Option T)) (c capacity base : ℕ) (sized : c ≡ capacity)
    (fresh : slots ≡ replicate capacity None) where
  -- no number has a value
  numbered-empty : numbered (slot_at c slots) base c ≡ []
  numbered-empty =
      let all : slots ≡ replicate c None =
      subst (λ (k : ℕ). slots ≡ replicate k None) (sym sized) fresh in
      numbered-longer (slot_at c slots) base 0 c (omega arith)
      (λ k low high. rw all (get_or-replicate c (k % c) None None (mod-lt k (omega arith))))

  -- they keep to the invariant of a ring
  pub IsSound-empty : length slots ≡ c
      → base ≤ 2 ^ 63
      → capacity < 2 ^ 63
      → IsSound c slots base 0
  IsSound-empty long low small =
      record {
        small = low;
        few = omega arith;
        sized = long;
        counted = sym (ap length numbered-empty);
      }

  -- and are a ring without values
  pub ring-empty : let ring : Ring T =
      record { base = base; capacity = c; held = numbered (slot_at c slots) base c } in
      ring ≡ empty_ring base capacity
  ring-empty =
      ap (λ (es : List (ℕ × T)). record { base = base; capacity = c; held = es }) numbered-empty
      ∙ ap (λ (k : ℕ). record { base = base; capacity = k; held = [] }) sized

-- What the ring, the cursor and the mark of a queue tell of its lowest and its first ready message.
use Rattle.std.proofs.Common.{◌≡◌, ℕ, ◌<◌, ◌≤◌, ◌&&◌, ◌||◌, Bool, true, false, not, Option, Some, None, is_some, List, [], ◌∷◌, map, find, get_or, eqb, ltb, ⊎_elim, refl, sym, ap, subst, ◌∙◌, arith}
use Rattle.std.specs.List.{All}
use Rattle.std.specs.Option.{IsSome, option_and_then, option_map}
use Rattle.std.proofs.lemmas.Bool.{both_ways, cases_Bool, cases_eq, cases_lt, eq-eqb, le-leb, le-ltb, lt-leb, lt-ltb, ne_eqb}
use Rattle.slot_ring.specs.Ring.{IsRing, Ring, value_with}
use Rattle.resend_queue.specs.declared.answer.Mark.TheVariants as marks
use Rattle.resend_queue.specs.declared.slot.Slot.{Slot}
use Rattle.resend_queue.specs.Inside.{IsKept, IsRetransmissionQueue, messages, pending_of}
use Rattle.resend_queue.specs.Queue.{Pending, QueueState, first_number, first_ready, is_past, is_ready, lowest, mark_answer, moment_of}
use Rattle.resend_queue.proofs.HeldLemmas.{find-held, find-map, find-none, first_of, none_between}

-- a queue as contracts see it
abbrev pub state_of : ℕ → ℕ → ℕ → Bool → ℕ → Bool → Ring Slot → QueueState
state_of window next cursor due dues ended r =
    record {
      window = window;
      next = next;
      pending = messages cursor due r;
      dues = dues;
      ended = ended;
    }

-- a mark of the lowest number is its own
mark_itself : (due : Bool) (low : ℕ) → (due && eqb low low) ≡ due
mark_itself true low = eq-eqb low low refl
mark_itself false low = refl

-- where there is none there isn't some
pub not_some : (o : Option Slot) → o ≡ None → IsSome o → ⊥
not_some o none some = both_ways (is_some o) (ap is_some none) some

-- a look-up of a number, and the search for its message
lookup-find : (low cursor : ℕ) (due : Bool) (n : ℕ) (es : List (ℕ × Slot))
    → option_map (λ slot. pending_of low cursor due (n, slot)) (value_with es n)
    ≡ find (λ p. eqb p.seq n) (map (pending_of low cursor due) es)
lookup-find low cursor due n [] = refl
lookup-find low cursor due n (e ∷ es) =
    ⊎_elim
    (λ (here : n ≡ e.0).
    rw (eq-eqb n e.0 here, eq-eqb e.0 n (sym here))
    (ap (λ (k : ℕ). Some (pending_of low cursor due (k, e.1))) here))
    (λ (differ : n ≡ e.0 → ⊥).
    rw (ne_eqb n e.0 differ, ne_eqb e.0 n (λ same. differ (sym same)))
    (lookup-find low cursor due n es))
    (cases_eq n e.0)

-- what a queue's ring tells of it
module _ (window next cursor : ℕ) (due : Bool) (dues : ℕ) (ended : Bool) (r : Ring Slot) where
  -- no number is below the base
  pub from_base : IsRing r → All (λ (e : ℕ × Slot). r.base ≤ e.0) r.held
  from_base ring = λ k d below. (ring.within k d below).0

  -- none is above the next one
  pub below_next : All (IsKept next) r.held → All (λ (e : ℕ × Slot). e.0 < next) r.held
  below_next kept = λ k d below. (kept k d below).below

  -- a base without a slot means that all are acknowledged
  pub none_held : IsRing r
      → IsRetransmissionQueue window next cursor due dues r
      → value_with r.held r.base ≡ None
      → r.held ≡ []
  none_held ring sound none =
      ⊎_elim
      (λ (some : r.base < next).
      absurd (not_some (value_with r.held r.base) none (sound.lowest some)))
      (λ (all : next ≤ r.base).
      none_between r.base next r.held all (from_base ring) (below_next sound.kept))
      (cases_lt r.base next)

  -- the base is the lowest number
  pub base-lowest : IsRing r
      → IsRetransmissionQueue window next cursor due dues r
      → r.base ≡ lowest (state_of window next cursor due dues ended r)
  base-lowest ring sound = by_case (value_with r.held r.base) refl
    where
      by_case : (o : Option Slot)
          → value_with r.held r.base ≡ o
          → r.base ≡ first_number (map (pending_of r.base cursor due) r.held) next
      by_case (Some slot) found =
          let first = first_of r.base slot r.held ring.ascending (from_base ring) found in
          rw first.1 refl
      by_case None none =
          let at_end : next ≤ r.base = ⊎_elim
          (λ (some : r.base < next).
          absurd (not_some (value_with r.held r.base) none (sound.lowest some)))
          (λ (end : next ≤ r.base). end)
          (cases_lt r.base next) in
          rw (none_held ring sound none)
          (let begun = sound.begun in let passed = sound.passed in omega arith)

  -- the moment of a number
  pub moment-value : (n : ℕ)
      → option_and_then (λ slot. slot.emitted) (value_with r.held n)
      ≡ moment_of (state_of window next cursor due dues ended r) n
  moment-value n =
      through (value_with r.held n)
      ∙ ap (option_and_then (λ (p : Pending). p.emitted))
      (lookup-find r.base cursor due n r.held)
    where
      through : (o : Option Slot)
          → option_and_then (λ slot. slot.emitted) o
          ≡ option_and_then (λ p. p.emitted)
          (option_map (λ slot. pending_of r.base cursor due (n, slot)) o)
      through None = refl
      through (Some slot) = refl

  -- what is answered of the lowest message
  pub mark_answer-none : (now timeout : ℕ)
      → r.held ≡ []
      → marks.Nothing ≡ mark_answer (state_of window next cursor due dues ended r) now timeout
  mark_answer-none now timeout none = rw none refl

  pub mark_answer-waits : (now timeout : ℕ) (slot : Slot) (rest : List (ℕ × Slot))
      → r.held ≡ (r.base, slot) ∷ rest
      → (ltb r.base cursor && (not due && is_past slot.emitted now timeout)) ≡ false
      → marks.Nothing ≡ mark_answer (state_of window next cursor due dues ended r) now timeout
  mark_answer-waits now timeout slot rest first waits =
      let itself = mark_itself due r.base in rw (first, itself, waits) refl

  pub mark_answer-gave_up : (now timeout : ℕ) (slot : Slot) (rest : List (ℕ × Slot))
      → r.held ≡ (r.base, slot) ∷ rest
      → (ltb r.base cursor && (not due && is_past slot.emitted now timeout)) ≡ true
      → 3000 ≤ dues
      → marks.GaveUp r.base ≡ mark_answer (state_of window next cursor due dues ended r) now timeout
  mark_answer-gave_up now timeout slot rest first overdue many =
      let itself = mark_itself due r.base in
      rw (first, itself, overdue, le-leb 3000 dues many) refl

  pub mark_answer-due : (now timeout : ℕ) (slot : Slot) (rest : List (ℕ × Slot))
      → r.held ≡ (r.base, slot) ∷ rest
      → (ltb r.base cursor && (not due && is_past slot.emitted now timeout)) ≡ true
      → dues < 3000
      → marks.Due r.base ≡ mark_answer (state_of window next cursor due dues ended r) now timeout
  mark_answer-due now timeout slot rest first overdue few =
      let itself = mark_itself due r.base in
      rw (first, itself, overdue, lt-leb 3000 dues few) refl

  -- a number is the first that may be transmitted
  pub record IsFirst (seq : ℕ) : Type 0 where
    pub marked : due ≡ true → seq ≡ r.base
    pub unmarked : due ≡ false → seq ≡ cursor
    pub within : seq ≤ cursor

  -- it is ready, where it has a slot
  pub first_ready-slot : (seq : ℕ) (slot : Slot)
      → IsRing r
      → IsFirst seq
      → value_with r.held seq ≡ Some slot
      → first_ready (state_of window next cursor due dues ended r)
      ≡ Some (pending_of r.base cursor due (seq, slot))
  first_ready-slot seq slot ring first found =
      find-map is_ready (pending_of r.base cursor due) r.held
      ∙ ap (option_map (pending_of r.base cursor due))
      (find-held (λ e. is_ready (pending_of r.base cursor due e)) seq slot r.held ring.ascending
      found (λ k d below less. waits (get_or r.held k d) (from_base ring k d below) less) goes)
    where
      waits : (e : ℕ × Slot)
          → r.base ≤ e.0
          → e.0 < seq
          → is_ready (pending_of r.base cursor due e) ≡ false
      waits e from less =
          ⊎_elim
          (λ (is : due ≡ true). let at = first.marked is in absurd (omega arith))
          (λ (none : due ≡ false). let at = first.unmarked none in
          rw (none, lt-ltb e.0 cursor (omega arith)) refl)
          (cases_Bool due)

      goes : is_ready (pending_of r.base cursor due (seq, slot)) ≡ true
      goes =
          ⊎_elim
          (λ (is : due ≡ true). rw (is, eq-eqb seq r.base (first.marked is))
          (or_true (not (ltb seq cursor))))
          (λ (none : due ≡ false). let at = first.unmarked none in
          rw (none, le-ltb seq cursor (omega arith)) refl)
          (cases_Bool due)
        where
          or_true : (b : Bool) → (b || true) ≡ true
          or_true true = refl
          or_true false = refl

  -- and none is ready where it has no slot
  pub first_ready-none : (seq : ℕ)
      → IsRing r
      → IsRetransmissionQueue window next cursor due dues r
      → (cursor < next → IsSome (value_with r.held cursor))
      → IsFirst seq
      → value_with r.held seq ≡ None
      → first_ready (state_of window next cursor due dues ended r) ≡ None
  first_ready-none seq ring sound taken first none =
      ⊎_elim
      (λ (is : due ≡ true).
      absurd (not_some (value_with r.held r.base) (subst (λ (n : ℕ). value_with r.held n ≡ None)
      (first.marked is) none) (sound.lowest (sound.marked is))))
      (λ (no : due ≡ false).
      ⊎_elim
      (λ (some : cursor < next).
      absurd (not_some (value_with r.held cursor) (subst (λ (n : ℕ). value_with r.held n ≡ None)
      (first.unmarked no) none) (taken some)))
      (λ (end : next ≤ cursor).
      find-map is_ready (pending_of r.base cursor due) r.held
      ∙ ap (option_map (pending_of r.base cursor due))
      (find-none (λ e. is_ready (pending_of r.base cursor due e)) r.held
      (λ k d below. let less = below_next sound.kept k d below in
      rw (no, lt-ltb (get_or r.held k d).0 cursor (omega arith)) refl)))
      (cases_lt cursor next))
      (cases_Bool due)

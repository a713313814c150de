-- The messages of a queue after each call, as contracts see them.
use Rattle.std.proofs.Common.{◌≡◌, ◌≢◌, ℕ, ◌+◌, ◌<◌, ◌≤◌, ◌&&◌, max, Bool, true, false, cond, not, Some, None, List, [], ◌∷◌, ◌++◌, map, filter, get_or, eqb, ltb, ⊎_elim, refl, sym, ap, subst, ◌∙◌, arith}
use Rattle.std.specs.List.{All}
use Rattle.std.proofs.lemmas.Bool.{both_ways, cases_eq, cases_lt, eq-eqb, le-ltb, lt-ltb, ne_eqb}
use Rattle.std.proofs.lemmas.List.{map-append}
use Rattle.std.proofs.lemmas.List.Elements.{All-weaker, filter_passes}
use Rattle.slot_ring.specs.Ring.{IsRing, Ring, value_with, with_value, without}
use Rattle.chan_values.specs.declared.item.Item.{Item}
use Rattle.resend_queue.specs.declared.slot.Slot.{Slot}
use Rattle.resend_queue.specs.Inside.{IsRetransmissionQueue, messages, pending_of}
use Rattle.resend_queue.specs.Queue.{Pending, changed_at, marked, new_message, transmitted, unsent}
use Rattle.resend_queue.proofs.HeldLemmas.{filter-map, map-agree, map-map, value_with-each, with_value-held, with_value-last}
use Rattle.resend_queue.proofs.QueueLemmas.{IsFirst, below_next, from_base, state_of}

-- a test of order that two numbers pass alike
ltb-alike : (a x y : ℕ) → (a < x → a < y) → (a < y → a < x) → ltb a x ≡ ltb a y
ltb-alike a x y there back =
    ⊎_elim
    (λ (less : a < x). lt-ltb a x less ∙ sym (lt-ltb a y (there less)))
    (λ (more : x ≤ a).
    le-ltb a x more ∙ sym (le-ltb a y (⊎_elim
    (λ (less : a < y). let low = back less in omega arith)
    (λ (high : y ≤ a). high) (cases_lt a y))))
    (cases_lt a x)

-- a mark of the lowest number is none of another
unmarked : (due : Bool) (n low : ℕ) → (due ≡ true → n ≢ low) → (due && eqb n low) ≡ false
unmarked true n low other = ne_eqb n low (other refl)
unmarked false n low other = refl

-- a queue's messages, before a call and after it
module _ (window next cursor : ℕ) (due : Bool) (dues : ℕ) (ended : Bool) (r : Ring Slot) where
  -- the messages after a mark of the lowest one
  pub messages-marked : messages cursor true r ≡ changed_at r.base marked (messages cursor due r)
  messages-marked =
      map-agree (pending_of r.base cursor true)
      (λ e. cond (eqb e.0 r.base) (marked (pending_of r.base cursor due e))
      (pending_of r.base cursor due e)) r.held (λ k d below. each (get_or r.held k d))
      ∙ sym (map-map (λ (p : Pending). cond (eqb p.seq r.base) (marked p) p)
      (pending_of r.base cursor due) r.held)
    where
      each : (e : ℕ × Slot)
          → pending_of r.base cursor true e
          ≡ cond (eqb e.0 r.base) (marked (pending_of r.base cursor due e))
          (pending_of r.base cursor due e)
      each e =
          ⊎_elim
          (λ (here : e.0 ≡ r.base). rw (eq-eqb e.0 r.base here) refl)
          (λ (differ : e.0 ≡ r.base → ⊥).
          let no : (due && eqb e.0 r.base) ≡ false = unmarked due e.0 r.base (λ m. differ) in
          rw (no, ne_eqb e.0 r.base differ) refl)
          (cases_eq e.0 r.base)

  -- and after a reopening
  pub messages-reopened : IsRing r → messages r.base due r ≡ map unsent (messages cursor due r)
  messages-reopened ring =
      map-agree (pending_of r.base r.base due)
      (λ e. unsent (pending_of r.base cursor due e)) r.held
      (λ k d below. let from = from_base window next cursor due dues ended r ring k d below in
      rw (le-ltb (get_or r.held k d).0 r.base from) refl)
      ∙ sym (map-map unsent (pending_of r.base cursor due) r.held)

  -- the cursor may pass numbers without slots
  pub messages-passed : (to : ℕ)
      → IsRing r
      → cursor ≤ to
      → ((n : ℕ) → cursor ≤ n → n < to → value_with r.held n ≡ None)
      → messages to due r ≡ messages cursor due r
  messages-passed to ring on passed =
      map-agree (pending_of r.base to due) (pending_of r.base cursor due) r.held
      (λ k d below. each (get_or r.held k d) (value_with-each r.held ring.ascending k d below))
    where
      each : (e : ℕ × Slot)
          → value_with r.held e.0 ≡ Some e.1
          → pending_of r.base to due e ≡ pending_of r.base cursor due e
      each e found =
          let alike : ltb e.0 to ≡ ltb e.0 cursor = ltb-alike e.0 to cursor
          (λ less. ⊎_elim
          (λ (below : e.0 < cursor). below)
          (λ (above : cursor ≤ e.0).
          let none = passed e.0 above less in absurd (differ (sym none ∙ found)))
          (cases_lt e.0 cursor))
          (λ less. omega arith) in
          rw alike refl
        where
          differ : None ≡ Some e.1 → ⊥
          differ is = cc

  -- which no contract sees
  pub state-passed : (to : ℕ)
      → IsRing r
      → cursor ≤ to
      → ((n : ℕ) → cursor ≤ n → n < to → value_with r.held n ≡ None)
      → state_of window next to due dues ended r ≡ state_of window next cursor due dues ended r
  state-passed to ring on passed =
      ap (λ (ps : List Pending). record {
        window = window;
        next = next;
        pending = ps;
        dues = dues;
        ended = ended;
      })
      (messages-passed to ring on passed)

  -- the messages after a transmission: the slot of its number has the moment
  pub messages-transmitted : (seq now : ℕ) (old new : Slot) (after : Ring Slot)
      → IsRing r
      → IsFirst window next cursor due dues ended r seq
      → value_with r.held seq ≡ Some old
      → new ≡ record old { emitted = Some now }
      → after.base ≡ r.base
      → after.held ≡ with_value r.held seq new
      → messages (max cursor (seq + 1)) false after
      ≡ changed_at seq (transmitted now) (messages cursor due r)
  messages-transmitted seq now old new after ring first found is base held =
      ap (λ (b : ℕ). map (pending_of b (max cursor (seq + 1)) false) after.held) base
      ∙ ap (map (pending_of r.base (max cursor (seq + 1)) false))
      (held ∙ with_value-held seq old new r.held ring.ascending found)
      ∙ map-map (pending_of r.base (max cursor (seq + 1)) false)
      (λ (e : ℕ × Slot). cond (eqb e.0 seq) (seq, new) e) r.held
      ∙ map-agree
      (λ e. pending_of r.base (max cursor (seq + 1)) false (cond (eqb e.0 seq) (seq, new) e))
      (λ e. cond (eqb e.0 seq) (transmitted now (pending_of r.base cursor due e))
      (pending_of r.base cursor due e)) r.held
      (λ k d below. each (get_or r.held k d) (value_with-each r.held ring.ascending k d below))
      ∙ sym (map-map (λ (p : Pending). cond (eqb p.seq seq) (transmitted now p) p)
      (pending_of r.base cursor due) r.held)
    where
      each : (e : ℕ × Slot)
          → value_with r.held e.0 ≡ Some e.1
          → pending_of r.base (max cursor (seq + 1)) false (cond (eqb e.0 seq) (seq, new) e)
          ≡ cond (eqb e.0 seq) (transmitted now (pending_of r.base cursor due e))
          (pending_of r.base cursor due e)
      each e own =
          ⊎_elim
          (λ (here : e.0 ≡ seq).
          let both : Some e.1 ≡ Some old = sym own ∙ ap (value_with r.held) here ∙ found in
          let same : e.1 ≡ old = cc in
          rw (
            eq-eqb e.0 seq here,
            is,
            here,
            same,
            lt-ltb seq (max cursor (seq + 1)) (omega arith),
          ) refl)
          (λ (differ : e.0 ≡ seq → ⊥).
          let alike : ltb e.0 (max cursor (seq + 1)) ≡ ltb e.0 cursor =
          let within = first.within in
          ltb-alike e.0 (max cursor (seq + 1)) cursor (λ less. omega arith) (λ less. omega arith) in
          let other : (due && eqb e.0 r.base) ≡ false =
          unmarked due e.0 r.base (λ m e'. differ (e' ∙ sym (first.marked m))) in
          rw (ne_eqb e.0 seq differ, alike, other) refl)
          (cases_eq e.0 seq)

  -- the messages after an acknowledgement of a higher number
  pub messages-without : (n : ℕ) (after : Ring Slot)
      → after.base ≡ r.base
      → after.held ≡ without r.held n
      → messages cursor due after
      ≡ filter (λ p. not (eqb p.seq n)) (messages cursor due r)
  messages-without n after base held =
      ap (λ (b : ℕ). map (pending_of b cursor due) after.held) base
      ∙ ap (map (pending_of r.base cursor due)) held
      ∙ sym (filter-map (λ (p : Pending). not (eqb p.seq n)) (pending_of r.base cursor due) r.held)

  -- and after one of the lowest number, when the base has moved
  pub messages-risen : (after : Ring Slot)
      → IsRing after
      → after.held ≡ without r.held r.base
      → messages (max cursor after.base) false after
      ≡ filter (λ p. not (eqb p.seq r.base)) (messages cursor due r)
  messages-risen after ring held =
      map-agree (pending_of after.base (max cursor after.base) false)
      (pending_of r.base cursor due) after.held
      (λ k d below. each (get_or after.held k d) ((ring.within k d below).0)
      (other k d below))
      ∙ ap (map (pending_of r.base cursor due)) held
      ∙ sym (filter-map (λ (p : Pending). not (eqb p.seq r.base))
      (pending_of r.base cursor due) r.held)
    where
      other : All (λ (e : ℕ × Slot). e.0 ≢ r.base) after.held
      other = subst (All (λ (e : ℕ × Slot). e.0 ≢ r.base)) (sym held)
          (All-weaker (λ (e : ℕ × Slot). not (eqb e.0 r.base) ≡ true)
          (λ (e : ℕ × Slot). e.0 ≢ r.base)
          (λ e passes same.
          both_ways (not (eqb e.0 r.base)) (rw (eq-eqb e.0 r.base same) refl) passes)
          (without r.held r.base)
          (filter_passes (λ (e : ℕ × Slot). not (eqb e.0 r.base)) r.held))

      each : (e : ℕ × Slot)
          → after.base ≤ e.0
          → e.0 ≢ r.base
          → pending_of after.base (max cursor after.base) false e ≡ pending_of r.base cursor due e
      each e from differ =
          let alike : ltb e.0 (max cursor after.base) ≡ ltb e.0 cursor =
          ltb-alike e.0 (max cursor after.base) cursor (λ less. omega arith)
          (λ less. omega arith) in
          let no : (due && eqb e.0 r.base) ≡ false = unmarked due e.0 r.base (λ m. differ) in
          rw (alike, no) refl

  -- the messages after a put
  pub messages-put : (item : Item) (id : List ℕ) (date : ℕ) (last : Bool) (slot : Slot)
      (after : Ring Slot)
      → IsRetransmissionQueue window next cursor due dues r
      → slot ≡ record { id = id; date = date; item = item; last = last; emitted = None }
      → after.base ≡ r.base
      → after.held ≡ with_value r.held next slot
      → messages cursor due after
      ≡ messages cursor due r ++ new_message next item id date last ∷ []
  messages-put item id date last slot after sound is base held =
      ap (λ (b : ℕ). map (pending_of b cursor due) after.held) base
      ∙ ap (map (pending_of r.base cursor due))
      (held ∙ with_value-last next slot r.held
      (below_next window next cursor due dues ended r sound.kept))
      ∙ map-append (pending_of r.base cursor due) r.held ((next, slot) ∷ [])
      ∙ ap (λ (p : Pending). messages cursor due r ++ p ∷ []) new
    where
      new : pending_of r.base cursor due (next, slot) ≡ new_message next item id date last
      new =
          let unsent : ltb next cursor ≡ false = le-ltb next cursor sound.passed in
          let no : (due && eqb next r.base) ≡ false =
          unmarked due next r.base (λ m same. let some = sound.marked m in omega arith) in
          rw (is, unsent, no) refl

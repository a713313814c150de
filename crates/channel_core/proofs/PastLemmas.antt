-- Messages past the end of their direction, and messages that end it.
use Rattle.std.proofs.Common.{◌≡◌, ℕ, ◌<◌, ◌≤◌, Bool, true, false, cond, ◌&&◌, Option, Some, None, List, [], ◌∷◌, ◌++◌, ◌⊎◌, inl, inr, ⊎_elim, refl, sym, ap, subst, ◌∙◌, arith, find, get_or, leb, ltb}
use Rattle.std.specs.List.{All, Contains}
use Rattle.std.specs.Option.{option_map}
use Rattle.std.proofs.lemmas.Bool.{and_parts, both_ways, cases_Bool, ltb-false, ltb-true}
use Rattle.std.proofs.lemmas.List.{map-append}
use Rattle.std.proofs.lemmas.List.Elements.{All-contains, All-head, All-push, All-tail, All-weaker}
use Rattle.receive_window.specs.Window.{is_below, is_last_among, last_with}
use Rattle.channel_core.specs.History.{TakenMessage, items_of}
use Rattle.channel_core.specs.Legal.{ends_with, past_end}
use Rattle.channel_core.specs.Numbers.{has_number, least_above, least_absent, numbers_of, or_else}
use Rattle.channel_core.proofs.EndLemmas.{EndsTopmost, IsTopmost, any_last, find-none, find-some, has_seq, last_of, last_of-is, last_of-none, last_of-some, least_above-none, least_above-some, passes_last, seqs_of}
use Rattle.channel_core.proofs.ItemLemmas.{numbers_of-append}
use Rattle.channel_core.proofs.NumberLemmas.{cases_option, has_number-pushed, or_else-none, or_else-some}

-- the number that the search for a last message below another finds
abbrev last_below : List TakenMessage → ℕ → Option ℕ
last_below taken n = option_map (λ m. m.seq) (find (λ m. m.last && ltb m.seq n) taken)

-- the number of a message that is found
found_message : (o : Option TakenMessage) (n : ℕ)
    → option_map (λ m. m.seq) o ≡ Some n
    → (m : TakenMessage) × (o ≡ Some m) × (m.seq ≡ n)
found_message None n is = cc
found_message (Some m) n is = (m, refl, number m.seq is)
  where
    number : (k : ℕ) → Some k ≡ Some n → k ≡ n
    number k is = cc

no_message : (o : Option TakenMessage) → option_map (λ m. m.seq) o ≡ None → o ≡ None
no_message None is = refl
no_message (Some m) is = cc

-- where a message is past the end, the last one stands below it, or it is the last, and one stands
-- above it
pub past_end-some : (taken : List TakenMessage) (n m : ℕ) (last : Bool)
    → past_end taken n last ≡ Some m
    → ((t : TakenMessage) × Contains taken t × (t.last ≡ true) × (t.seq ≡ m) × (m < n))
    ⊎ ((last ≡ true) × (n < m) × (has_number (seqs_of taken) m ≡ true))
unfolding past_end
past_end-some taken n m last is =
    ⊎_elim
    (λ (below : last_below taken n ≡ Some m).
    let found = found_message (find (λ (t : TakenMessage). t.last && ltb t.seq n) taken) m below in
    let t = found.0 in
    let there = find-some (λ (t : TakenMessage). t.last && ltb t.seq n) taken t found.1 in
    let parts = and_parts t.last (ltb t.seq n) there.1 in
    let less = ltb-true t.seq n parts.1 in
    let number = found.2 in
    inl (t, there.0, parts.0, number, omega arith))
    (λ (over : (last_below taken n ≡ None)
    × (cond last (least_above (seqs_of taken) n) None ≡ Some m)).
    inr (above last over.1))
    (or_else-some (last_below taken n) (cond last (least_above (seqs_of taken) n) None) m is)
  where
    above : (b : Bool)
        → cond b (least_above (seqs_of taken) n) None ≡ Some m
        → (b ≡ true) × (n < m) × (has_number (seqs_of taken) m ≡ true)
    above true is = let known = least_above-some (seqs_of taken) n m is in (refl, known.0, known.1)
    above false is = cc

-- a message that is not past the end: no last one stands below it, and where it is the last no other
-- stands above it
pub record IsWithin (taken : List TakenMessage) (n : ℕ) (last : Bool) : Type 0 where
  pub below : All (λ t. t.last ≡ true → n ≤ t.seq) taken
  pub above : last ≡ true → (k : ℕ) → has_number (seqs_of taken) k ≡ true → k ≤ n

pub past_end-none : (taken : List TakenMessage) (n : ℕ) (last : Bool)
    → past_end taken n last ≡ None
    → IsWithin taken n last
unfolding past_end
past_end-none taken n last is =
    let parts = or_else-none (last_below taken n) (cond last (least_above (seqs_of taken) n) None)
    is in
    let none = no_message (find (λ (t : TakenMessage). t.last && ltb t.seq n) taken) parts.0 in
    record {
      below = All-weaker (λ (t : TakenMessage). (t.last && ltb t.seq n) ≡ false)
          (λ (t : TakenMessage). t.last ≡ true → n ≤ t.seq)
          (λ t fails is_last. ltb-false t.seq n (rw is_last at fails)) taken
          (find-none (λ (t : TakenMessage). t.last && ltb t.seq n) taken none);
      above = above last parts.1;
    }
  where
    above : (b : Bool)
        → cond b (least_above (seqs_of taken) n) None ≡ None
        → b ≡ true
        → (k : ℕ)
        → has_number (seqs_of taken) k ≡ true
        → k ≤ n
    above true is sure k there = least_above-none (seqs_of taken) n is k there
    above false is sure k there = absurd (unlike sure)
      where
        unlike : false ≡ true → ⊥
        unlike is = cc

-- the last one alone may stand below a message
pub last_below-is : (taken : List TakenMessage) (n : ℕ)
    → EndsTopmost taken
    → last_below taken n ≡ cond (is_below (last_of taken) n) (last_of taken) None
last_below-is taken n top =
    ⊎_elim
    (λ (none : last_below taken n ≡ None).
    none ∙ sym (absent none))
    (λ (found : (m : ℕ) × (last_below taken n ≡ Some m)).
    let message = found_message (find (λ (t : TakenMessage). t.last && ltb t.seq n) taken)
    found.0 found.1 in
    let t = message.0 in
    let there = find-some (λ (t : TakenMessage). t.last && ltb t.seq n) taken t message.1 in
    let parts = and_parts t.last (ltb t.seq n) there.1 in
    let last = last_of-is taken t top there.0 parts.0 in
    found.1 ∙ ap (λ (k : ℕ). Some k) (sym message.2)
    ∙ sym (rw (last, parts.1) refl))
    (cases_option (last_below taken n))
  where
    absent : last_below taken n ≡ None
        → cond (is_below (last_of taken) n) (last_of taken) None ≡ None
    absent none =
        ⊎_elim
        (λ (nowhere : last_of taken ≡ None). rw nowhere refl)
        (λ (found : (k : ℕ) × (last_of taken ≡ Some k)).
        let message = last_of-some taken found.0 found.1 in
        let all = find-none (λ (t : TakenMessage). t.last && ltb t.seq n) taken
        (no_message (find (λ (t : TakenMessage). t.last && ltb t.seq n) taken) none) in
        let fails = All-contains (λ (t : TakenMessage). (t.last && ltb t.seq n) ≡ false) taken
        message.0 all message.1 in
        let over : ltb message.0.seq n ≡ false = rw message.2 at fails in
        rw found.1 (let far : ltb found.0 n ≡ false = rw message.3 at over in rw far refl))
        (cases_option (last_of taken))

-- so past the end is told by the number of the last one
pub past_end-is : (taken : List TakenMessage) (n : ℕ) (last : Bool)
    → EndsTopmost taken
    → past_end taken n last
    ≡ or_else
    (cond (is_below (last_of taken) n) (last_of taken) None)
    (cond last (least_above (seqs_of taken) n) None)
unfolding past_end
past_end-is taken n last top =
    ap (λ (o : Option ℕ). or_else o (cond last (least_above (seqs_of taken) n) None))
    (last_below-is taken n top)

-- ---- one message more

-- the number of one message more
seqs_of-push : (taken : List TakenMessage) (m : TakenMessage)
    → seqs_of (taken ++ m ∷ []) ≡ seqs_of taken ++ m.seq ∷ []
seqs_of-push taken m =
    ap numbers_of (map-append (λ (t : TakenMessage). (t.seq, t.item)) taken (m ∷ []))
    ∙ numbers_of-append (items_of taken) ((m.seq, m.item) ∷ [])

-- a message that is not past the end leaves the last one topmost
pub EndsTopmost-push : (taken : List TakenMessage) (m : TakenMessage)
    → EndsTopmost taken
    → IsWithin taken m.seq m.last
    → EndsTopmost (taken ++ m ∷ [])
EndsTopmost-push taken m top within =
    All-push (IsTopmost (taken ++ m ∷ [])) taken m
    (λ k d inside. old (get_or taken k d) (top k d inside) (within.below k d inside))
    (λ last k there. ⊎_elim
    (λ (before : has_number (seqs_of taken) k ≡ true). within.above last k before)
    (λ (new : Some m.seq ≡ Some k). let same : m.seq ≡ k = cc in omega arith)
    (has_number-pushed (seqs_of taken) (Some m.seq) k (rw (seqs_of-push taken m) at there)))
  where
    old : (t : TakenMessage)
        → IsTopmost taken t
        → (t.last ≡ true → m.seq ≤ t.seq)
        → IsTopmost (taken ++ m ∷ []) t
    old t topmost low last k there =
        ⊎_elim
        (λ (before : has_number (seqs_of taken) k ≡ true). topmost last k before)
        (λ (new : Some m.seq ≡ Some k). let same : m.seq ≡ k = cc in
        let under = low last in omega arith)
        (has_number-pushed (seqs_of taken) (Some m.seq) k (rw (seqs_of-push taken m) at there))

-- where a message is taken as the last, none was before
pub last_of-open : (taken : List TakenMessage) (n : ℕ)
    → IsWithin taken n true
    → has_number (seqs_of taken) n ≡ false
    → last_of taken ≡ None
last_of-open taken n within absent =
    ⊎_elim
    (λ (none : last_of taken ≡ None). none)
    (λ (found : (k : ℕ) × (last_of taken ≡ Some k)).
    let message = last_of-some taken found.0 found.1 in
    let m = message.0 in
    let there = has_seq taken m message.1 in
    let low = within.above refl m.seq there in
    let high = All-contains (λ (t : TakenMessage). t.last ≡ true → n ≤ t.seq) taken m within.below
    message.1 message.2 in
    let same : m.seq ≡ n = omega arith in
    absurd (both_ways (has_number (seqs_of taken) n) absent
    (subst (λ (k : ℕ). has_number (seqs_of taken) k ≡ true) same there)))
    (cases_option (last_of taken))

-- the number of the last one, with one message more
pub last_of-push : (taken : List TakenMessage) (m : TakenMessage)
    → IsWithin taken m.seq m.last
    → has_number (seqs_of taken) m.seq ≡ false
    → last_of (taken ++ m ∷ []) ≡ last_with (last_of taken) m.seq m.last
last_of-push taken m within absent =
    ⊎_elim
    (λ (last : m.last ≡ true).
    let free : last_of taken ≡ None
    = last_of-open taken m.seq (subst (IsWithin taken m.seq) last within) absent in
    front taken (last_of-none taken free) ∙ rw last refl)
    (λ (other : m.last ≡ false). behind taken other ∙ rw other refl)
    (cases_Bool m.last)
  where
    front : (ts : List TakenMessage)
        → All (λ t. t.last ≡ false) ts
        → last_of (ts ++ m ∷ []) ≡ cond m.last (Some m.seq) None
    front [] none = at m.last
      where
        at : (b : Bool)
            → option_map (λ t. t.seq) (cond b (Some m) None) ≡ cond b (Some m.seq) None
        at true = refl
        at false = refl
    front (t ∷ ts) none =
        rw (All-head (λ (t : TakenMessage). t.last ≡ false) t ts none)
        (front ts (All-tail (λ (t : TakenMessage). t.last ≡ false) t ts none))

    behind : (ts : List TakenMessage) → m.last ≡ false → last_of (ts ++ m ∷ []) ≡ last_of ts
    behind [] other = rw other refl
    behind (t ∷ ts) other = elim t.last as
        (λ b. option_map (λ p. p.seq) (cond b (Some t) (find (λ p. p.last) (ts ++ m ∷ [])))
        ≡ option_map (λ p. p.seq) (cond b (Some t) (find (λ p. p.last) ts))) [
          | true ↦ refl
          | false ↦ behind ts other
        ]

-- whether a message ends its direction is told by the number of the last one
pub ends_with-is : (taken : List TakenMessage) (m : TakenMessage)
    → EndsTopmost taken
    → IsWithin taken m.seq m.last
    → has_number (seqs_of taken) m.seq ≡ false
    → ends_with taken m
    ≡ is_last_among
    (last_with (last_of taken) m.seq m.last)
    (least_absent (seqs_of taken))
    (least_absent (seqs_of (taken ++ m ∷ [])))
unfolding ends_with
ends_with-is taken m top within absent =
    let from = least_absent (seqs_of taken) in
    let to = least_absent (seqs_of (taken ++ m ∷ [])) in
    any_last (λ k. leb from k && ltb k to) (taken ++ m ∷ []) (EndsTopmost-push taken m top within)
    ∙ at from to (last_of (taken ++ m ∷ []))
    ∙ ap (λ (o : Option ℕ). is_last_among o from to) (last_of-push taken m within absent)
  where
    at : (from to : ℕ) (o : Option ℕ)
        → passes_last (λ k. leb from k && ltb k to) o ≡ is_last_among o from to
    at from to None = refl
    at from to (Some k) = refl

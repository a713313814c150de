-- What an end keeps after a stream message that is taken.
use Rattle.std.proofs.Common.{◌≡◌, ◌≢◌, ℕ, ◌+◌, ◌-◌, ◌<◌, ◌≤◌, Bool, true, false, cond, ◌||◌, Option, Some, None, List, [], ◌∷◌, ◌++◌, ⊎_elim, refl, sym, ap, ◌∙◌, arith, eqb, ltb, subst}
use Rattle.std.proofs.lemmas.Bool.{cases_eq, cases_lt, eq-eqb, le-ltb, lt-ltb, ne_eqb}
use Rattle.chan_values.specs.declared.item.Item.{Item}
use Rattle.channel_core.specs.declared.message.Incoming.{Incoming}
use Rattle.channel_core.specs.Call.{Entry}
use Rattle.channel_core.specs.History.{next_in_order, taken_items}
use Rattle.channel_core.specs.Legal.{IsLegal, answer_to_heard}
use Rattle.channel_core.specs.Numbers.{has_number, least_absent, numbers_of, or_else}
use Rattle.channel_core.specs.Stands.{EndState, Stands}
use Rattle.channel_core.proofs.NumberLemmas.{least_absent-is, least_absent-unique, has_number-more}
use Rattle.std.specs.Option.{is_some}
use Rattle.std.proofs.lemmas.Bool.{or_parts}
use Rattle.receive_window.specs.Window.{Releases, WindowState, is_taken, item_with, items_in_order}
use Rattle.channel_core.specs.Legal.{items_released_by}
use Rattle.std.proofs.lemmas.List.Kept.{AllPairs-filter}
use Rattle.std.proofs.lemmas.List.Quantifiers.{all_pairs_push}
use Rattle.channel_core.proofs.EarlyLemmas.{early_known, early_of, item_with-early, same_items}
use Rattle.channel_core.proofs.ItemLemmas.{filter_map-agree, item_with-append, numbers_apart, numbers_of-append}
use Rattle.channel_core.proofs.SoundLemmas.{sound}
use Rattle.channel_core.proofs.HeardLemmas.{is_some-item_with, is_taken-is, open_heard, taken_is}
use Rattle.std.specs.List.Sorted.{IsPermutation}
use Rattle.std.proofs.lemmas.List.{map-append}
use Rattle.receive_window.specs.Window.{is_last_among, last_with}
use Rattle.channel_core.specs.History.{items_of, taken_messages}
use Rattle.channel_core.specs.Legal.{ends_with, past_end, taken_answer}
use Rattle.channel_core.proofs.EndLemmas.{last_of, seqs_of}
use Rattle.channel_core.proofs.FinishLemmas.{ended}
use Rattle.channel_core.proofs.HistoryLemmas.{item_of, taken_items-is}
use Rattle.channel_core.proofs.LegalLemmas.{message}
use Rattle.channel_core.proofs.PastLemmas.{IsWithin, ends_with-is, last_of-push, past_end-none}

-- what is there of the first value, or else of none
or_else-none : (o : Option Item) → or_else o None ≡ o
or_else-none None = refl
or_else-none (Some item) = refl

no_item : (o : Option Item) → is_some o ≡ false → o ≡ None
no_item None none = refl
no_item (Some item) none = cc

-- the items from the next number on, with the new one, are those that the history tells
arrived-is : (w : ℕ) (h : List Entry) (n : ℕ) (item : Item) (old : EndState)
    → IsLegal w h
    → Stands w old h
    → has_number (numbers_of (taken_items h)) n ≡ false
    → (k : ℕ)
    → next_in_order h ≤ k
    → item_with ((n, item) ∷ old.received.early) k ≡ item_with (taken_items h ++ (n, item) ∷ []) k
arrived-is w h n item old legal s new k above =
    ⊎_elim
    (λ (here : k ≡ n).
    let absent : item_with (taken_items h) k ≡ None
    = no_item (item_with (taken_items h) k) (is_some-item_with (taken_items h) k ∙ rw here new) in
    let yes : eqb k n ≡ true = eq-eqb k n here in
    rw yes (sym (item_with-append (taken_items h) ((n, item) ∷ []) k ∙ rw (absent, yes) refl)))
    (λ (other : k ≡ n → ⊥).
    let no : eqb k n ≡ false = ne_eqb k n other in
    let early : item_with old.received.early k ≡ item_with (taken_items h) k
    = early_known w h old legal s k ∙ rw (le-ltb k (next_in_order h) above) refl in
    let alone : or_else (item_with (taken_items h) k) (item_with ((n, item) ∷ []) k) ≡ item_with
    (taken_items h) k = rw no (or_else-none (item_with (taken_items h) k)) in
    rw no (early ∙ sym (item_with-append (taken_items h) ((n, item) ∷ []) k ∙ alone)))
    (cases_eq k n)

-- what an end keeps after a message that was taken
pub record Takes (w : ℕ) (h : List Entry) (n : ℕ) (id : List ℕ) (item : Item) (last : Bool)
    (items : List Item) (finished : Bool) (received : WindowState) : Type 0 where
  pub given : answer_to_heard w h (Incoming.Stream n id item last) ≡ taken_answer finished items
  pub window : received.window ≡ w
  pub expected : received.expected ≡ least_absent (numbers_of (taken_items h ++ (n, item) ∷ []))
  pub early : IsPermutation (early_of (taken_items h ++ (n, item) ∷ [])) received.early
  pub last_one : received.last ≡ last_of (taken_messages h ++ message n item last ∷ [])

pub takes : (w : ℕ) (h : List Entry) (n : ℕ) (id : List ℕ) (item : Item) (last : Bool)
    (items : List Item) (finished : Bool) (received : WindowState) (old : EndState)
    → IsLegal w h
    → Stands w old h
    → old.closed ≡ false
    → is_taken old.received n ≡ false
    → n < old.received.expected + old.received.window
    → past_end (taken_messages h) n last ≡ None
    → Releases old.received ((n, item) ∷ old.received.early) (last_with old.received.last n last)
    items finished received
    → Takes w h n id item last items finished received
takes w h n id item last items finished received old legal s unclosed untaken near not_past r =
    let reach = next_in_order h in
    let taken = taken_items h in
    let more : List (ℕ × Item) = taken ++ (n, item) ∷ [] in
    let arrived : List (ℕ × Item) = (n, item) ∷ old.received.early in
    let to = received.expected in
    let expected : old.received.expected ≡ reach = s.expected in
    let window : old.received.window ≡ w = s.window in
    let new_number : (ltb n reach || has_number (numbers_of taken) n) ≡ false
    = sym (is_taken-is w h old n legal s) ∙ untaken in
    let absent : has_number (numbers_of taken) n ≡ false
    = (or_parts (ltb n reach) (has_number (numbers_of taken) n) new_number).1 in
    let within : n < reach + w = omega arith in
    let same : (k : ℕ) → reach ≤ k → item_with arrived k ≡ item_with more k
    = arrived-is w h n item old legal s absent in
    let grows : reach ≤ to = let g = r.grows in omega arith in
    let reached : least_absent (numbers_of more) ≡ to = least_absent-unique (numbers_of more) to
    (sym (is_some-item_with more to) ∙ ap is_some (sym (same to grows) ∙ r.missing))
    (λ k below. ⊎_elim
    (λ (old_number : k < reach). ap (λ (l : List ℕ). has_number l k)
    (numbers_of-append taken ((n, item) ∷ []))
    ∙ has_number-more (numbers_of taken) (n ∷ []) k
    ((least_absent-is (numbers_of taken)).1 k old_number))
    (λ (above : reach ≤ k). sym (is_some-item_with more k) ∙ ap is_some (sym (same k above))
    ∙ r.there k (omega arith) below)
    (cases_lt k reach)) in
    let list : items ≡ items_released_by taken n item
    = r.released
    ∙ ap (λ (k : ℕ). items_in_order arrived k to) expected
    ∙ filter_map-agree (item_with arrived) (item_with more) reach (to - reach)
    (λ k low high. same k low)
    ∙ ap (items_in_order more reach) (sym reached) in
    let messages = taken_messages h in
    let m = message n item last in
    let in_end : IsWithin messages n last = past_end-none messages n last not_past in
    let unseen : has_number (seqs_of messages) n ≡ false
    = subst (λ (l : List (ℕ × Item)). has_number (numbers_of l) n ≡ false) (taken_items-is h)
    absent in
    let joined : items_of (messages ++ m ∷ []) ≡ more
    = map-append item_of messages (m ∷ [])
    ∙ ap (λ (l : List (ℕ × Item)). l ++ (n, item) ∷ []) (sym (taken_items-is h)) in
    let first : least_absent (seqs_of messages) ≡ old.received.expected
    = sym (expected ∙ ap (λ (l : List (ℕ × Item)). least_absent (numbers_of l))
    (taken_items-is h)) in
    let second : least_absent (seqs_of (messages ++ m ∷ [])) ≡ to
    = ap (λ (l : List (ℕ × Item)). least_absent (numbers_of l)) joined ∙ reached in
    let ends : ends_with messages m ≡ finished
    = ends_with-is messages m (ended w h legal).topmost in_end unseen
    ∙ ap (λ (o : Option ℕ). is_last_among (last_with o n last) (least_absent (seqs_of messages))
    (least_absent (seqs_of (messages ++ m ∷ [])))) (sym s.last)
    ∙ ap (λ (k : ℕ). is_last_among (last_with old.received.last n last) k
    (least_absent (seqs_of (messages ++ m ∷ [])))) first
    ∙ ap (is_last_among (last_with old.received.last n last) old.received.expected) second
    ∙ sym r.finished in
    record {
      given = open_heard w h (Incoming.Stream n id item last) (sym s.closed ∙ unclosed)
          ∙ taken_is w h n item last new_number within not_past
          ∙ ap (λ (b : Bool). taken_answer b (items_released_by taken n item)) ends
          ∙ ap (λ (l : List Item). taken_answer finished l) (sym list);
      window = r.window ∙ window;
      expected = sym reached;
      early = same_items (early_of more) received.early
          (AllPairs-filter (λ (p q : ℕ × Item). p.0 ≢ q.0)
          (λ p. ltb (least_absent (numbers_of more)) p.0) more
          (all_pairs_push
          (λ (p q : ℕ × Item). p.0 ≢ q.0) taken (n, item)
          (sound w h legal).once (numbers_apart taken n absent)))
          r.different
          (λ k. item_with-early more k
          ∙ ap (λ (l : ℕ). cond (ltb k l) None (item_with more k)) reached
          ∙ sym (r.early k ∙ later k more arrived same grows));
      last_one = r.last ∙ ap (λ (o : Option ℕ). last_with o n last) s.last
          ∙ sym (last_of-push messages m in_end unseen);
    }
  where
    later : (k : ℕ) (more arrived : List (ℕ × Item))
        → ((j : ℕ) → next_in_order h ≤ j → item_with arrived j ≡ item_with more j)
        → next_in_order h ≤ received.expected
        → cond (ltb k received.expected) None (item_with arrived k) ≡ cond
        (ltb k received.expected) None (item_with more k)
    later k more arrived same grows =
        ⊎_elim
        (λ (low : k < received.expected). rw (lt-ltb k received.expected low) refl)
        (λ (high : received.expected ≤ k). rw (le-ltb k received.expected high)
        (same k (omega arith)))
        (cases_lt k received.expected)

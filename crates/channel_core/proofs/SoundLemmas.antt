-- What holds of one end in each legal history.
use Rattle.std.proofs.Common.{◌≡◌, ◌≢◌, ℕ, ◌+◌, ◌-◌, ◌<◌, ◌≤◌, true, false, not, ◌||◌, Option, Some, None, List, [], ◌∷◌, ◌++◌, ⊎_elim, refl, ap, ◌∙◌, arith, eqb, length, length-append, ltb, max}
use Rattle.std.specs.List.{All, AllPairs, cons_option, list_any}
use Rattle.std.specs.Option.{IfSome, option_map}
use Rattle.std.proofs.lemmas.Bool.{cases_Bool, ltb-true, not-false, or_parts}
use Rattle.std.proofs.lemmas.List.{append-nil, length-drop, length_push}
use Rattle.std.proofs.lemmas.List.Elements.{All-append, All-cons, All-nil, All-weaker}
use Rattle.std.proofs.lemmas.List.Quantifiers.{all_pairs_push}
use Rattle.chan_values.specs.declared.item.Item.{Item}
use Rattle.receive_window.specs.Window.{items_in_order}
use Rattle.channel_core.specs.declared.call.EndAnswer.{EndAnswer}
use Rattle.channel_core.specs.declared.call.EndCall.{EndCall}
use Rattle.channel_core.specs.Call.{Entry}
use Rattle.channel_core.specs.History.{PutMessage, TakenMessage, acked_numbers, items_released, lowest_unacked, message_put, message_taken, next_in_order, number_acked, owed_acks, owed_after, owed_with, put_messages, released_items, taken_items, taken_messages}
use Rattle.channel_core.specs.Legal.{IsAnswered, IsLegal, items_released_by}
use Rattle.channel_core.specs.Numbers.{least_absent, numbers_of}
use Rattle.channel_core.proofs.HistoryLemmas.{acked_numbers-push, by_pushes, item_of, item_taken, owed_acks-push, put_messages-push, released_items-push, taken_items-push}
use Rattle.channel_core.proofs.ItemLemmas.{items_in_order-join, least_absent-grows_items, numbers_apart}
use Rattle.channel_core.proofs.CaseLemmas.{by_cases}
use Rattle.channel_core.proofs.LegalLemmas.{IsLegal-pushed, IsNew}
use Rattle.channel_core.proofs.NumberLemmas.{least_absent-grows}

-- what is read off a legal history
pub record IsConsistent (w : ℕ) (h : List Entry) : Type 0 where
  pub room : length (put_messages h) ≤ lowest_unacked h + w
  pub near : All (λ p. p.0 < next_in_order h + w) (taken_items h)
  pub once : AllPairs (λ p q. p.0 ≢ q.0) (taken_items h)
  pub few_owed : length (owed_acks w h) ≤ w
  pub in_order : released_items h ≡ items_in_order (taken_items h) 0 (next_in_order h)

-- a put keeps the window
abbrev Room : ℕ → List Entry → EndCall → EndAnswer → Type 0
Room w h call answer =
    length (put_messages h ++ cons_option (message_put answer call) []) ≤ lowest_unacked h + w

room_after : (w : ℕ) (h : List Entry) (call : EndCall) (answer : EndAnswer)
    → length (put_messages h) ≤ lowest_unacked h + w
    → IsAnswered w h call answer
    → Room w h call answer
room_after w h call answer room answered =
    let same : length (put_messages h ++ []) ≤ lowest_unacked h + w = rw append-nil room in
    by_cases w h (Room w h)
    (record {
      quiet = λ call answer quiet. rw quiet.put same;
      seq = λ item id now free.
          let m : PutMessage = record { item = item; id = id; date = max now 1; last = false } in
          omega (arith, length-append (put_messages h) (m ∷ []));
      seq_last = λ item id now free.
          let m : PutMessage = record { item = item; id = id; date = max now 1; last = true } in
          omega (arith, length-append (put_messages h) (m ∷ []));
      late = λ now n id item last there. same;
      released = λ now n id item last new so. same;
      finished = λ now n id item last new so. same;
      acked = λ now n out before. same;
      emit_ack = λ now p owed is. same;
      emit_stream = λ now n m below eligible is. same;
    }) call answer answered

-- a message that is taken is near, and its number is new
new_taken : (w : ℕ) (h : List Entry) (call : EndCall) (answer : EndAnswer)
    → IsAnswered w h call answer
    → IfSome (message_taken answer call) (λ m. IsNew w h m.seq)
new_taken w h call answer answered =
    by_cases w h (λ call answer. IfSome (message_taken answer call) (λ m. IsNew w h m.seq))
    (record {
      quiet = λ call answer quiet. rw quiet.taken tt;
      seq = λ item id now free. tt;
      seq_last = λ item id now free. tt;
      late = λ now n id item last there. tt;
      released = λ now n id item last new so. new;
      finished = λ now n id item last new so. new;
      acked = λ now n out before. tt;
      emit_ack = λ now p owed is. tt;
      emit_stream = λ now n m below eligible is. tt;
    }) call answer answered

-- one more is owed only where there is room
owed_with-few : (w : ℕ) (owed : List (ℕ × List ℕ)) (n : ℕ) (id : List ℕ)
    → length owed ≤ w
    → length (owed_with w owed n id) ≤ w
owed_with-few w owed n id few =
    let known = list_any (λ (p : ℕ × List ℕ). eqb n p.0) owed in
    let full = not (ltb (length owed) w) in
    ⊎_elim
    (λ (left_out : (known || full) ≡ true). rw left_out few)
    (λ (added : (known || full) ≡ false).
    let fits = not-false (ltb (length owed) w) (or_parts known full added).1 in
    let room = ltb-true (length owed) w fits in
    let longer = length_push owed (n, id) in
    rw added (omega arith))
    (cases_Bool (known || full))

few_after : (w : ℕ) (h : List Entry) (call : EndCall) (answer : EndAnswer)
    (owed : List (ℕ × List ℕ))
    → length owed ≤ w
    → IsAnswered w h call answer
    → length (owed_after w owed answer call) ≤ w
few_after w h call answer owed few answered =
    by_cases w h (λ call answer. length (owed_after w owed answer call) ≤ w)
    (record {
      quiet = λ call answer quiet. rw quiet.owed few;
      seq = λ item id now free. few;
      seq_last = λ item id now free. few;
      late = λ now n id item last there. owed_with-few w owed n id few;
      released = λ now n id item last new so. owed_with-few w owed n id few;
      finished = λ now n id item last new so. owed_with-few w owed n id few;
      acked = λ now n out before. few;
      emit_ack = λ now p owed is. rw length-drop (omega arith);
      emit_stream = λ now n m below eligible is. few;
    }) call answer answered

-- what was released, and what this answer releases, is all up to the new next number
abbrev InOrder : List Entry → EndCall → EndAnswer → Type 0
InOrder h call answer =
    let taken = taken_items h ++ cons_option (item_taken answer call) [] in
    released_items h ++ items_released answer
    ≡ items_in_order taken 0 (least_absent (numbers_of taken))

in_order_after : (w : ℕ) (h : List Entry) (call : EndCall) (answer : EndAnswer)
    → released_items h ≡ items_in_order (taken_items h) 0 (next_in_order h)
    → IsAnswered w h call answer
    → InOrder h call answer
in_order_after w h call answer in_order answered =
    let same : released_items h ++ []
    ≡ items_in_order (taken_items h ++ []) 0 (least_absent (numbers_of (taken_items h ++ [])))
    = rw (append-nil (released_items h), append-nil (taken_items h)) in_order in
    by_cases w h (InOrder h)
    (record {
      quiet = λ call answer quiet. rw (quiet.taken, quiet.released) same;
      seq = λ item id now free. same;
      seq_last = λ item id now free. same;
      late = λ now n id item last there. same;
      released = λ now n id item last new so.
          ap (λ (l : List Item). l ++ items_released_by (taken_items h) n item) in_order
          ∙ items_in_order-join (taken_items h) n item;
      finished = λ now n id item last new so.
          ap (λ (l : List Item). l ++ items_released_by (taken_items h) n item) in_order
          ∙ items_in_order-join (taken_items h) n item;
      acked = λ now n out before. same;
      emit_ack = λ now p owed is. same;
      emit_stream = λ now n m below eligible is. same;
    }) call answer answered

-- an entry with its answer keeps it all
sound_after : (w : ℕ) (h : List Entry) (e : Entry)
    → IsConsistent w h
    → IsAnswered w h e.call e.answer
    → IsConsistent w (h ++ e ∷ [])
sound_after w h e sound answered =
    let new : List (ℕ × Item) = cons_option (item_taken e.answer e.call) [] in
    let is_new = new_taken w h e.call e.answer answered in
    let low_grows : lowest_unacked h ≤ lowest_unacked (h ++ e ∷ [])
    = rw acked_numbers-push
    (least_absent-grows (acked_numbers h) (cons_option (number_acked e.answer) [])) in
    let next_grows = least_absent-grows_items (taken_items h) new in
    record {
      room = rw put_messages-push
          (let room = room_after w h e.call e.answer sound.room answered in omega arith);
      near = rw taken_items-push
          (All-weaker
          (λ (p : ℕ × Item). p.0 < next_in_order h + w)
          (λ (p : ℕ × Item). p.0 < least_absent (numbers_of (taken_items h ++ new)) + w)
          (λ p below. omega arith)
          (taken_items h ++ new)
          (All-append
          (λ (p : ℕ × Item). p.0 < next_in_order h + w)
          (taken_items h) new sound.near (near (message_taken e.answer e.call) is_new)));
      once = rw taken_items-push (once (message_taken e.answer e.call) is_new);
      few_owed = rw owed_acks-push
          (few_after w h e.call e.answer (owed_acks w h) sound.few_owed answered);
      in_order = rw (released_items-push, taken_items-push)
          (in_order_after w h e.call e.answer sound.in_order answered);
    }
  where
    near : (o : Option TakenMessage)
        → IfSome o (λ m. IsNew w h m.seq)
        → All (λ p. p.0 < next_in_order h + w) (cons_option (option_map item_of o) [])
    near None is_new = All-nil (λ (p : ℕ × Item). p.0 < next_in_order h + w)
    near (Some m) is_new =
        let Near : ℕ × Item → Type 0 = λ p. p.0 < next_in_order h + w in
        All-cons Near (item_of m) [] is_new.near (All-nil Near)

    once : (o : Option TakenMessage)
        → IfSome o (λ m. IsNew w h m.seq)
        → AllPairs (λ p q. p.0 ≢ q.0) (taken_items h ++ cons_option (option_map item_of o) [])
    once None is_new = rw append-nil sound.once
    once (Some m) is_new =
        all_pairs_push
        (λ (p q : ℕ × Item). p.0 ≢ q.0)
        (taken_items h) (item_of m) sound.once (numbers_apart (taken_items h) m.seq is_new.absent)

sound_nil : (w : ℕ) → IsConsistent w []
unfolding put_messages acked_numbers taken_items taken_messages released_items owed_acks least_absent
sound_nil w =
    record {
      room = omega arith;
      near = All-nil _;
      once = λ i j d less within. absurd (omega arith);
      few_owed = omega arith;
      in_order = refl;
    }

-- each legal history is sound
pub sound : (w : ℕ) (h : List Entry) → IsLegal w h → IsConsistent w h
sound w h =
    by_pushes
    (λ h. IsLegal w h → IsConsistent w h)
    (λ legal. sound_nil w)
    (λ h e before legal.
    let parts = IsLegal-pushed w h e legal in sound_after w h e (before parts.0) parts.1)
    h

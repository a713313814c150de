-- How the replay comes to give out a stream message that a history gives out: it puts it in first, or
-- lets its timer expire, or needs nothing of the kind.
use Rattle.std.proofs.Common.{Option, ℕ, ◌≡◌, ◌+◌, ◌-◌, ◌<◌, ◌≤◌, true, false, not, ◌||◌, max, zero, suc, Some, List, [], ◌∷◌, ◌++◌, ⊎_elim, refl, sym, ap, ◌∙◌, arith, append_assoc, eqb, length, slice_get}
use Rattle.std.specs.List.{cons_option}
use Rattle.std.proofs.lemmas.List.Elements.{All-contains}
use Rattle.std.proofs.lemmas.Option.{get_or_from_slice_get, slice_get_within}
use Rattle.std.proofs.lemmas.Bool.{both_ways, cases_lt, false_from_ne_true, ne_eqb, not-true, or_cases}
use Rattle.std.proofs.lemmas.List.{append-nil, length_push}
use Rattle.channel_core.specs.declared.call.EndAnswer.{EndAnswer}
use Rattle.channel_core.specs.declared.call.EndCall.{EndCall}
use Rattle.channel_core.specs.declared.answer.Put.{Put}
use Rattle.channel_core.specs.Call.{Entry}
use Rattle.channel_core.specs.History.{PutMessage, acked_numbers, emitted_numbers, has_ended, is_closed, is_paused, is_up, lowest_unacked, owed_acks, put_messages, taken_messages}
use Rattle.channel_core.specs.Legal.{IsLegal, answer_to_put}
use Rattle.channel_core.specs.Numbers.{has_number, least_absent}
use Rattle.channel_core.specs.Resending.{due_count, marked_due, sent_since_opened, transmissions}
use Rattle.channel_core.proofs.HistoryLemmas.{acked_numbers-push, is_closed-push, is_paused-push, is_up-push, marked_due-push, owed_acks-push, put_messages-push, sent_since_opened-push, taken_messages-push, transmissions-push}
use Rattle.channel_core.proofs.SendingLemmas.{due_count-push, emitted_numbers-push, sending}
use Rattle.channel_core.proofs.DueLemmas.{low-le, orderly}
use Rattle.channel_core.proofs.SoundLemmas.{sound}
use Rattle.session_audit.proofs.ExplainLemmas.{Explains, IsReady, or_none}
use Rattle.session_audit.proofs.FairLemmas.{IsDated, IsFair, fair}
use Rattle.chan_values.specs.Limits.{max_seq}
use Rattle.session_audit.proofs.PutCallLemmas.{PutsIn}
use Rattle.session_audit.proofs.EligibleLemmas.{Gives, least_from, least_parts}

-- a message of the front of a list stands in the list at its place
pub slice_get-front_of : {X : Type 0} (xs ys : List X) (n : ℕ)
    → n < length xs
    → slice_get (xs ++ ys) n ≡ slice_get xs n
slice_get-front_of [] ys n below = absurd (omega arith)
slice_get-front_of (x ∷ xs) ys zero below = refl
slice_get-front_of (x ∷ xs) ys (suc n) below = slice_get-front_of xs ys n (omega arith)

-- where the replay is ready, it gives out what the history does
pub ready_gives : (w : ℕ) (h g : List Entry) (n : ℕ) (m : PutMessage)
    → Gives w h n m
    → IsReady w h g n
    → Gives w g n m
ready_gives w h g n m gives x =
    let least = least_parts h n gives.least in
    record {
      unclosed = x.closed ∙ gives.unclosed;
      up = x.up ∙ gives.up;
      owed = x.owed ∙ gives.owed;
      running = x.paused ∙ gives.running;
      least = least_from g n (record {
        it = record {
          below = x.there;
          unacked = ap (λ (l : List ℕ). has_number l n) x.acked ∙ least.it.unacked;
          goes = x.goes;
        };
        below = λ k less may. least.below k less (record {
          below = let it = least.it.below in omega arith;
          unacked = ap (λ (l : List ℕ). has_number l k) (sym x.acked) ∙ may.unacked;
          goes = free k (x.unmarked k (λ same. omega arith)) may.goes;
        });
      });
      message = sym (slice_get-front_of (put_messages g) x.rest n x.there)
          ∙ ap (λ (l : List PutMessage). slice_get l n) x.put
          ∙ gives.message;
    }
  where
    free : (k : ℕ)
        → has_number (marked_due g) k ≡ false
        → (not (has_number (sent_since_opened g) k) || has_number (marked_due g) k) ≡ true
        → (not (has_number (sent_since_opened h) k) || has_number (marked_due h) k) ≡ true
    free k unmarked goes =
        ⊎_elim
        (λ (unsent : not (has_number (sent_since_opened g) k) ≡ true).
        let same : has_number (sent_since_opened h) k ≡ false
        = ap (λ (l : List ℕ). has_number l k) (sym x.sent)
        ∙ not-true (has_number (sent_since_opened g) k) unsent in
        rw same refl)
        (λ (marked : has_number (marked_due g) k ≡ true).
        absurd (both_ways (has_number (marked_due g) k) unmarked marked))
        (or_cases (not (has_number (sent_since_opened g) k)) (has_number (marked_due g) k) goes)

-- the number that the history gives out is new in the replay, or the replay has given it out
pub number_place : (w : ℕ) (h g : List Entry) (n : ℕ) (m : PutMessage)
    → IsLegal w g
    → Explains w h g
    → Gives w h n m
    → n ≤ length (put_messages g)
number_place w h g n m legal x gives =
    let count = length (put_messages g) in
    let least = least_parts h n gives.least in
    let order = orderly w g legal in
    ⊎_elim
    (λ (beyond : count < n).
    absurd (least.below count beyond (record {
      below = let it = least.it.below in omega arith;
      unacked = ap (λ (l : List ℕ). has_number l count) (sym x.acked)
          ∙ false_from_ne_true (has_number (acked_numbers g) count)
          (λ there. let less = order.emitted count (order.acked count there) in omega arith);
      goes = let unsent : has_number (sent_since_opened h) count ≡ false
          = ap (λ (l : List ℕ). has_number l count) (sym x.sent)
          ∙ false_from_ne_true (has_number (sent_since_opened g) count)
          (λ there. let less = order.emitted count (order.sent count there) in omega arith) in
          rw unsent refl;
    })))
    (λ (within : n ≤ count). within)
    (cases_lt count n)

-- a number that the replay has given out, and not on this connection
pub ready_again : (w : ℕ) (h g : List Entry) (n : ℕ)
    → Explains w h g
    → n < length (put_messages g)
    → has_number (sent_since_opened g) n ≡ false
    → IsReady w h g n
ready_again w h g n x there unsent =
    record {
      rest = x.rest;
      put = x.put;
      acked = x.acked;
      emitted = x.emitted;
      known = λ k apart below. x.known k below;
      sent = x.sent;
      taken = x.taken;
      owed = x.owed;
      up = x.up;
      paused = x.paused;
      closed = x.closed;
      unmarked = λ k apart. x.unmarked k;
      dues = λ k apart. x.dues k;
      due = let dues = x.dues n in omega arith;
      moments = x.moments;
      there = there;
      goes = rw unsent refl;
    }

-- what stands behind a list begins with the element that stands at its end
behind : {X : Type 0} (xs ys : List X) (y : X)
    → slice_get (xs ++ ys) (length xs) ≡ Some y
    → (rest : List X) × (ys ≡ y ∷ rest)
behind [] [] y is = cc
behind [] (z ∷ ys) y is = (ys, cc)
behind (x ∷ xs) ys y is = behind xs ys y is

-- the message with a number has a date
dated : (w : ℕ) (h : List Entry) (n : ℕ) (m : PutMessage)
    → IsFair h
    → slice_get (put_messages h) n ≡ Some m
    → 0 < m.date
dated w h n m is_fair is =
    All-contains IsDated (put_messages h) m is_fair.dated
    (n, slice_get_within (put_messages h) n m is, get_or_from_slice_get (put_messages h) n m m is)

-- the next number is given to the message
pub put_answer : (w : ℕ) (h g : List Entry) (m : PutMessage)
    → 1 ≤ w
    → IsLegal w h
    → IsLegal w g
    → Explains w h g
    → Gives w h (length (put_messages g)) m
    → answer_to_put w g m.item ≡ Put.Seq (length (put_messages g))
unfolding answer_to_put
put_answer w h g m some legal legal_g x gives =
    let count = length (put_messages g) in
    let least = least_parts h count gives.least in
    let below = least.it.below in
    let most = (fair w h legal).count in
    let room = (sound w h legal).room in
    let low : lowest_unacked g ≡ lowest_unacked h = ap least_absent x.acked in
    let low_few = low-le (sending g) (orderly w g legal_g) in
    let spare : eqb count (max_seq + 1) ≡ false
    = ne_eqb count (max_seq + 1) (λ same. omega (arith, same, below, most)) in
    let fits : eqb (count - lowest_unacked g) w ≡ false
    = ne_eqb (count - lowest_unacked g) w
    (λ same. omega (arith, same, below, room, low, low_few, some)) in
    let next = behind (put_messages g) x.rest m (rw x.put gives.message) in
    let goes_on : has_ended g ≡ false
    = (fair w h legal).ends (put_messages g) next.0 m
    (ap (λ (l : List PutMessage). put_messages g ++ l) (sym next.1) ∙ x.put) in
    rw (x.closed, gives.unclosed, goes_on, spare, fits) refl

-- the replay puts in a new number
pub ready_put : (w : ℕ) (h g : List Entry) (m : PutMessage) (call : EndCall)
    → PutsIn call m
    → IsLegal w h
    → Explains w h g
    → IsLegal w g
    → Gives w h (length (put_messages g)) m
    → (let e : Entry = record {
      call = call;
      answer = EndAnswer.Put (Put.Seq (length (put_messages g)));
    } in
    IsReady w h (g ++ e ∷ []) (length (put_messages g)))
ready_put w h g m call puts legal x legal_g gives =
    let count = length (put_messages g) in
    let e : Entry = record { call = call; answer = EndAnswer.Put (Put.Seq count) } in
    let hides = puts.hides (Put.Seq count) in
    let date : max m.date 1 ≡ m.date
    = let has = dated w h count m (fair w h legal) gives.message in omega arith in
    let put : put_messages (g ++ e ∷ []) ≡ put_messages g ++ m ∷ []
    = put_messages-push g e
    ∙ ap (λ (o : Option PutMessage). put_messages g ++ cons_option o []) (puts.put count)
    ∙ ap
    (λ (d : ℕ). put_messages g
    ++ record { item = m.item; id = m.id; date = d; last = m.last } ∷ [])
    date in
    let longer = length_push (put_messages g) m in
    let next = behind (put_messages g) x.rest m (rw x.put gives.message) in
    let order = orderly w g legal_g in
    let emitted : emitted_numbers (g ++ e ∷ []) ≡ emitted_numbers g
    = emitted_numbers-push g e ∙ rw hides.out (append-nil (emitted_numbers g)) in
    let sent : sent_since_opened (g ++ e ∷ []) ≡ sent_since_opened g
    = sent_since_opened-push g e ∙ hides.sent (sent_since_opened g) in
    let marked : marked_due (g ++ e ∷ []) ≡ marked_due g = marked_due-push g e in
    let due : (k : ℕ) → due_count (g ++ e ∷ []) k ≡ due_count g k
    = λ k. (let one : due_count g k + 0 ≡ due_count g k = omega arith in due_count-push g e k ∙ one) in
    record {
      rest = next.0;
      put = rw put (append_assoc (put_messages g) (m ∷ []) next.0
          ∙ ap (λ (l : List PutMessage). put_messages g ++ l) (sym next.1)
          ∙ x.put);
      acked = acked_numbers-push g e ∙ append-nil (acked_numbers g) ∙ x.acked;
      emitted = emitted ∙ x.emitted;
      known = λ k apart below.
          rw emitted (x.known k (let less = rw put at below in omega (arith, less, longer, apart)));
      sent = sent ∙ x.sent;
      taken = taken_messages-push g e ∙ append-nil (taken_messages g) ∙ x.taken;
      owed = owed_acks-push w g e ∙ hides.owed w (owed_acks w g) ∙ x.owed;
      up = is_up-push g e ∙ hides.up (is_up g) ∙ x.up;
      paused = is_paused-push g e ∙ hides.paused (is_paused g) ∙ x.paused;
      closed = is_closed-push g e ∙ rw hides.closed (or_none (is_closed g)) ∙ x.closed;
      unmarked = λ k apart. rw marked (x.unmarked k);
      dues = λ k apart. rw due (x.dues k);
      due = rw due (let dues = x.dues count in omega arith);
      moments = λ k. rw (transmissions-push g e, append-nil (transmissions g)) (x.moments k);
      there = rw put (omega arith);
      goes = let unsent : has_number (sent_since_opened g) count ≡ false
          = false_from_ne_true (has_number (sent_since_opened g) count)
          (λ there. let less = order.emitted count (order.sent count there) in omega arith) in
          rw (sent, unsent) refl;
    }

-- Acknowledgements that are heard: from what an end keeps to the entry that follows.
use Rattle.std.proofs.Common.{◌≡◌, ◌≢◌, ℕ, ◌+◌, ◌-◌, Bool, true, false, not, cond, ◌&&◌, Option, Some, None, List, [], ◌∷◌, ◌++◌, inl, ⊎_elim, refl, sym, ap, subst, ◌∙◌, arith, length, eqb, slice_get}
use Rattle.std.specs.List.Sorted.{IsPermutation}
use Rattle.std.specs.Option.{option_and_then, option_map}
use Rattle.std.proofs.lemmas.Grind.{fold-append}
use Rattle.std.proofs.lemmas.Bool.{and_right, both_ways, cases_eq, eq-eqb, false_from_ne_true, ne_eqb}
use Rattle.std.proofs.lemmas.List.{append-nil}
use Rattle.chan_values.specs.declared.item.Item.{Item}
use Rattle.resend_queue.specs.Queue.{Pending, QueueState, first_number, moment_of, without_number}
use Rattle.resend_queue.specs.RoundTrips.{RoundTrip, after_sample, after_samples, no_sample}
use Rattle.channel_core.specs.declared.call.EndAnswer.{EndAnswer}
use Rattle.channel_core.specs.declared.call.EndCall.{EndCall}
use Rattle.channel_core.specs.declared.answer.Heard.{Heard}
use Rattle.channel_core.specs.declared.message.Incoming.{Incoming}
use Rattle.channel_core.specs.Call.{Entry}
use Rattle.channel_core.specs.History.{PutMessage, acked_numbers, emitted_numbers, has_ended, is_closed, lowest_unacked, put_messages, taken_items, taken_messages}
use Rattle.channel_core.specs.Legal.{IsAnswered, IsLegal, answer_to_ack, answer_to_heard}
use Rattle.channel_core.specs.Numbers.{has_number, least_absent, numbers_of}
use Rattle.channel_core.specs.Resending.{due_count, last_moment, round_trip, round_trip_samples, transmissions}
use Rattle.channel_core.specs.Stands.{EndState, Stands}
use Rattle.channel_core.proofs.EndLemmas.{last_of}
use Rattle.channel_core.proofs.EarlyLemmas.{early_of}
use Rattle.channel_core.proofs.HistoryLemmas.{acked_numbers-push}
use Rattle.channel_core.proofs.NumberLemmas.{least_absent-grows, least_absent-is, least_absent-unique, has_number-last, has_number-more, has_number-other}
use Rattle.channel_core.proofs.PendingLemmas.{Sending, kept_all, kept_at, message_of}
use Rattle.channel_core.proofs.KeptLemmas.{kept_all-acked}
use Rattle.channel_core.proofs.SearchLemmas.{find_number, first_number-kept, message_there}
use Rattle.channel_core.proofs.SendingLemmas.{due_count-push, IsOrderly, sending, sending_after}
use Rattle.channel_core.proofs.DueLemmas.{due_count-above, low-le, orderly}
use Rattle.channel_core.proofs.StandsLemmas.{Goes, goes, nothing_goes, or-false, queue_after-is, queue_of, sending-acked, still}

-- a number waits for its acknowledgement
abbrev waits : List Entry → ℕ → Bool
waits h n = has_number (emitted_numbers h) n && not (has_number (acked_numbers h) n)

-- the moment that the queue answers
moment_at : (h : List Entry) (n : ℕ) → IsOrderly (sending h)
    → option_and_then (λ p. p.emitted) (kept_at (sending h) n) ≡ cond (waits h n)
    (Some (last_moment (transmissions h) n)) None
moment_at h n order = at (has_number (acked_numbers h) n) (slice_get (put_messages h) n) refl
  where
    time : Option ℕ
    time = Some (last_moment (transmissions h) n)

    never : slice_get (put_messages h) n ≡ None → has_number (emitted_numbers h) n ≡ false
    never none = false_from_ne_true (has_number (emitted_numbers h) n) (λ out.
        let there = message_there (put_messages h) n (order.emitted n out) in
        let impossible : Some there.0 ≡ None = sym there.1 ∙ none in cc)

    sent : (b : Bool)
        → cond b (Some (last_moment (transmissions h) n)) None ≡ cond (b && true)
        (Some (last_moment (transmissions h) n)) None
    sent true = refl
    sent false = refl

    at : (b : Bool) (o : Option PutMessage) → slice_get (put_messages h) n ≡ o
        → option_and_then (λ p. p.emitted) (cond b None (option_map (message_of (sending h) n) o))
        ≡ cond (has_number (emitted_numbers h) n && not b)
        (Some (last_moment (transmissions h) n)) None
    at true o is = rw (and_right (has_number (emitted_numbers h) n) false refl) refl
    at false None is = rw (never is) refl
    at false (Some m) is = sent (has_number (emitted_numbers h) n)

-- a number that waits is acknowledged
ack_known : (w : ℕ) (h : List Entry) (n : ℕ)
    → is_closed h ≡ false
    → waits h n ≡ true
    → answer_to_heard w h (Incoming.Ack n) ≡ Heard.Acked n
unfolding answer_to_ack
ack_known w h n unclosed there = rw (unclosed, there) refl

ack_unknown : (w : ℕ) (h : List Entry) (n : ℕ)
    → is_closed h ≡ false
    → waits h n ≡ false
    → answer_to_heard w h (Incoming.Ack n) ≡ Heard.UnknownAck n
unfolding answer_to_ack
ack_unknown w h n unclosed absent = rw (unclosed, absent) refl

-- the queue's answer, as the history tells it
moment-is : (w : ℕ) (h : List Entry) (n : ℕ) (old : EndState)
    → IsLegal w h
    → Stands w old h
    → moment_of old.queue n ≡ cond (waits h n) (Some (last_moment (transmissions h) n)) None
moment-is w h n old legal s =
    ap (λ (q : QueueState). moment_of q n) (s.queue ∙ queue_after-is w h)
    ∙ ap (option_and_then (λ (p : Pending). p.emitted)) (find_number (sending h) n)
    ∙ moment_at h n (orderly w h legal)

pub unknown_goes : (w : ℕ) (h : List Entry) (now n : ℕ) (old new : EndState)
    → IsLegal w h
    → Stands w old h
    → old.closed ≡ false
    → None ≡ moment_of old.queue n
    → new ≡ old
    → Goes w h new (EndCall.Heard now (Incoming.Ack n)) (EndAnswer.Heard (Heard.UnknownAck n))
unknown_goes w h now n old new legal s unclosed none is =
    let absent : waits h n ≡ false = at (waits h n) (none ∙ moment-is w h n old legal s) in
    nothing_goes w h old new (EndCall.Heard now (Incoming.Ack n))
    (EndAnswer.Heard (Heard.UnknownAck n)) legal s is
    (inl (ap (λ (a : Heard). EndAnswer.Heard a)
    (sym (ack_unknown w h n (sym s.closed ∙ unclosed) absent))))
    (search still) (λ l. refl) (λ b. refl) (λ b. refl) refl
  where
    at : (b : Bool) → None ≡ cond b (Some (last_moment (transmissions h) n)) None → b ≡ false
    at true is = cc
    at false is = refl

-- how often the timer of the lowest number expired, after an acknowledgement
dues_acked : (w : ℕ) (h : List Entry) (now n : ℕ) → IsLegal w h
    → (let e : Entry = record {
      call = EndCall.Heard now (Incoming.Ack n);
      answer = EndAnswer.Heard (Heard.Acked n);
    } in
    cond (eqb (lowest_unacked h) n) 0 (due_count h (lowest_unacked h)) ≡ due_count (h ++ e ∷ [])
    (lowest_unacked (h ++ e ∷ [])))
dues_acked w h now n legal =
    let e : Entry
    = record {
      call = EndCall.Heard now (Incoming.Ack n);
      answer = EndAnswer.Heard (Heard.Acked n);
    } in
    let acked : acked_numbers (h ++ e ∷ []) ≡ acked_numbers h ++ n ∷ [] = acked_numbers-push h e in
    let low' = least_absent (acked_numbers h ++ n ∷ []) in
    let zero : due_count h low' + 0 ≡ due_count h low' = omega arith in
    let count : due_count (h ++ e ∷ []) (lowest_unacked (h ++ e ∷ [])) ≡ due_count h low'
    = ap (λ (l : List ℕ). due_count (h ++ e ∷ []) (least_absent l)) acked ∙ due_count-push h e low'
    ∙ zero in
    ⊎_elim
    (λ (same : lowest_unacked h ≡ n).
    let grows = least_absent-grows (acked_numbers h) (n ∷ []) in
    let moved : lowest_unacked h ≢ low' = λ stays.
    both_ways (has_number (acked_numbers h ++ n ∷ []) low')
    (least_absent-is (acked_numbers h ++ n ∷ [])).0
    (rw (sym stays ∙ same) (has_number-last (acked_numbers h) n)) in
    let above : due_count h low' ≡ 0 = due_count-above w h legal low' (omega arith) in
    rw (eq-eqb (lowest_unacked h) n same) (sym above ∙ sym count))
    (λ (differ : lowest_unacked h ≡ n → ⊥).
    let low = lowest_unacked h in
    let stays : low' ≡ low = least_absent-unique (acked_numbers h ++ n ∷ []) low
    (has_number-other (acked_numbers h) n low differ ∙ (least_absent-is (acked_numbers h)).0)
    (λ k below. has_number-more (acked_numbers h) (n ∷ []) k
    ((least_absent-is (acked_numbers h)).1 k below)) in
    rw (ne_eqb low n differ) (ap (due_count h) (sym stays) ∙ sym count))
    (cases_eq (lowest_unacked h) n)

-- the estimate after one sample more
after_samples-push : (samples : List ℕ) (sample : ℕ)
    → after_samples (samples ++ sample ∷ []) ≡ after_sample (after_samples samples) sample
unfolding after_samples
after_samples-push samples sample = fold-append after_sample no_sample samples (sample ∷ [])

pub acked_goes : (w : ℕ) (h : List Entry) (now n moment : ℕ) (old new : EndState)
    → IsLegal w h
    → Stands w old h
    → old.closed ≡ false
    → Some moment ≡ moment_of old.queue n
    → new ≡ record old {
      queue = without_number old.queue n;
      estimate = after_sample old.estimate (now - moment);
    }
    → Goes w h new (EndCall.Heard now (Incoming.Ack n)) (EndAnswer.Heard (Heard.Acked n))
acked_goes w h now n moment old new legal s unclosed some is =
    let t = sending h in
    let e : Entry
    = record {
      call = EndCall.Heard now (Incoming.Ack n);
      answer = EndAnswer.Heard (Heard.Acked n);
    } in
    let order = orderly w h legal in
    let told = at (waits h n) (some ∙ moment-is w h n old legal s) in
    let answered : IsAnswered w h (EndCall.Heard now (Incoming.Ack n))
    (EndAnswer.Heard (Heard.Acked n))
    = inl (ap (λ (a : Heard). EndAnswer.Heard a)
    (sym (ack_known w h n (sym s.closed ∙ unclosed) told.0))) in
    let more : Sending = record t { acked = acked_numbers h ++ n ∷ [] } in
    let after = due_count (h ++ e ∷ []) (lowest_unacked (h ++ e ∷ [])) in
    let low : first_number (kept_all t) (length (put_messages h)) ≡ lowest_unacked h
    = first_number-kept t (low-le t order) in
    let queue : without_number old.queue n ≡ queue_of w
    (sending_after t (EndAnswer.Heard (Heard.Acked n))
    (EndCall.Heard now (Incoming.Ack n))) after
    = ap (λ (q : QueueState). without_number q n) (s.queue ∙ queue_after-is w h)
    ∙ ap (λ (ps : List Pending). record {
      window = w;
      next = length (put_messages h);
      pending = ps;
      dues = cond (eqb (first_number (kept_all t) (length (put_messages h))) n) 0
          (due_count h (lowest_unacked h));
      ended = has_ended h;
    }) (sym (kept_all-acked t n))
    ∙ ap (λ (k : ℕ). record {
      window = w;
      next = length (put_messages h);
      pending = kept_all more;
      dues = cond (eqb k n) 0 (due_count h (lowest_unacked h));
      ended = has_ended h;
    }) low
    ∙ ap (λ (k : ℕ). queue_of w more k) (dues_acked w h now n legal)
    ∙ ap (λ (u : Sending). queue_of w u after) (sym (sending-acked t n)) in
    let estimate : after_sample old.estimate (now - moment) ≡ after_samples
    (round_trip_samples h ++ (now - last_moment (transmissions h) n) ∷ [])
    = ap (λ (r : RoundTrip). after_sample r (now - moment)) s.estimate
    ∙ ap (λ (k : ℕ). after_sample (round_trip h) (now - k)) told.1
    ∙ sym (after_samples-push (round_trip_samples h) (now - last_moment (transmissions h) n)) in
    let taken = append-nil (taken_items h) in
    goes w h new (EndCall.Heard now (Incoming.Ack n))
    (EndAnswer.Heard (Heard.Acked n)) legal answered (record {
      queue = rw is queue;
      window = rw is s.window;
      expected = rw is
          (s.expected ∙ ap (λ (l : List (ℕ × Item)). least_absent (numbers_of l)) (sym taken));
      early = rw is
          (subst
          (λ (l : List (ℕ × Item)). IsPermutation (early_of l) old.received.early)
          (sym taken) s.early);
      last = rw is (s.last ∙ ap last_of (sym (append-nil (taken_messages h))));
      estimate = rw is estimate;
      owed = rw is s.owed;
      up = rw is s.up;
      paused = rw is s.paused;
      closed = rw is (s.closed ∙ sym (or-false (is_closed h)));
    })
  where
    at : (b : Bool)
        → Some moment ≡ cond b (Some (last_moment (transmissions h) n)) None
        → (b ≡ true) × (moment ≡ last_moment (transmissions h) n)
    at true is = (refl, cc)
    at false is = cc

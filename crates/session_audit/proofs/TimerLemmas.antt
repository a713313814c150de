-- A timer of the replay expires where that of the history did.
use Rattle.std.proofs.Common.{ℕ, ◌≡◌, ◌+◌, ◌-◌, ◌<◌, ◌≤◌, Bool, true, false, ◌||◌, List, [], ◌∷◌, ◌++◌, refl, ap, ◌∙◌, arith, eqb, leb, ltb, length}
use Rattle.std.specs.List.{fold}
use Rattle.std.proofs.lemmas.Grind.{fold-append}
use Rattle.std.proofs.lemmas.Bool.{eq-eqb, lt-leb, lt-ltb, ne_eqb}
use Rattle.std.proofs.lemmas.List.{append-nil}
use Rattle.resend_queue.specs.RoundTrips.{after_sample, after_samples, no_sample}
use Rattle.channel_core.specs.declared.call.EndAnswer.{EndAnswer}
use Rattle.channel_core.specs.declared.call.EndCall.{EndCall}
use Rattle.channel_core.specs.declared.answer.Tick.{Tick}
use Rattle.channel_core.specs.Call.{Entry}
use Rattle.channel_core.specs.History.{acked_numbers, emitted_numbers, is_closed, is_up, lowest_unacked, put_messages, taken_messages}
use Rattle.channel_core.specs.Legal.{IsLegal, answer_to_tick}
use Rattle.channel_core.specs.Numbers.{has_number, least_absent}
use Rattle.channel_core.specs.Resending.{due_count, marked_due, round_trip, round_trip_samples, sent_since_opened, transmissions}
use Rattle.channel_core.proofs.HistoryLemmas.{acked_numbers-push, by_pushes, is_closed-push, is_paused-push, is_up-push, marked_due-push, owed_acks-push, put_messages-push, sent_since_opened-push, taken_messages-push, transmissions-push}
use Rattle.channel_core.proofs.NumberLemmas.{has_number-last, has_number-other}
use Rattle.channel_core.proofs.SendingLemmas.{due_count-push, emitted_numbers-push}
use Rattle.session_audit.specs.Replay.{last_of_all}
use Rattle.session_audit.proofs.ExplainLemmas.{Explains, IsReady, or_none}
use Rattle.session_audit.proofs.FairLemmas.{fair}

-- ---- a timer expires

-- the timeout is at most 1,000
timeout-le : (samples : List ℕ) → (after_samples samples).timeout ≤ 1000
unfolding after_samples
timeout-le samples =
    by_pushes (λ l. (fold after_sample no_sample l).timeout ≤ 1000)
    (omega arith)
    (λ l s before. rw (fold-append after_sample no_sample l (s ∷ [])) (omega arith))
    samples

-- at the last moment the timer of a number that went out at 0 expires
pub tick_answer : (w : ℕ) (h g : List Entry) (n : ℕ)
    → IsLegal w h
    → Explains w h g
    → is_closed h ≡ false
    → is_up h ≡ true
    → n < length (put_messages g)
    → lowest_unacked h ≡ n
    → has_number (sent_since_opened h) n ≡ true
    → has_number (marked_due h) n ≡ true
    → answer_to_tick g last_of_all ≡ Tick.Due n
unfolding answer_to_tick
tick_answer w h g n legal x unclosed up there low sent marked =
    let low_g : lowest_unacked g ≡ n = ap least_absent x.acked ∙ low in
    let apart : eqb n (length (put_messages g)) ≡ false
    = ne_eqb n (length (put_messages g)) (λ same. omega arith) in
    let sent_g : has_number (sent_since_opened g) n ≡ true
    = ap (λ (l : List ℕ). has_number l n) x.sent ∙ sent in
    let short = timeout-le (round_trip_samples g) in
    let late : ltb (round_trip g).timeout (last_of_all - 0) ≡ true
    = lt-ltb (round_trip g).timeout (last_of_all - 0) (omega arith) in
    let dues : due_count g n + 1 ≤ due_count h n = rw marked at (x.dues n) in
    let most = (fair w h legal).few n in
    let few : leb 3000 (due_count g n) ≡ false = lt-leb 3000 (due_count g n) (omega arith) in
    rw (x.closed, unclosed, x.up, up, low_g, apart, sent_g, x.unmarked n, x.moments n, late, few) refl

-- the replay lets the timer of the number expire
pub ready_due : (w : ℕ) (h g : List Entry) (n : ℕ)
    → Explains w h g
    → n < length (put_messages g)
    → has_number (marked_due h) n ≡ true
    → (let e : Entry = record {
      call = EndCall.Tick last_of_all;
      answer = EndAnswer.Tick (Tick.Due n);
    } in
    IsReady w h (g ++ e ∷ []) n)
ready_due w h g n x there marked_h =
    let e : Entry = record {
      call = EndCall.Tick last_of_all;
      answer = EndAnswer.Tick (Tick.Due n);
    } in
    let put : put_messages (g ++ e ∷ []) ≡ put_messages g
    = put_messages-push g e ∙ append-nil (put_messages g) in
    let emitted : emitted_numbers (g ++ e ∷ []) ≡ emitted_numbers g
    = emitted_numbers-push g e ∙ append-nil (emitted_numbers g) in
    let sent : sent_since_opened (g ++ e ∷ []) ≡ sent_since_opened g = sent_since_opened-push g e in
    let marked : marked_due (g ++ e ∷ []) ≡ marked_due g ++ n ∷ [] = marked_due-push g e in
    let dues : due_count g n + 1 ≤ due_count h n = rw marked_h at (x.dues n) in
    record {
      rest = x.rest;
      put = rw put x.put;
      acked = acked_numbers-push g e ∙ append-nil (acked_numbers g) ∙ x.acked;
      emitted = emitted ∙ x.emitted;
      known = λ k apart below. rw emitted (x.known k (rw put at below));
      sent = sent ∙ x.sent;
      taken = taken_messages-push g e ∙ append-nil (taken_messages g) ∙ x.taken;
      owed = owed_acks-push w g e ∙ x.owed;
      up = is_up-push g e ∙ x.up;
      paused = is_paused-push g e ∙ x.paused;
      closed = is_closed-push g e ∙ or_none (is_closed g) ∙ x.closed;
      unmarked = λ k apart. rw marked (has_number-other (marked_due g) n k apart ∙ x.unmarked k);
      dues = λ k apart. rw (due_count-push g e k, ne_eqb k n apart)
          (let old = x.dues k in omega arith);
      due = rw (due_count-push g e n, eq-eqb n n refl) dues;
      moments = λ k. rw (transmissions-push g e, append-nil (transmissions g)) (x.moments k);
      there = rw put there;
      goes = rw (marked, has_number-last (marked_due g) n) (or_true _);
    }
  where
    or_true : (b : Bool) → (b || true) ≡ true
    or_true true = refl
    or_true false = refl

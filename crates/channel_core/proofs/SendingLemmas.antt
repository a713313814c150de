-- What a legal history tells of the messages that were put in, with one entry more.
use Rattle.std.proofs.Common.{◌≡◌, ℕ, ◌+◌, ◌<◌, true, max, Some, List, [], ◌∷◌, ◌++◌, ◌⊎◌, inl, inr, ⊎_elim, refl, sym, ap, subst, ◌∙◌, arith, length, cond, false}
use Rattle.std.specs.List.{cons_option, filter_map}
use Rattle.std.proofs.lemmas.Bool.{or_cases, or_left, or_right}
use Rattle.std.proofs.lemmas.List.{append-nil, length_push}
use Rattle.std.proofs.lemmas.List.Elements.{filter_map-append}
use Rattle.std.proofs.lemmas.List.Sums.{sum_by-append}
use Rattle.channel_core.specs.declared.call.EndAnswer.{EndAnswer}
use Rattle.channel_core.specs.declared.call.EndCall.{EndCall}
use Rattle.channel_core.specs.declared.message.Outgoing.TheVariants as Outgoing
use Rattle.channel_core.specs.declared.answer.Pull.TheVariants as Pull
use Rattle.channel_core.specs.Call.{Entry}
use Rattle.channel_core.specs.History.{acked_numbers, emissions, emitted_numbers, message_emitted, message_put, number_acked, put_messages, stream_number}
use Rattle.channel_core.specs.Legal.{IsAnswered}
use Rattle.channel_core.specs.Numbers.{has_number}
use Rattle.channel_core.specs.Resending.{due_count, is_due, marked_after, marked_due, number_transmitted, sent_after, sent_since_opened, transmissions}
use Rattle.channel_core.proofs.HistoryLemmas.{acked_numbers-push, emissions-push, marked_due-push, put_messages-push, sent_since_opened-push, transmissions-push}
use Rattle.channel_core.proofs.CaseLemmas.{by_cases}
use Rattle.channel_core.proofs.NumberLemmas.{has_number-append, has_number-pushed}
use Rattle.channel_core.proofs.PendingLemmas.{Sending}

-- the numbers that this answer gives out
abbrev pub numbers_out : EndAnswer → List ℕ
numbers_out answer = filter_map stream_number (cons_option (message_emitted answer) [])

-- what a history tells
abbrev pub sending : List Entry → Sending
sending h =
    record {
      put = put_messages h;
      acked = acked_numbers h;
      emitted = emitted_numbers h;
      moments = transmissions h;
      sent = sent_since_opened h;
      due = marked_due h;
    }

-- what it tells with one entry more
abbrev pub sending_after : Sending → EndAnswer → EndCall → Sending
sending_after s answer call =
    record {
      put = s.put ++ cons_option (message_put answer call) [];
      acked = s.acked ++ cons_option (number_acked answer) [];
      emitted = s.emitted ++ numbers_out answer;
      moments = s.moments ++ cons_option (number_transmitted answer call) [];
      sent = sent_after s.sent answer call;
      due = marked_after s.due answer;
    }

pub emitted_numbers-push : (h : List Entry) (e : Entry)
    → emitted_numbers (h ++ e ∷ []) ≡ emitted_numbers h ++ numbers_out e.answer
emitted_numbers-push h e =
    ap (filter_map stream_number) (emissions-push h e)
    ∙ filter_map-append stream_number (emissions h) (cons_option (message_emitted e.answer) [])

pub sending-push : (h : List Entry) (e : Entry)
    → sending (h ++ e ∷ []) ≡ sending_after (sending h) e.answer e.call
sending-push h e =
    let put = put_messages-push h e in
    let acked = acked_numbers-push h e in
    let emitted = emitted_numbers-push h e in
    let moments = transmissions-push h e in
    let sent = sent_since_opened-push h e in
    let due = marked_due-push h e in
    cc

-- numbers that were given out, sent or marked are those of messages
pub record IsOrderly (s : Sending) : Type 0 where
  pub emitted : (n : ℕ) → has_number s.emitted n ≡ true → n < length s.put
  pub acked : (n : ℕ) → has_number s.acked n ≡ true → has_number s.emitted n ≡ true
  pub sent : (n : ℕ) → has_number s.sent n ≡ true → has_number s.emitted n ≡ true
  pub due : (n : ℕ) → has_number s.due n ≡ true → has_number s.emitted n ≡ true

-- a number in a list that this entry leaves as it is, or adds one to
pub emitted_after : (w : ℕ) (h : List Entry) (call : EndCall) (answer : EndAnswer)
    → ((n : ℕ) → has_number (emitted_numbers h) n ≡ true → n < length (put_messages h))
    → IsAnswered w h call answer
    → (n : ℕ)
    → has_number (emitted_numbers h ++ numbers_out answer) n ≡ true
    → n < length (put_messages h ++ cons_option (message_put answer call) [])
emitted_after w h call answer emitted answered =
    let same : (n : ℕ) → has_number (emitted_numbers h ++ []) n ≡ true → n < length
    (put_messages h ++ [])
    = λ n. rw (append-nil (emitted_numbers h), append-nil (put_messages h)) (emitted n) in
    by_cases w h
    (λ call answer. (n : ℕ) → has_number (emitted_numbers h ++ numbers_out answer) n ≡ true
    → n < length (put_messages h ++ cons_option (message_put answer call) []))
    (record {
      quiet = λ call answer quiet. rw (quiet.emitted, quiet.put) same;
      seq = λ item id now free n out.
          let longer = length_push (put_messages h)
          (record { item = item; id = id; date = max now 1; last = false }) in
          let below = emitted n (rw append-nil at out) in omega arith;
      seq_last = λ item id now free n out.
          let longer = length_push (put_messages h)
          (record { item = item; id = id; date = max now 1; last = true }) in
          let below = emitted n (rw append-nil at out) in omega arith;
      late = λ now n id item last there. same;
      released = λ now n id item last new so. same;
      finished = λ now n id item last new so. same;
      acked = λ now n out before. same;
      emit_ack = λ now p owed is. same;
      emit_stream = λ now n m below eligible is k out.
          rw (append-nil (put_messages h))
          (⊎_elim
          (λ (old : has_number (emitted_numbers h) k ≡ true). emitted k old)
          (λ (new : Some n ≡ Some k). let same : n ≡ k = cc in omega arith)
          (has_number-pushed (emitted_numbers h) (Some n) k out));
    }) call answer answered

pub acked_after : (w : ℕ) (h : List Entry) (call : EndCall) (answer : EndAnswer)
    → ((n : ℕ) → has_number (acked_numbers h) n ≡ true → has_number (emitted_numbers h) n ≡ true)
    → IsAnswered w h call answer
    → (n : ℕ)
    → has_number (acked_numbers h ++ cons_option (number_acked answer) []) n ≡ true
    → has_number (emitted_numbers h) n ≡ true
acked_after w h call answer acked answered =
    let same : (n : ℕ) → has_number (acked_numbers h ++ []) n ≡ true → has_number
    (emitted_numbers h) n ≡ true = λ n. rw (append-nil (acked_numbers h)) (acked n) in
    by_cases w h
    (λ call answer. (n : ℕ) → has_number
    (acked_numbers h ++ cons_option (number_acked answer) []) n ≡ true → has_number
    (emitted_numbers h) n ≡ true)
    (record {
      quiet = λ call answer quiet. rw quiet.acked same;
      seq = λ item id now free. same;
      seq_last = λ item id now free. same;
      late = λ now n id item last there. same;
      released = λ now n id item last new so. same;
      finished = λ now n id item last new so. same;
      acked = λ now n out before k there.
          ⊎_elim
          (λ (old : has_number (acked_numbers h) k ≡ true). acked k old)
          (λ (new : Some n ≡ Some k). let same : n ≡ k = cc in
          subst (λ (j : ℕ). has_number (emitted_numbers h) j ≡ true) same out)
          (has_number-pushed (acked_numbers h) (Some n) k there);
      emit_ack = λ now p owed is. same;
      emit_stream = λ now n m below eligible is. same;
    }) call answer answered

-- what was sent is forgotten, or as it was with what is given out
sent_cases : (sent : List ℕ) (answer : EndAnswer) (call : EndCall)
    → (sent_after sent answer call ≡ []) ⊎
    (sent_after sent answer call ≡ sent ++ numbers_out answer)
sent_cases sent answer (EndCall.Opened now) = inl refl
sent_cases sent (EndAnswer.Pull (Pull.Emit (Outgoing.Stream m))) call = inr refl
sent_cases sent answer call = inr (sym (append-nil sent))

pub sent_orderly : (h : List Entry) (call : EndCall) (answer : EndAnswer)
    → ((n : ℕ) → has_number (sent_since_opened h) n ≡ true → has_number (emitted_numbers h) n
    ≡ true)
    → (n : ℕ)
    → has_number (sent_after (sent_since_opened h) answer call) n ≡ true
    → has_number (emitted_numbers h ++ numbers_out answer) n ≡ true
sent_orderly h call answer sent n there =
    ⊎_elim
    (λ (none : sent_after (sent_since_opened h) answer call ≡ []). let never : has_number [] n
    ≡ true = subst (λ (l : List ℕ). has_number l n ≡ true) none there in cc)
    (λ (more : sent_after (sent_since_opened h) answer call ≡ sent_since_opened h
    ++ numbers_out answer).
    has_number-append (emitted_numbers h) (numbers_out answer) n
    ∙ ⊎_elim
    (λ (old : has_number (sent_since_opened h) n ≡ true). or_left (has_number (emitted_numbers h) n)
    (has_number (numbers_out answer) n) (sent n old))
    (λ (new : has_number (numbers_out answer) n ≡ true). or_right (has_number (emitted_numbers h) n)
    (has_number (numbers_out answer) n) new)
    (or_cases (has_number (sent_since_opened h) n) (has_number (numbers_out answer) n)
    (sym (has_number-append (sent_since_opened h) (numbers_out answer) n)
    ∙ subst (λ (l : List ℕ). has_number l n ≡ true) more there)))
    (sent_cases (sent_since_opened h) answer call)

-- how often a timer expired, with one entry more
pub due_count-push : (h : List Entry) (e : Entry) (n : ℕ)
    → due_count (h ++ e ∷ []) n ≡ due_count h n + cond (is_due n e.answer) 1 0
due_count-push h e n = sum_by-append (λ (x : Entry). cond (is_due n x.answer) 1 0) h (e ∷ [])
    ∙ (let one : 0 + cond (is_due n e.answer) 1 0 ≡ cond (is_due n e.answer) 1 0 = omega arith in
    ap (λ (k : ℕ). due_count h n + k) one)

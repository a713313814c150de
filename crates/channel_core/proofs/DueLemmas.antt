-- Which messages a timer marks, and that the numbers of the sending half are in order.
use Rattle.std.proofs.Common.{◌≡◌, ◌≢◌, ℕ, ◌+◌, ◌<◌, ◌≤◌, true, false, not, cond, ◌||◌, Some, List, [], ◌∷◌, ◌++◌, ◌⊎◌, ⊎_elim, refl, sym, ap, subst, ◌∙◌, arith, length, filter, eqb, leb}
use Rattle.std.specs.List.{cons_option}
use Rattle.std.proofs.lemmas.Bool.{and_parts, both_ways, cases_eq, cond_both, eqb-true, false_from_ne_true, not-false}
use Rattle.channel_core.specs.declared.call.EndAnswer.{EndAnswer}
use Rattle.channel_core.specs.declared.call.EndCall.{EndCall}
use Rattle.channel_core.specs.declared.message.Outgoing.TheVariants as Outgoing
use Rattle.channel_core.specs.declared.answer.Pull.TheVariants as Pull
use Rattle.channel_core.specs.declared.answer.Tick.{Tick}
use Rattle.channel_core.specs.Call.{Entry}
use Rattle.channel_core.specs.History.{acked_numbers, emissions, emitted_numbers, is_closed, is_up, lowest_unacked, number_acked, put_messages}
use Rattle.channel_core.specs.Legal.{IsAnswered, IsLegal, IsNoMemory, answer_to, answer_to_tick, is_expired}
use Rattle.channel_core.specs.Numbers.{has_number, least_absent}
use Rattle.channel_core.specs.Resending.{due_count, is_due, marked_after, marked_due, sent_since_opened, transmissions}
use Rattle.channel_core.proofs.HistoryLemmas.{acked_numbers-push, by_pushes}
use Rattle.channel_core.proofs.LegalLemmas.{IsLegal-pushed, answered_cases}
use Rattle.channel_core.proofs.NumberLemmas.{has_number-kept, has_number-more, has_number-pushed, has_number-without, least_absent-grows, least_absent-le}
use Rattle.channel_core.proofs.PendingLemmas.{Sending}
use Rattle.resend_queue.specs.Queue.{max_dues}
use Rattle.channel_core.proofs.SendingLemmas.{numbers_out, sending, sending_after, sending-push, IsOrderly, emitted_after, acked_after, sent_orderly, due_count-push}

-- what a timer that expired tells of its number
abbrev IsExpired : List Entry → ℕ → Type 0
IsExpired h n = (n ≡ lowest_unacked h) × (has_number (sent_since_opened h) n ≡ true)

due_answer : (h : List Entry) (now n : ℕ) → Tick.Due n ≡ answer_to_tick h now → IsExpired h n
unfolding answer_to_tick
due_answer h now n =
    let low = lowest_unacked h in
    let P : Tick → Type 0 = λ t. Tick.Due n ≡ t → IsExpired h n in
    let gives : Tick = cond (leb max_dues (due_count h low)) (Tick.GaveUp low) (Tick.Due low) in
    let waits : Tick = cond (not (is_expired h low now)) Tick.Nothing gives in
    let none : Tick = cond (eqb low (length (put_messages h))) Tick.Nothing waits in
    cond_both (is_closed h || not (is_up h)) Tick.Nothing none P
    (λ _. nothing)
    (λ _. cond_both (eqb low (length (put_messages h))) Tick.Nothing waits P
    (λ _. nothing)
    (λ _. cond_both (not (is_expired h low now)) Tick.Nothing gives P
    (λ _. nothing)
    (λ expired. cond_both (leb max_dues (due_count h low)) (Tick.GaveUp low) (Tick.Due low) P
    (λ _. gave_up low)
    (λ _ is. due low is
    (and_parts (has_number (sent_since_opened h) low) _
    (not-false (is_expired h low now) expired)).0))))
  where
    nothing : Tick.Due n ≡ Tick.Nothing → IsExpired h n
    nothing is = cc

    gave_up : (k : ℕ) → Tick.Due n ≡ Tick.GaveUp k → IsExpired h n
    gave_up k is = cc

    due : (k : ℕ)
        → Tick.Due n ≡ Tick.Due k
        → has_number (sent_since_opened h) k ≡ true
        → (n ≡ k) × (has_number (sent_since_opened h) n ≡ true)
    due k is sent = let same : n ≡ k = cc in (same, rw same sent)

-- a timer expires at a tick alone
pub due_answered : (w : ℕ) (h : List Entry) (call : EndCall) (n : ℕ)
    → IsAnswered w h call (EndAnswer.Tick (Tick.Due n))
    → IsExpired h n
due_answered w h call n answered =
    answered_cases w h call (EndAnswer.Tick (Tick.Due n)) answered (at call)
    (λ none. absurd (no call none))
  where
    -- no call tells want of memory so
    no : (call : EndCall) → IsNoMemory call (EndAnswer.Tick (Tick.Due n)) → ⊥
    no (EndCall.Heard now incoming) is = cc
    no (EndCall.Pull now) is = cc
    no call never = never

    at : (call : EndCall) → EndAnswer.Tick (Tick.Due n) ≡ answer_to w h call → IsExpired h n
    at (EndCall.Tick now) is = due_answer h now n cc
    at (EndCall.Put item id now) is = cc
    at (EndCall.PutLast item id now) is = cc
    at (EndCall.Heard now incoming) is = cc
    at (EndCall.Pull now) is = cc
    at EndCall.Lost is = cc
    at (EndCall.Opened now) is = cc
    at EndCall.Close is = cc
    at EndCall.Look is = cc

due_orderly : (w : ℕ) (h : List Entry) (call : EndCall) (answer : EndAnswer)
    → IsAnswered w h call answer
    → ((n : ℕ) → has_number (sent_since_opened h) n ≡ true → has_number (emitted_numbers h) n
    ≡ true)
    → ((n : ℕ) → has_number (marked_due h) n ≡ true → has_number (emitted_numbers h) n ≡ true)
    → (n : ℕ)
    → has_number (marked_after (marked_due h) answer) n ≡ true
    → has_number (emitted_numbers h ++ numbers_out answer) n ≡ true
due_orderly w h call (EndAnswer.Tick (Tick.Due k)) answered sent due n there =
    has_number-more (emitted_numbers h) [] n
    (⊎_elim
    (λ (old : has_number (marked_due h) n ≡ true). due n old)
    (λ (new : Some k ≡ Some n). let same : k ≡ n = cc in
    subst (λ (j : ℕ). has_number (emitted_numbers h) j ≡ true) same
    (sent k (due_answered w h call k answered).1))
    (has_number-pushed (marked_due h) (Some k) n there))
due_orderly w h call (EndAnswer.Pull (Pull.Emit (Outgoing.Stream m))) answered sent due n there =
    has_number-more (emitted_numbers h) (m.seq ∷ []) n
    (⊎_elim
    (λ (same : n ≡ m.seq). absurd
    (both_ways (has_number (filter (λ j. not (eqb j m.seq)) (marked_due h)) n)
    (rw same (has_number-without (marked_due h) m.seq)) there))
    (λ (apart : n ≢ m.seq). due n (sym (has_number-kept (marked_due h) m.seq n apart) ∙ there))
    (cases_eq n m.seq))
due_orderly w h call answer answered sent due n there =
    has_number-more (emitted_numbers h) (numbers_out answer) n (due n there)

orderly_after : (w : ℕ) (h : List Entry) (e : Entry)
    → IsOrderly (sending h)
    → IsAnswered w h e.call e.answer
    → IsOrderly (sending_after (sending h) e.answer e.call)
orderly_after w h e orderly answered =
    record {
      emitted = emitted_after w h e.call e.answer orderly.emitted answered;
      acked = λ n there. has_number-more (emitted_numbers h) (numbers_out e.answer) n
          (acked_after w h e.call e.answer orderly.acked answered n there);
      sent = sent_orderly h e.call e.answer orderly.sent;
      due = due_orderly w h e.call e.answer answered orderly.sent orderly.due;
    }

orderly_nil : IsOrderly (sending [])
unfolding put_messages acked_numbers emissions transmissions sent_since_opened marked_due
orderly_nil =
    record {
      emitted = λ n there. cc;
      acked = λ n there. cc;
      sent = λ n there. cc;
      due = λ n there. cc;
    }

-- each legal history is orderly
pub orderly : (w : ℕ) (h : List Entry) → IsLegal w h → IsOrderly (sending h)
orderly w h =
    by_pushes (λ h. IsLegal w h → IsOrderly (sending h))
    (λ legal. orderly_nil)
    (λ h e before legal. let parts = IsLegal-pushed w h e legal in
    subst IsOrderly (sym (sending-push h e)) (orderly_after w h e (before parts.0) parts.1))
    h

-- the lowest unacknowledged number is at most the count
pub low-le : (s : Sending) → IsOrderly s → least_absent s.acked ≤ length s.put
low-le s orderly =
    least_absent-le s.acked (length s.put)
    (false_from_ne_true (has_number s.acked (length s.put))
    (λ there. let below = orderly.emitted (length s.put) (orderly.acked (length s.put) there) in
    omega arith))

-- which answer says that a timer expired
is_due-answer : (n : ℕ) (answer : EndAnswer)
    → is_due n answer ≡ true
    → answer ≡ EndAnswer.Tick (Tick.Due n)
is_due-answer n (EndAnswer.Tick (Tick.Due k)) is =
    ap (λ (j : ℕ). EndAnswer.Tick (Tick.Due j)) (sym (eqb-true n k is))
is_due-answer n answer is = cc

-- the timer of a number above the lowest unacknowledged one never expired
pub due_count-above : (w : ℕ) (h : List Entry)
    → IsLegal w h
    → (n : ℕ)
    → lowest_unacked h < n
    → due_count h n ≡ 0
due_count-above w h =
    by_pushes (λ h. IsLegal w h → (n : ℕ) → lowest_unacked h < n → due_count h n ≡ 0)
    (λ legal n above. refl)
    (λ h e before legal n above.
    let parts = IsLegal-pushed w h e legal in
    let grows : lowest_unacked h ≤ lowest_unacked (h ++ e ∷ [])
    = rw acked_numbers-push
    (least_absent-grows (acked_numbers h) (cons_option (number_acked e.answer) [])) in
    let never : is_due n e.answer ≡ false = false_from_ne_true (is_due n e.answer) (λ is.
    let answered : IsAnswered w h e.call (EndAnswer.Tick (Tick.Due n))
    = subst (IsAnswered w h e.call) (is_due-answer n e.answer is) parts.1 in
    let low = (due_answered w h e.call n answered).0 in omega arith) in
    let old : due_count h n ≡ 0 = before parts.0 n (omega arith) in
    due_count-push h e n ∙ rw (old, never) refl)
    h

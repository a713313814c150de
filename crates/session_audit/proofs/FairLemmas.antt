-- What a legal history tells of timers, numbers and dates, beyond what the core's own lemmas say.
use Rattle.std.proofs.Common.{ℕ, ◌≡◌, ◌≢◌, ◌+◌, ◌<◌, ◌≤◌, max, true, false, not, cond, ◌||◌, Some, List, [], ◌∷◌, ◌++◌, ◌⊎◌, inl, inr, ⊎_elim, refl, sym, ap, subst, ◌∙◌, arith, eqb, leb, length, filter}
use Rattle.std.specs.List.{All, cons_option, list_any}
use Rattle.std.proofs.lemmas.Bool.{and_parts, both_ways, cases_Bool, cases_eq, cond_both, eqb-true, false_from_ne_true, leb-false, not-false, not-true, or_parts}
use Rattle.std.proofs.lemmas.List.{append-nil, length_push}
use Rattle.std.proofs.lemmas.List.Elements.{All-nil, All-push}
use Rattle.channel_core.specs.declared.call.EndAnswer.{EndAnswer}
use Rattle.channel_core.specs.declared.call.EndCall.{EndCall}
use Rattle.channel_core.specs.declared.message.Outgoing.TheVariants as Outgoing
use Rattle.channel_core.specs.declared.answer.Pull.TheVariants as Pull
use Rattle.channel_core.specs.declared.answer.Tick.{Tick}
use Rattle.channel_core.specs.Call.{Entry}
use Rattle.channel_core.specs.History.{PutMessage, acked_numbers, is_closed, is_up, lowest_unacked, message_put, number_acked, put_messages}
use Rattle.channel_core.specs.Legal.{IsAnswered, IsLegal, IsNoMemory, answer_to, answer_to_tick, is_expired}
use Rattle.chan_values.specs.Limits.{max_seq}
use Rattle.channel_core.specs.Numbers.{has_number}
use Rattle.channel_core.specs.Resending.{due_count, is_due, marked_after, marked_due, sent_since_opened}
use Rattle.channel_core.proofs.HistoryLemmas.{acked_numbers-push, by_pushes, marked_due-push, put_messages-push}
use Rattle.channel_core.proofs.LegalLemmas.{HasRoom, IsLegal-pushed, answered_cases}
use Rattle.channel_core.proofs.CaseLemmas.{by_cases}
use Rattle.channel_core.proofs.NumberLemmas.{has_number-kept, has_number-more, has_number-pushed, has_number-without, least_absent-grows, least_absent-le}
use Rattle.channel_core.proofs.SendingLemmas.{due_count-push}

-- what an answer Due tells of its number
pub record IsDue (h : List Entry) (n : ℕ) : Type 0 where
  pub low : n ≡ lowest_unacked h
  pub unmarked : has_number (marked_due h) n ≡ false
  pub few : due_count h n < 3000

due_told : (h : List Entry) (now n : ℕ) → Tick.Due n ≡ answer_to_tick h now → IsDue h n
unfolding answer_to_tick
due_told h now n =
    let low = lowest_unacked h in
    let P : Tick → Type 0 = λ t. Tick.Due n ≡ t → IsDue h n in
    let gives : Tick = cond (leb 3000 (due_count h low)) (Tick.GaveUp low) (Tick.Due low) in
    let waits : Tick = cond (not (is_expired h low now)) Tick.Nothing gives in
    let none : Tick = cond (eqb low (length (put_messages h))) Tick.Nothing waits in
    cond_both (is_closed h || not (is_up h)) Tick.Nothing none P
    (λ _. nothing)
    (λ _. cond_both (eqb low (length (put_messages h))) Tick.Nothing waits P
    (λ _. nothing)
    (λ _. cond_both (not (is_expired h low now)) Tick.Nothing gives P
    (λ _. nothing)
    (λ expired. cond_both (leb 3000 (due_count h low)) (Tick.GaveUp low) (Tick.Due low) P
    (λ _. gave_up low)
    (λ few is. due low is
    (not-true (has_number (marked_due h) low)
    (and_parts (not (has_number (marked_due h) low)) _
    (and_parts (has_number (sent_since_opened h) low) _
    (not-false (is_expired h low now) expired)).1).0)
    (leb-false 3000 (due_count h low) few) refl))))
  where
    nothing : Tick.Due n ≡ Tick.Nothing → IsDue h n
    nothing is = cc

    gave_up : (k : ℕ) → Tick.Due n ≡ Tick.GaveUp k → IsDue h n
    gave_up k is = cc

    due : (k : ℕ)
        → Tick.Due n ≡ Tick.Due k
        → has_number (marked_due h) k ≡ false
        → due_count h k < 3000
        → k ≡ lowest_unacked h
        → IsDue h n
    due k is unmarked few low =
        let same : n ≡ k = cc in
        record { low = same ∙ low; unmarked = rw same unmarked; few = rw same few }

-- a timer expires at a tick alone
pub due_answered : (w : ℕ) (h : List Entry) (call : EndCall) (n : ℕ)
    → IsAnswered w h call (EndAnswer.Tick (Tick.Due n))
    → IsDue h n
due_answered w h call n answered =
    answered_cases w h call (EndAnswer.Tick (Tick.Due n)) answered (at call)
    (λ none. absurd (no call none))
  where
    -- no call tells want of memory so
    no : (call : EndCall) → IsNoMemory call (EndAnswer.Tick (Tick.Due n)) → ⊥
    no (EndCall.Heard now incoming) is = cc
    no (EndCall.Pull now) is = cc
    no call never = never

    at : (call : EndCall) → EndAnswer.Tick (Tick.Due n) ≡ answer_to w h call → IsDue h n
    at (EndCall.Tick now) is = due_told h now n cc
    at (EndCall.Put item id now) is = cc
    at (EndCall.PutLast item id now) is = cc
    at (EndCall.Heard now incoming) is = cc
    at (EndCall.Pull now) is = cc
    at EndCall.Lost is = cc
    at (EndCall.Opened now) is = cc
    at EndCall.Close is = cc
    at EndCall.Look is = cc

-- which answer says that a timer expired
pub is_due-answer : (n : ℕ) (answer : EndAnswer)
    → is_due n answer ≡ true
    → answer ≡ EndAnswer.Tick (Tick.Due n)
is_due-answer n (EndAnswer.Tick (Tick.Due k)) is =
    ap (λ (j : ℕ). EndAnswer.Tick (Tick.Due j)) (sym (eqb-true n k is))
is_due-answer n answer is = cc

-- a number that is marked was so before, or its timer expired now
marked_before : (marked : List ℕ) (answer : EndAnswer) (n : ℕ)
    → has_number (marked_after marked answer) n ≡ true
    → (has_number marked n ≡ true) ⊎ (answer ≡ EndAnswer.Tick (Tick.Due n))
marked_before marked (EndAnswer.Tick (Tick.Due k)) n there =
    ⊎_elim
    (λ (old : has_number marked n ≡ true). inl old)
    (λ (new : Some k ≡ Some n). let same : k ≡ n = cc in
    inr (ap (λ (j : ℕ). EndAnswer.Tick (Tick.Due j)) same))
    (has_number-pushed marked (Some k) n there)
marked_before marked (EndAnswer.Pull (Pull.Emit (Outgoing.Stream m))) n there =
    ⊎_elim
    (λ (same : n ≡ m.seq). absurd
    (both_ways (has_number (filter (λ j. not (eqb j m.seq)) marked) n)
    (rw same (has_number-without marked m.seq)) there))
    (λ (apart : n ≢ m.seq). inl (sym (has_number-kept marked m.seq n apart) ∙ there))
    (cases_eq n m.seq)
marked_before marked answer n there = inl there

-- a message has a date
abbrev pub IsDated : PutMessage → Type 0
IsDated m = 0 < m.date

-- no message that others follow is the last
abbrev pub EndsAtLast : List PutMessage → Type 0
EndsAtLast put =
    (front rest : List PutMessage) (m : PutMessage)
    → front ++ m ∷ rest ≡ put
    → list_any (λ (p : PutMessage). p.last) front ≡ false

-- a legal history is fair
pub record IsFair (h : List Entry) : Type 0 where
  -- no timer expired more than 3,000 times
  pub few : (n : ℕ) → due_count h n ≤ 3000
  -- only the lowest unacknowledged number is marked
  pub low : (n : ℕ)
      → has_number (marked_due h) n ≡ true
      → has_number (acked_numbers h) n ≡ false
      → n ≡ lowest_unacked h
  -- there are no more numbers than there may be
  pub count : length (put_messages h) ≤ max_seq + 1
  pub dated : All IsDated (put_messages h)
  -- only the final message was put in as the last
  pub ends : EndsAtLast (put_messages h)

-- what is told of the messages that were put in
record IsPutSo (put : List PutMessage) : Type 0 where
  count : length put ≤ max_seq + 1
  dated : All IsDated put
  ends : EndsAtLast put

-- a message may follow those of which none is the last
ends_at-push : (put : List PutMessage) (m : PutMessage)
    → list_any (λ (p : PutMessage). p.last) put ≡ false
    → EndsAtLast (put ++ m ∷ [])
ends_at-push put m none [] rest x is = refl
ends_at-push [] m none (p ∷ front) rest x is =
    let never : front ++ x ∷ rest ≡ [] = cc in absurd (no front never)
  where
    no : (front : List PutMessage) → front ++ x ∷ rest ≡ [] → ⊥
    no [] is = cc
    no (q ∷ front) is = cc
ends_at-push (q ∷ put) m none (p ∷ front) rest x is =
    let first : p ≡ q = cc in
    let tail : front ++ x ∷ rest ≡ put ++ m ∷ [] = cc in
    let parts = or_parts q.last (list_any (λ (p : PutMessage). p.last) put) none in
    let here : p.last ≡ false = ap (λ (y : PutMessage). y.last) first ∙ parts.0 in
    rw (here, ends_at-push put m parts.1 front rest x tail) refl

fair_after : (w : ℕ) (h : List Entry) (e : Entry)
    → IsFair h
    → IsAnswered w h e.call e.answer
    → IsFair (h ++ e ∷ [])
fair_after w h e fair answered =
    record {
      few = λ n. rw (due_count-push h e n) (few n (cases_Bool (is_due n e.answer)));
      low = λ n marked unacked. low n (rw marked_due-push at marked) unacked;
      count = rw put_messages-push (puts e.call e.answer answered).count;
      dated = rw put_messages-push (puts e.call e.answer answered).dated;
      ends = rw put_messages-push (puts e.call e.answer answered).ends;
    }
  where
    few : (n : ℕ)
        → (is_due n e.answer ≡ true) ⊎ (is_due n e.answer ≡ false)
        → due_count h n + cond (is_due n e.answer) 1 0 ≤ 3000
    few n (inl is) =
        let told = due_answered w h e.call n
        (subst (IsAnswered w h e.call) (is_due-answer n e.answer is) answered) in
        let less = told.few in
        rw is (omega arith)
    few n (inr is) = let old = fair.few n in rw is (omega arith)

    low : (n : ℕ)
        → has_number (marked_after (marked_due h) e.answer) n ≡ true
        → has_number (acked_numbers (h ++ e ∷ [])) n ≡ false
        → n ≡ lowest_unacked (h ++ e ∷ [])
    low n marked unacked =
        let grows : lowest_unacked h ≤ lowest_unacked (h ++ e ∷ [])
        = rw acked_numbers-push
        (least_absent-grows (acked_numbers h) (cons_option (number_acked e.answer) [])) in
        let most = least_absent-le (acked_numbers (h ++ e ∷ [])) n unacked in
        let before : has_number (acked_numbers h) n ≡ false
        = false_from_ne_true (has_number (acked_numbers h) n)
        (λ there. both_ways (has_number (acked_numbers (h ++ e ∷ [])) n) unacked
        (rw acked_numbers-push
        (has_number-more (acked_numbers h) (cons_option (number_acked e.answer) []) n there))) in
        let was : n ≡ lowest_unacked h
        = ⊎_elim
        (λ (old : has_number (marked_due h) n ≡ true). fair.low n old before)
        (λ (new : e.answer ≡ EndAnswer.Tick (Tick.Due n)).
        (due_answered w h e.call n (subst (IsAnswered w h e.call) new answered)).low)
        (marked_before (marked_due h) e.answer n marked) in
        omega (arith, was, grows, most)

    Puts : EndCall → EndAnswer → Type 0
    Puts call answer = IsPutSo (put_messages h ++ cons_option (message_put answer call) [])

    one : (m : PutMessage) → 0 < m.date → HasRoom w h → IsPutSo (put_messages h ++ m ∷ [])
    one m dated room =
        let longer = length_push (put_messages h) m in
        let old = fair.count in
        let left = room.left in
        record {
          count = omega (arith, old, left, longer);
          dated = All-push IsDated (put_messages h) m fair.dated dated;
          ends = ends_at-push (put_messages h) m room.goes_on;
        }

    puts : (call : EndCall) (answer : EndAnswer) → IsAnswered w h call answer → Puts call answer
    puts call answer answered =
        let same : IsPutSo (put_messages h ++ [])
        = rw (append-nil (put_messages h))
        (record { count = fair.count; dated = fair.dated; ends = fair.ends }) in
        by_cases w h Puts
        (record {
          quiet = λ call answer quiet. rw quiet.put same;
          seq = λ item id now room.
              one (record { item = item; id = id; date = max now 1; last = false }) (omega arith) room;
          seq_last = λ item id now room.
              one (record { item = item; id = id; date = max now 1; last = true }) (omega arith) room;
          late = λ now n id item last there. same;
          released = λ now n id item last new so. same;
          finished = λ now n id item last new so. same;
          acked = λ now n out before. same;
          emit_ack = λ now p owed is. same;
          emit_stream = λ now n m below eligible is. same;
        }) call answer answered

nothing_ends : EndsAtLast []
nothing_ends [] rest m is = refl
nothing_ends (p ∷ front) rest m is = cc

fair_nil : IsFair []
unfolding put_messages marked_due
fair_nil =
    record {
      few = λ n. omega arith;
      low = λ n marked unacked. cc;
      count = omega arith;
      dated = All-nil IsDated;
      ends = nothing_ends;
    }

-- each legal history is fair
pub fair : (w : ℕ) (h : List Entry) → IsLegal w h → IsFair h
fair w h =
    by_pushes (λ h. IsLegal w h → IsFair h)
    (λ legal. fair_nil)
    (λ h e before legal. let parts = IsLegal-pushed w h e legal in
    fair_after w h e (before parts.0) parts.1)
    h

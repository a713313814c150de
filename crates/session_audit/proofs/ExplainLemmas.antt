-- When a replayed history g stands for a history h: it shows the same, and whatever h can show next,
-- g can show too.
use Rattle.std.proofs.Common.{ℕ, ◌≡◌, ◌≢◌, ◌+◌, ◌<◌, ◌≤◌, Bool, true, false, not, ◌||◌, None, List, [], ◌∷◌, ◌++◌, ⊎_elim, refl, sym, ap, ◌∙◌, arith, append_assoc, eqb, filter, length}
use Rattle.std.specs.List.{cons_option}
use Rattle.std.proofs.lemmas.Bool.{cases_eq}
use Rattle.std.proofs.lemmas.List.{append-nil}
use Rattle.channel_core.specs.declared.call.EndAnswer.{EndAnswer}
use Rattle.channel_core.specs.declared.call.EndCall.{EndCall}
use Rattle.channel_core.specs.declared.message.Outgoing.TheVariants as Outgoing
use Rattle.channel_core.specs.declared.answer.Pull.TheVariants as Pull
use Rattle.channel_core.specs.Call.{Entry}
use Rattle.channel_core.specs.History.{PutMessage, TakenMessage, acked_numbers, closes, emitted_numbers, is_closed, is_paused, is_up, message_taken, message_put, number_acked, owed_acks, owed_after, paused_after, put_messages, taken_messages, up_after}
use Rattle.channel_core.specs.Numbers.{has_number}
use Rattle.channel_core.specs.Resending.{due_count, is_due, last_moment, marked_after, marked_due, number_transmitted, sent_after, sent_since_opened, transmissions}
use Rattle.channel_core.proofs.CountLemmas.{one_if}
use Rattle.channel_core.proofs.HistoryLemmas.{acked_numbers-push, is_closed-push, is_paused-push, is_up-push, marked_due-push, owed_acks-push, put_messages-push, sent_since_opened-push, taken_messages-push, transmissions-push}
use Rattle.channel_core.proofs.NumberLemmas.{has_number-kept, has_number-last, has_number-more, has_number-without}
use Rattle.channel_core.proofs.KeptLemmas.{last_moment-other, last_moment-same}
use Rattle.channel_core.proofs.SendingLemmas.{due_count-push, emitted_numbers-push, numbers_out}

-- The simulation. The two agree on all that decides what comes next, but for three things. h may have
-- put in messages that it has not given out yet. h may have marked a number that waits to go out
-- again, and g never has at rest. A timer expired in g no more often than in h: once less where h has
-- a mark. All moments of g at which a stream message went out are 0.
pub record Explains (w : ℕ) (h g : List Entry) : Type 0 where
  -- what h put in and has not given out
  pub rest : List PutMessage
  pub put : put_messages g ++ rest ≡ put_messages h
  pub acked : acked_numbers g ≡ acked_numbers h
  pub emitted : emitted_numbers g ≡ emitted_numbers h
  pub known : (n : ℕ) → n < length (put_messages g) → has_number (emitted_numbers g) n ≡ true
  pub sent : sent_since_opened g ≡ sent_since_opened h
  pub taken : taken_messages g ≡ taken_messages h
  pub owed : owed_acks w g ≡ owed_acks w h
  pub up : is_up g ≡ is_up h
  pub paused : is_paused g ≡ is_paused h
  pub closed : is_closed g ≡ is_closed h
  pub unmarked : (n : ℕ) → has_number (marked_due g) n ≡ false
  pub dues : (n : ℕ) → due_count g n + one_if (has_number (marked_due h) n) ≤ due_count h n
  pub moments : (n : ℕ) → last_moment (transmissions g) n ≡ 0

-- an entry that cannot be seen: it changes at most what is put in and what is marked
pub record IsHidden (answer : EndAnswer) (call : EndCall) : Type 0 where
  pub acked : number_acked answer ≡ None
  pub out : numbers_out answer ≡ []
  pub sent : (l : List ℕ) → sent_after l answer call ≡ l
  pub taken : message_taken answer call ≡ None
  pub owed : (w : ℕ) (l : List (ℕ × List ℕ)) → owed_after w l answer call ≡ l
  pub up : (b : Bool) → up_after b call ≡ b
  pub paused : (b : Bool) → paused_after b answer call ≡ b
  pub closed : closes answer call ≡ false

-- a choice of nothing more
pub or_none : (b : Bool) → (b || (false || false)) ≡ b
or_none true = refl
or_none false = refl

-- an entry that cannot be seen needs none in the replay
pub hidden : (w : ℕ) (h g : List Entry) (e : Entry)
    → Explains w h g
    → IsHidden e.answer e.call
    → ((n : ℕ)
    → due_count g n + one_if (has_number (marked_after (marked_due h) e.answer) n)
    ≤ due_count (h ++ e ∷ []) n)
    → Explains w (h ++ e ∷ []) g
hidden w h g e x hides dues =
    let more = cons_option (message_put e.answer e.call) [] in
    record {
      rest = x.rest ++ more;
      put = sym (append_assoc (put_messages g) x.rest more)
          ∙ ap (λ (l : List PutMessage). l ++ more) x.put
          ∙ sym (put_messages-push h e);
      acked = x.acked ∙ sym (rw (acked_numbers-push, hides.acked) (append-nil (acked_numbers h)));
      emitted = x.emitted
          ∙ sym (emitted_numbers-push h e ∙ rw hides.out (append-nil (emitted_numbers h)));
      known = x.known;
      sent = x.sent ∙ sym (sent_since_opened-push h e ∙ hides.sent (sent_since_opened h));
      taken = x.taken ∙ sym (rw (taken_messages-push, hides.taken) (append-nil (taken_messages h)));
      owed = x.owed ∙ sym (owed_acks-push w h e ∙ hides.owed w (owed_acks w h));
      up = x.up ∙ sym (is_up-push h e ∙ hides.up (is_up h));
      paused = x.paused ∙ sym (is_paused-push h e ∙ hides.paused (is_paused h));
      closed = x.closed ∙ sym (is_closed-push h e ∙ rw hides.closed (or_none (is_closed h)));
      unmarked = x.unmarked;
      dues = λ n. rw marked_due-push (dues n);
      moments = x.moments;
    }

-- two entries that can be seen, and change the same
pub record IsTwin (e f : Entry) : Type 0 where
  pub put : message_put e.answer e.call ≡ None
  pub put_too : message_put f.answer f.call ≡ None
  pub acked : number_acked f.answer ≡ number_acked e.answer
  pub out : numbers_out f.answer ≡ numbers_out e.answer
  pub sent : (l : List ℕ) → sent_after l f.answer f.call ≡ sent_after l e.answer e.call
  pub taken : message_taken f.answer f.call ≡ message_taken e.answer e.call
  pub owed : (w : ℕ) (l : List (ℕ × List ℕ))
      → owed_after w l f.answer f.call ≡ owed_after w l e.answer e.call
  pub up : (b : Bool) → up_after b f.call ≡ up_after b e.call
  pub paused : (b : Bool) → paused_after b f.answer f.call ≡ paused_after b e.answer e.call
  pub closed : closes f.answer f.call ≡ closes e.answer e.call
  pub mark : (l : List ℕ) → marked_after l e.answer ≡ l
  pub mark_too : (l : List ℕ) → marked_after l f.answer ≡ l
  pub due : (n : ℕ) → is_due n e.answer ≡ false
  pub due_too : (n : ℕ) → is_due n f.answer ≡ false
  pub moment : number_transmitted f.answer f.call ≡ None

-- no timer expired
due_count-still : (h : List Entry) (e : Entry) (n : ℕ)
    → is_due n e.answer ≡ false
    → due_count (h ++ e ∷ []) n ≡ due_count h n
due_count-still h e n none = due_count-push h e n ∙ rw none (omega arith)

-- twins keep the simulation
pub twins : (w : ℕ) (h g : List Entry) (e f : Entry)
    → Explains w h g
    → IsTwin e f
    → Explains w (h ++ e ∷ []) (g ++ f ∷ [])
twins w h g e f x twin =
    let put_h : put_messages (h ++ e ∷ []) ≡ put_messages h
    = rw (put_messages-push, twin.put) (append-nil (put_messages h)) in
    let put_g : put_messages (g ++ f ∷ []) ≡ put_messages g
    = rw (put_messages-push, twin.put_too) (append-nil (put_messages g)) in
    record {
      rest = x.rest;
      put = rw (put_h, put_g) x.put;
      acked = rw (acked_numbers-push g f, acked_numbers-push h e, twin.acked, x.acked) refl;
      emitted = rw (emitted_numbers-push g f, emitted_numbers-push h e, twin.out, x.emitted) refl;
      known = λ n below.
          rw (emitted_numbers-push g f)
          (has_number-more (emitted_numbers g) (numbers_out f.answer) n
          (x.known n (rw put_g at below)));
      sent = sent_since_opened-push g f
          ∙ twin.sent (sent_since_opened g)
          ∙ ap (λ (l : List ℕ). sent_after l e.answer e.call) x.sent
          ∙ sym (sent_since_opened-push h e);
      taken = rw (taken_messages-push g f, taken_messages-push h e, twin.taken, x.taken) refl;
      owed = owed_acks-push w g f
          ∙ twin.owed w (owed_acks w g)
          ∙ ap (λ (l : List (ℕ × List ℕ)). owed_after w l e.answer e.call) x.owed
          ∙ sym (owed_acks-push w h e);
      up = is_up-push g f
          ∙ twin.up (is_up g)
          ∙ ap (λ (b : Bool). up_after b e.call) x.up
          ∙ sym (is_up-push h e);
      paused = is_paused-push g f
          ∙ twin.paused (is_paused g)
          ∙ ap (λ (b : Bool). paused_after b e.answer e.call) x.paused
          ∙ sym (is_paused-push h e);
      closed = is_closed-push g f
          ∙ ap (λ (b : Bool). is_closed g || (b || false)) twin.closed
          ∙ ap (λ (b : Bool). b || (closes e.answer e.call || false)) x.closed
          ∙ sym (is_closed-push h e);
      unmarked = λ n.
          rw (marked_due-push g f, twin.mark_too (marked_due g)) (x.unmarked n);
      dues = λ n.
          rw (
            marked_due-push h e,
            twin.mark (marked_due h),
            due_count-still h e n (twin.due n),
            due_count-still g f n (twin.due_too n),
          ) (x.dues n);
      moments = λ n.
          rw (transmissions-push g f, twin.moment, append-nil (transmissions g)) (x.moments n);
    }

-- The replay g is ready to give out the number n, which h gives out next: as in the simulation, but
-- for the number itself, which may be new and may be marked.
pub record IsReady (w : ℕ) (h g : List Entry) (n : ℕ) : Type 0 where
  pub rest : List PutMessage
  pub put : put_messages g ++ rest ≡ put_messages h
  pub acked : acked_numbers g ≡ acked_numbers h
  pub emitted : emitted_numbers g ≡ emitted_numbers h
  pub known : (k : ℕ)
      → k ≢ n
      → k < length (put_messages g)
      → has_number (emitted_numbers g) k ≡ true
  pub sent : sent_since_opened g ≡ sent_since_opened h
  pub taken : taken_messages g ≡ taken_messages h
  pub owed : owed_acks w g ≡ owed_acks w h
  pub up : is_up g ≡ is_up h
  pub paused : is_paused g ≡ is_paused h
  pub closed : is_closed g ≡ is_closed h
  pub unmarked : (k : ℕ) → k ≢ n → has_number (marked_due g) k ≡ false
  pub dues : (k : ℕ)
      → k ≢ n
      → due_count g k + one_if (has_number (marked_due h) k) ≤ due_count h k
  pub due : due_count g n ≤ due_count h n
  pub moments : (k : ℕ) → last_moment (transmissions g) k ≡ 0
  -- the number is there, and may go
  pub there : n < length (put_messages g)
  pub goes : (not (has_number (sent_since_opened g) n) || has_number (marked_due g) n) ≡ true

-- where both give the number out, the simulation holds again
pub given_out : (w : ℕ) (h g : List Entry) (n now : ℕ) (m : PutMessage)
    → IsReady w h g n
    → (let answer = EndAnswer.Pull (Pull.Emit (Outgoing.Stream
    (record { seq = n; id = m.id; date = m.date; item = m.item; last = m.last }))) in
    Explains w
    (h ++ record { call = EndCall.Pull now; answer = answer } ∷ [])
    (g ++ record { call = EndCall.Pull 0; answer = answer } ∷ []))
given_out w h g n now m x =
    let answer = EndAnswer.Pull (Pull.Emit (Outgoing.Stream
    (record { seq = n; id = m.id; date = m.date; item = m.item; last = m.last }))) in
    let e : Entry = record { call = EndCall.Pull now; answer = answer } in
    let f : Entry = record { call = EndCall.Pull 0; answer = answer } in
    let put_h : put_messages (h ++ e ∷ []) ≡ put_messages h
    = put_messages-push h e ∙ append-nil (put_messages h) in
    let put_g : put_messages (g ++ f ∷ []) ≡ put_messages g
    = put_messages-push g f ∙ append-nil (put_messages g) in
    let emitted_g : emitted_numbers (g ++ f ∷ []) ≡ emitted_numbers g ++ n ∷ []
    = emitted_numbers-push g f in
    let marked_h : marked_due (h ++ e ∷ []) ≡ filter (λ k. not (eqb k n)) (marked_due h)
    = marked_due-push h e in
    let marked_g : marked_due (g ++ f ∷ []) ≡ filter (λ k. not (eqb k n)) (marked_due g)
    = marked_due-push g f in
    let moments_g : transmissions (g ++ f ∷ []) ≡ transmissions g ++ (n, 0) ∷ []
    = transmissions-push g f in
    record {
      rest = x.rest;
      put = rw (put_h, put_g) x.put;
      acked = acked_numbers-push g f
          ∙ ap (λ (l : List ℕ). l ++ []) x.acked
          ∙ sym (acked_numbers-push h e);
      emitted = emitted_g
          ∙ ap (λ (l : List ℕ). l ++ n ∷ []) x.emitted
          ∙ sym (emitted_numbers-push h e);
      known = λ k below.
          rw emitted_g
          (⊎_elim
          (λ (same : k ≡ n). rw same (has_number-last (emitted_numbers g) n))
          (λ (apart : k ≡ n → ⊥).
          has_number-more (emitted_numbers g) (n ∷ []) k (x.known k apart (rw put_g at below)))
          (cases_eq k n));
      sent = sent_since_opened-push g f
          ∙ ap (λ (l : List ℕ). l ++ n ∷ []) x.sent
          ∙ sym (sent_since_opened-push h e);
      taken = taken_messages-push g f
          ∙ ap (λ (l : List TakenMessage). l ++ []) x.taken
          ∙ sym (taken_messages-push h e);
      owed = owed_acks-push w g f ∙ x.owed ∙ sym (owed_acks-push w h e);
      up = is_up-push g f ∙ x.up ∙ sym (is_up-push h e);
      paused = is_paused-push g f ∙ x.paused ∙ sym (is_paused-push h e);
      closed = is_closed-push g f
          ∙ ap (λ (b : Bool). b || (false || false)) x.closed
          ∙ sym (is_closed-push h e);
      unmarked = λ k.
          rw marked_g
          (⊎_elim
          (λ (same : k ≡ n). rw same (has_number-without (marked_due g) n))
          (λ (apart : k ≡ n → ⊥). has_number-kept (marked_due g) n k apart ∙ x.unmarked k apart)
          (cases_eq k n));
      dues = λ k.
          rw (marked_h, due_count-still h e k refl, due_count-still g f k refl)
          (⊎_elim
          (λ (same : k ≡ n).
          let due = x.due in
          rw (same, has_number-without (marked_due h) n) (omega arith))
          (λ (apart : k ≡ n → ⊥).
          rw (has_number-kept (marked_due h) n k apart) (x.dues k apart))
          (cases_eq k n));
      moments = λ k.
          rw moments_g
          (⊎_elim
          (λ (same : k ≡ n). rw same (last_moment-same (transmissions g) n 0))
          (λ (apart : k ≡ n → ⊥). last_moment-other (transmissions g) n k 0 apart ∙ x.moments k)
          (cases_eq k n));
    }

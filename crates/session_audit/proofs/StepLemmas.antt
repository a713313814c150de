-- One entry of a history, and what the replay makes of it.
use Rattle.std.proofs.Common.{Bool, true, ℕ, ◌≡◌, ◌+◌, ◌≤◌, false, Some, List, [], ◌∷◌, ◌++◌, inl, ⊎_elim, refl, sym, ap, arith}
use Rattle.std.proofs.lemmas.Bool.{cases_eq, eq-eqb, ne_eqb}
use Rattle.chan_values.specs.declared.item.Item.{Item}
use Rattle.channel_core.specs.declared.call.EndAnswer.{EndAnswer}
use Rattle.channel_core.specs.declared.call.EndCall.{EndCall}
use Rattle.channel_core.specs.declared.answer.Pull.{Pull}
use Rattle.channel_core.specs.declared.answer.Put.{Put}
use Rattle.channel_core.specs.declared.answer.Tick.{Tick}
use Rattle.channel_core.specs.Call.{Entry}
use Rattle.channel_core.specs.Legal.{IsLegal, answer_to, answer_to_put, answer_to_tick}
use Rattle.channel_core.specs.Resending.{due_count, is_due, marked_after, marked_due}
use Rattle.channel_core.proofs.NumberLemmas.{has_number-last, has_number-other}
use Rattle.channel_core.proofs.SendingLemmas.{due_count-push}
use Rattle.session_audit.specs.declared.act.Act.{Act}
use Rattle.session_audit.specs.Acts.{act_of}
use Rattle.session_audit.specs.Replay.{entries_of}
use Rattle.session_audit.proofs.ExplainLemmas.{Explains, IsHidden, IsTwin, hidden}
use Rattle.session_audit.proofs.FairLemmas.{due_answered}
use Rattle.session_audit.proofs.EligibleLemmas.{pull_facts}
use Rattle.resend_queue.specs.declared.answer.Sent.{Sent}
use Rattle.session_audit.proofs.PutCallLemmas.{puts_in}
use Rattle.session_audit.proofs.DoesLemmas.{Does, Steps}
use Rattle.session_audit.proofs.OutLemmas.{stream_step}
use Rattle.session_audit.proofs.HeardLemmas.{ack_step, heard_step, one_call}

-- ---- entries that cannot be seen

-- one that marks nothing needs nothing
unseen : (w : ℕ) (h g : List Entry) (e : Entry)
    → Explains w h g
    → IsHidden e.answer e.call
    → ((l : List ℕ) → marked_after l e.answer ≡ l)
    → ((n : ℕ) → is_due n e.answer ≡ false)
    → Explains w (h ++ e ∷ []) g
unseen w h g e x hides mark due =
    hidden w h g e x hides
    (λ n.
    let old = x.dues n in
    let same : due_count h n + 0 ≡ due_count h n = omega arith in
    rw (mark (marked_due h), due_count-push h e n, due n, same) old)

-- a put, whatever its answer
put_step : (w : ℕ) (h g : List Entry) (call : EndCall) (put : Put)
    → Explains w h g
    → IsHidden (EndAnswer.Put put) call
    → Explains w (h ++ record { call = call; answer = EndAnswer.Put put } ∷ []) g
put_step w h g call put x hides = unseen w h g _ x hides (λ l. refl) (λ n. refl)

-- an idle pull
idle_step : (w : ℕ) (h g : List Entry) (now : ℕ)
    → Explains w h g
    → Explains w
    (h ++ record { call = EndCall.Pull now; answer = EndAnswer.Pull Pull.Idle } ∷ []) g
idle_step w h g now x =
    unseen w h g _ x
    (record {
      acked = refl;
      out = refl;
      sent = λ l. refl;
      taken = refl;
      owed = λ w l. refl;
      up = λ b. refl;
      paused = λ b. refl;
      closed = refl;
    })
    (λ l. refl)
    (λ n. refl)

-- a tick
tick_step : (w : ℕ) (h g : List Entry) (now : ℕ) (tick : Tick)
    → Explains w h g
    → answer_to_tick h now ≡ tick
    → Steps w h g
    (record { call = EndCall.Tick now; answer = EndAnswer.Tick tick })
    (act_of (EndAnswer.Tick tick) (EndCall.Tick now))
tick_step w h g now Tick.Nothing x is =
    unseen w h g _ x
    (record {
      acked = refl;
      out = refl;
      sent = λ l. refl;
      taken = refl;
      owed = λ w l. refl;
      up = λ b. refl;
      paused = λ b. refl;
      closed = refl;
    })
    (λ l. refl)
    (λ n. refl)
tick_step w h g now (Tick.Due n) x is =
    let e : Entry = record { call = EndCall.Tick now; answer = EndAnswer.Tick (Tick.Due n) } in
    let told = due_answered w h (EndCall.Tick now) n
    (inl (ap (λ (t : Tick). EndAnswer.Tick t) (sym is))) in
    hidden w h g e x
    (record {
      acked = refl;
      out = refl;
      sent = λ l. refl;
      taken = refl;
      owed = λ w l. refl;
      up = λ b. refl;
      paused = λ b. refl;
      closed = refl;
    })
    (λ k.
    ⊎_elim
    (λ (same : k ≡ n).
    let old : due_count g n + 0 ≤ due_count h n = rw told.unmarked at (x.dues n) in
    rw (same, has_number-last (marked_due h) n, due_count-push h e n, eq-eqb n n refl)
    (omega arith))
    (λ (apart : k ≡ n → ⊥).
    let old = x.dues k in
    rw (has_number-other (marked_due h) n k apart, due_count-push h e k, ne_eqb k n apart)
    (omega arith))
    (cases_eq k n))
tick_step w h g now (Tick.GaveUp n) x is =
    one_call w h g _ _ EndCall.Close EndAnswer.Done x refl refl
    (record {
      put = refl;
      put_too = refl;
      acked = refl;
      out = refl;
      sent = λ l. refl;
      taken = refl;
      owed = λ w l. refl;
      up = λ b. refl;
      paused = λ b. refl;
      closed = refl;
      mark = λ l. refl;
      mark_too = λ l. refl;
      due = λ n. refl;
      due_too = λ n. refl;
      moment = refl;
    })

-- a loss, an opening, a close: the same call
plain_step : (w : ℕ) (h g : List Entry) (call same : EndCall) (act : Act)
    → Explains w h g
    → answer_to w g same ≡ EndAnswer.Done
    → act_of EndAnswer.Done same ≡ Some act
    → IsTwin
    (record { call = call; answer = EndAnswer.Done })
    (record { call = same; answer = EndAnswer.Done })
    → Does w h g (record { call = call; answer = EndAnswer.Done }) act (entries_of w g (same ∷ []))
plain_step w h g call same act x is shows twin =
    one_call w h g _ act same EndAnswer.Done x is shows twin

-- ---- any entry

-- a message with these fields, and any number
abbrev sent_of : Item → List ℕ → ℕ → Bool → Sent
sent_of item id now last = record { seq = 0; id = id; date = now; item = item; last = last }

-- the replay follows each entry that did not want for memory
pub step : (w : ℕ) (h g : List Entry) (call : EndCall)
    → 1 ≤ w
    → IsLegal w h
    → IsLegal w g
    → Explains w h g
    → Steps w h g
    (record { call = call; answer = answer_to w h call })
    (act_of (answer_to w h call) call)
step w h g (EndCall.Put item id now) some legal legal_g x =
    put_step w h g (EndCall.Put item id now) (answer_to_put w h item) x
    ((puts_in (sent_of item id now false)).hides (answer_to_put w h item))
step w h g (EndCall.PutLast item id now) some legal legal_g x =
    put_step w h g (EndCall.PutLast item id now) (answer_to_put w h item) x
    ((puts_in (sent_of item id now true)).hides (answer_to_put w h item))
step w h g (EndCall.Heard now incoming) some legal legal_g x = heard_step w h g now incoming x
step w h g (EndCall.Tick now) some legal legal_g x =
    tick_step w h g now (answer_to_tick h now) x refl
step w h g (EndCall.Pull now) some legal legal_g x =
    pull_facts w h now
    (λ (pull : Pull).
    Steps w h g
    (record { call = EndCall.Pull now; answer = EndAnswer.Pull pull })
    (act_of (EndAnswer.Pull pull) (EndCall.Pull now)))
    (idle_step w h g now x)
    (λ p owed unclosed up is. ack_step w h g now p owed x unclosed up is)
    (λ n m gives. stream_step w h g now n m some legal legal_g x gives)
step w h g EndCall.Lost some legal legal_g x =
    plain_step w h g EndCall.Lost EndCall.Lost Act.Loses x refl refl
    (record {
      put = refl;
      put_too = refl;
      acked = refl;
      out = refl;
      sent = λ l. refl;
      taken = refl;
      owed = λ w l. refl;
      up = λ b. refl;
      paused = λ b. refl;
      closed = refl;
      mark = λ l. refl;
      mark_too = λ l. refl;
      due = λ n. refl;
      due_too = λ n. refl;
      moment = refl;
    })
step w h g (EndCall.Opened now) some legal legal_g x =
    plain_step w h g (EndCall.Opened now) (EndCall.Opened 0) Act.Opens x refl refl
    (record {
      put = refl;
      put_too = refl;
      acked = refl;
      out = refl;
      sent = λ l. refl;
      taken = refl;
      owed = λ w l. refl;
      up = λ b. refl;
      paused = λ b. refl;
      closed = refl;
      mark = λ l. refl;
      mark_too = λ l. refl;
      due = λ n. refl;
      due_too = λ n. refl;
      moment = refl;
    })
step w h g EndCall.Close some legal legal_g x =
    plain_step w h g EndCall.Close EndCall.Close Act.Closes x refl refl
    (record {
      put = refl;
      put_too = refl;
      acked = refl;
      out = refl;
      sent = λ l. refl;
      taken = refl;
      owed = λ w l. refl;
      up = λ b. refl;
      paused = λ b. refl;
      closed = refl;
      mark = λ l. refl;
      mark_too = λ l. refl;
      due = λ n. refl;
      due_too = λ n. refl;
      moment = refl;
    })
step w h g EndCall.Look some legal legal_g x =
    unseen w h g _ x
    (record {
      acked = refl;
      out = refl;
      sent = λ l. refl;
      taken = refl;
      owed = λ w l. refl;
      up = λ b. refl;
      paused = λ b. refl;
      closed = refl;
    })
    (λ l. refl)
    (λ n. refl)

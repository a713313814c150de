-- An acknowledgement is given out, or a message is heard, and the replay does the same by one call.
use Rattle.std.proofs.Common.{Option, None, cond, ltb, leb, ◌||◌, ◌+◌, ◌∙◌, ℕ, ◌≡◌, Bool, true, false, max, Some, List, [], ◌∷◌, refl, sym, ap, subst, arith}
use Rattle.chan_values.specs.declared.item.Item.{Item}
use Rattle.channel_core.specs.declared.call.EndAnswer.{EndAnswer}
use Rattle.channel_core.specs.declared.call.EndCall.{EndCall}
use Rattle.channel_core.specs.declared.answer.Heard.{Heard}
use Rattle.channel_core.specs.declared.message.Incoming.{Incoming}
use Rattle.channel_core.specs.declared.message.Outgoing.TheVariants as Outgoing
use Rattle.channel_core.specs.declared.answer.Pull.{Pull}
use Rattle.channel_core.specs.Call.{Entry}
use Rattle.channel_core.specs.History.{closes, is_closed, is_up, items_of, message_taken, next_in_order, owed_acks, owed_after, paused_after, taken_items, taken_messages}
use Rattle.channel_core.specs.Numbers.{has_number, numbers_of}
use Rattle.channel_core.proofs.HistoryLemmas.{taken_items-is}
use Rattle.channel_core.specs.Legal.{answer_to, answer_to_ack, answer_to_heard, answer_to_new, answer_to_pull, answer_to_stream, past_end}
use Rattle.session_audit.specs.declared.act.Act.{Act}
use Rattle.session_audit.specs.Acts.{act_of, acts_of}
use Rattle.session_audit.specs.Replay.{entries_of}
use Rattle.session_audit.proofs.ExplainLemmas.{Explains, IsTwin, twins}
use Rattle.session_audit.proofs.DoesLemmas.{Does, answered_one}

-- ---- an entry that the replay answers by one call

-- one call that gets the same answer, and changes the same
pub one_call : (w : ℕ) (h g : List Entry) (e : Entry) (act : Act) (call : EndCall) (answer : EndAnswer)
    → Explains w h g
    → answer_to w g call ≡ answer
    → act_of answer call ≡ Some act
    → IsTwin e (record { call = call; answer = answer })
    → Does w h g e act (entries_of w g (call ∷ []))
unfolding acts_of
one_call w h g e act call answer x is shows twin =
    let f : Entry = record { call = call; answer = answer } in
    subst (Does w h g e act) (sym (answered_one w g call answer is))
    (rw shows refl, twins w h g e f x twin)

-- an acknowledgement is given out
pub ack_step : (w : ℕ) (h g : List Entry) (now : ℕ) (p : ℕ × List ℕ) (owed : List (ℕ × List ℕ))
    → Explains w h g
    → is_closed h ≡ false
    → is_up h ≡ true
    → owed_acks w h ≡ p ∷ owed
    → (let out = Outgoing.Ack p.0 p.1 (max now 1) in
    Does w h g
    (record { call = EndCall.Pull now; answer = EndAnswer.Pull (Pull.Emit out) })
    (Act.Emits out)
    (entries_of w g (EndCall.Pull (max now 1) ∷ [])))
unfolding answer_to_pull
ack_step w h g now p owed x unclosed up is =
    one_call w h g _ _ (EndCall.Pull (max now 1))
    (EndAnswer.Pull (Pull.Emit (Outgoing.Ack p.0 p.1 (max now 1))))
    x
    (ap (λ (a : Pull). EndAnswer.Pull a) answer)
    refl
    (record {
      put = refl;
      put_too = refl;
      acked = refl;
      out = refl;
      sent = λ l. refl;
      taken = refl;
      owed = λ w l. refl;
      up = λ b. refl;
      paused = λ b. refl;
      closed = refl;
      mark = λ l. refl;
      mark_too = λ l. refl;
      due = λ n. refl;
      due_too = λ n. refl;
      moment = refl;
    })
  where
    answer : answer_to_pull w g (max now 1) ≡ Pull.Emit (Outgoing.Ack p.0 p.1 (max now 1))
    answer =
        let date : max (max now 1) 1 ≡ max now 1 = omega arith in
        rw (x.closed, unclosed, x.up, up, x.owed, is, date) refl

-- the two took the same items
items_same : (w : ℕ) (h g : List Entry) → Explains w h g → taken_items g ≡ taken_items h
items_same w h g x = taken_items-is g ∙ ap items_of x.taken ∙ sym (taken_items-is h)

-- a stream message is answered by what was taken
stream_same : (w : ℕ) (h g : List Entry) (n : ℕ) (item : Item) (last : Bool)
    → Explains w h g
    → answer_to_stream w g n item last ≡ answer_to_stream w h n item last
unfolding answer_to_stream
stream_same w h g n item last x =
    let late = ltb n (next_in_order h) || has_number (numbers_of (taken_items h)) n in
    let beyond = leb (next_in_order h + w) n in
    rw (items_same w h g x, x.taken)
    (ap (λ (a : Heard). cond late Heard.Late (cond beyond Heard.Beyond a))
    (new (past_end (taken_messages h) n last)))
  where
    new : (o : Option ℕ) → answer_to_new o g n item last ≡ answer_to_new o h n item last
    new (Some m) = refl
    new None = rw (items_same w h g x, x.taken) refl

-- what is heard is answered by what the two agree on
heard_same : (w : ℕ) (h g : List Entry) (incoming : Incoming)
    → Explains w h g
    → answer_to_heard w g incoming ≡ answer_to_heard w h incoming
unfolding answer_to_ack
heard_same w h g (Incoming.Stream n id item last) x =
    rw (x.closed, stream_same w h g n item last x) refl
heard_same w h g (Incoming.Ack n) x = rw (x.closed, x.emitted, x.acked) refl
heard_same w h g Incoming.Pause x = rw x.closed refl
heard_same w h g Incoming.Start x = rw x.closed refl
heard_same w h g (Incoming.Closing output) x = rw x.closed refl

-- what is taken and owed doesn't depend on the moment
taken_at : (now then : ℕ) (heard : Heard) (incoming : Incoming)
    → message_taken (EndAnswer.Heard heard) (EndCall.Heard now incoming)
    ≡ message_taken (EndAnswer.Heard heard) (EndCall.Heard then incoming)
taken_at now then (Heard.Released items) (Incoming.Stream n id item last) = refl
taken_at now then (Heard.Finished items) (Incoming.Stream n id item last) = refl
taken_at now then heard incoming = refl

owed_at : (now then : ℕ) (heard : Heard) (incoming : Incoming) (w : ℕ) (l : List (ℕ × List ℕ))
    → owed_after w l (EndAnswer.Heard heard) (EndCall.Heard now incoming)
    ≡ owed_after w l (EndAnswer.Heard heard) (EndCall.Heard then incoming)
owed_at now then (Heard.Released items) (Incoming.Stream n id item last) w l = refl
owed_at now then (Heard.Finished items) (Incoming.Stream n id item last) w l = refl
owed_at now then Heard.Late (Incoming.Stream n id item last) w l = refl
owed_at now then heard incoming w l = refl

paused_at : (now then : ℕ) (heard : Heard) (incoming : Incoming) (b : Bool)
    → paused_after b (EndAnswer.Heard heard) (EndCall.Heard now incoming)
    ≡ paused_after b (EndAnswer.Heard heard) (EndCall.Heard then incoming)
paused_at now then Heard.Paused incoming b = refl
paused_at now then Heard.Started incoming b = refl
paused_at now then heard incoming b = refl

closes_at : (now then : ℕ) (heard : Heard) (incoming : Incoming)
    → closes (EndAnswer.Heard heard) (EndCall.Heard now incoming)
    ≡ closes (EndAnswer.Heard heard) (EndCall.Heard then incoming)
closes_at now then Heard.Ended incoming = refl
closes_at now then heard incoming = refl

-- a message is heard
pub heard_step : (w : ℕ) (h g : List Entry) (now : ℕ) (incoming : Incoming)
    → Explains w h g
    → Does w h g
    (record {
      call = EndCall.Heard now incoming;
      answer = EndAnswer.Heard (answer_to_heard w h incoming);
    })
    (Act.Hears incoming)
    (entries_of w g (EndCall.Heard 0 incoming ∷ []))
heard_step w h g now incoming x =
    let heard = answer_to_heard w h incoming in
    one_call w h g _ _ (EndCall.Heard 0 incoming)
    (EndAnswer.Heard heard)
    x
    (ap (λ (a : Heard). EndAnswer.Heard a) (heard_same w h g incoming x))
    refl
    (record {
      put = refl;
      put_too = refl;
      acked = refl;
      out = refl;
      sent = λ l. refl;
      taken = taken_at 0 now heard incoming;
      owed = owed_at 0 now heard incoming;
      up = λ b. refl;
      paused = paused_at 0 now heard incoming;
      closed = closes_at 0 now heard incoming;
      mark = λ l. refl;
      mark_too = λ l. refl;
      due = λ n. refl;
      due_too = λ n. refl;
      moment = refl;
    })

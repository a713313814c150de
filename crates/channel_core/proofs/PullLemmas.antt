-- Pulls: from what an end keeps to the entry that follows.
use Rattle.std.proofs.Common.{◌≡◌, ℕ, ◌+◌, ◌<◌, ◌≤◌, max, Bool, true, false, not, cond, ◌||◌, ◌&&◌, Option, Some, None, List, [], ◌∷◌, ◌++◌, ◌⊎◌, inl, inr, ⊎_elim, refl, sym, ap, ◌∙◌, arith, length, filter, find, drop, eqb, ltb, slice_get}
use Rattle.std.specs.Option.{option_and_then, option_map}
use Rattle.std.proofs.lemmas.Bool.{and_right, cases_lt, le-ltb, lt-ltb}
use Rattle.std.proofs.lemmas.Option.{slice_get_within}
use Rattle.resend_queue.specs.declared.answer.Out.{Out}
use Rattle.resend_queue.specs.declared.answer.Sent.{Sent}
use Rattle.resend_queue.specs.Queue.{Pending, QueueState, after_out, first_ready, is_ready, out_of}
use Rattle.channel_core.specs.declared.call.EndAnswer.{EndAnswer}
use Rattle.channel_core.specs.declared.call.EndCall.{EndCall}
use Rattle.channel_core.specs.declared.message.Outgoing.{Outgoing}
use Rattle.channel_core.specs.declared.answer.Pull.{Pull}
use Rattle.channel_core.specs.Call.{Entry}
use Rattle.channel_core.specs.History.{PutMessage, acked_numbers, emitted_numbers, has_ended, is_closed, is_up, lowest_unacked, owed_acks, put_messages}
use Rattle.channel_core.specs.Legal.{IsLegal, answer_to_pull, emit_message, emit_next, emit_number}
use Rattle.channel_core.specs.Numbers.{has_number, least_below}
use Rattle.channel_core.specs.Resending.{due_count, is_eligible, marked_due, sent_since_opened, transmissions}
use Rattle.channel_core.specs.Stands.{EndState, Stands}
use Rattle.channel_core.proofs.NumberLemmas.{least_below-some}
use Rattle.channel_core.proofs.PendingLemmas.{Sending, kept_all, kept_at, message_of}
use Rattle.channel_core.proofs.KeptLemmas.{kept_all-emitted}
use Rattle.channel_core.proofs.SearchLemmas.{find-least, least_below-agree, message_there, passes_at}
use Rattle.channel_core.proofs.SendingLemmas.{sending}
use Rattle.channel_core.proofs.StandsLemmas.{Goes, dues-same, nothing_goes, or-false, queue_after-is, queue_of, sending-emitted, step_goes, still_goes, still}

closed_pull : (w : ℕ) (h : List Entry) (now : ℕ)
    → (is_closed h || not (is_up h)) ≡ true
    → answer_to_pull w h now ≡ Pull.Idle
unfolding answer_to_pull
closed_pull w h now down = rw down refl

open_pull : (w : ℕ) (h : List Entry) (now : ℕ)
    → (is_closed h || not (is_up h)) ≡ false
    → answer_to_pull w h now ≡ emit_next h now (owed_acks w h)
unfolding answer_to_pull
open_pull w h now up = rw up refl

-- nothing goes out where the end is closed or not up
pub pull_down_goes : (w : ℕ) (h : List Entry) (now : ℕ) (old : EndState)
    → IsLegal w h
    → Stands w old h
    → (old.closed || not old.up) ≡ true
    → Goes w h old (EndCall.Pull now) (EndAnswer.Pull Pull.Idle)
pull_down_goes w h now old legal s down =
    nothing_goes w h old old (EndCall.Pull now) (EndAnswer.Pull Pull.Idle) legal s refl
    (inl (ap (λ (p : Pull). EndAnswer.Pull p)
    (sym (closed_pull w h now (rw (← s.closed, ← s.up) down)))))
    (search still) (λ l. refl) (λ b. refl) (λ b. refl) refl

-- the first acknowledgement that is owed goes out
pub pull_ack_goes : (w : ℕ) (h : List Entry) (now : ℕ) (ack : ℕ × List ℕ) (rest : List (ℕ × List ℕ))
    (old new : EndState)
    → IsLegal w h
    → Stands w old h
    → (old.closed || not old.up) ≡ false
    → old.owed ≡ ack ∷ rest
    → new ≡ record old { owed = drop 1 old.owed }
    → Goes w h new (EndCall.Pull now)
    (EndAnswer.Pull (Pull.Emit (Outgoing.Ack ack.0 ack.1 (max now 1))))
pull_ack_goes w h now ack rest old new legal s up owed is =
    let given : answer_to_pull w h now ≡ Pull.Emit (Outgoing.Ack ack.0 ack.1 (max now 1))
    = open_pull w h now (rw (← s.closed, ← s.up) up) ∙ ap (emit_next h now) (sym s.owed ∙ owed) in
    still_goes w h old new (EndCall.Pull now)
    (EndAnswer.Pull (Pull.Emit (Outgoing.Ack ack.0 ack.1 (max now 1)))) legal s
    (inl (ap (λ (p : Pull). EndAnswer.Pull p) (sym given)))
    (search still)
    (rw is refl) (rw is refl) (rw is refl) (rw is refl) (rw is refl) (rw is refl)
    (rw is (sym (or-false old.closed)))

-- a pause holds stream messages back
pub pull_paused_goes : (w : ℕ) (h : List Entry) (now : ℕ) (old new : EndState)
    → IsLegal w h
    → Stands w old h
    → new ≡ old
    → (old.closed || not old.up) ≡ false
    → old.owed ≡ []
    → old.paused ≡ true
    → Goes w h new (EndCall.Pull now) (EndAnswer.Pull Pull.Idle)
pull_paused_goes w h now old new legal s is up owed paused =
    let given : answer_to_pull w h now ≡ Pull.Idle
    = open_pull w h now (rw (← s.closed, ← s.up) up) ∙ ap (emit_next h now) (sym s.owed ∙ owed)
    ∙ rw (sym s.paused ∙ paused) refl in
    nothing_goes w h old new (EndCall.Pull now) (EndAnswer.Pull Pull.Idle) legal s is
    (inl (ap (λ (p : Pull). EndAnswer.Pull p) (sym given))) (search still) (λ l. refl)
    (λ b. refl) (λ b. refl) refl

-- the answer of an end to a pull, where nothing is owed
abbrev pub pull_of : Out → Pull
pull_of (Out.Stream sent) = Pull.Emit (Outgoing.Stream sent)
pull_of Out.Idle = Pull.Idle
pull_of Out.NoMemory = Pull.NoMemory

-- a number may go where its message may
may_go_at : (h : List Entry) (n : ℕ) → passes_at is_ready (kept_at (sending h) n) ≡ is_eligible h n
may_go_at h n = at (has_number (acked_numbers h) n) (slice_get (put_messages h) n) refl
  where
    within : Bool
    within = ltb n (length (put_messages h))

    go : Bool
    go = not (has_number (sent_since_opened h) n) || has_number (marked_due h) n

    at : (b : Bool) (o : Option PutMessage) → slice_get (put_messages h) n ≡ o
        → passes_at is_ready (cond b None (option_map (message_of (sending h) n) o)) ≡
        (ltb n (length (put_messages h)) &&
        (not b && (not (has_number (sent_since_opened h) n) || has_number (marked_due h) n)))
    at true o is = sym (and_right (ltb n (length (put_messages h))) false refl)
    at false None is =
        let past : ltb n (length (put_messages h)) ≡ false = ⊎_elim
        (λ (within : n < length (put_messages h)). none_within within is)
        (λ (past : length (put_messages h) ≤ n). le-ltb n (length (put_messages h)) past)
        (cases_lt n (length (put_messages h))) in
        rw past refl
      where
        none_within : n < length (put_messages h)
            → slice_get (put_messages h) n ≡ None
            → ltb n (length (put_messages h)) ≡ false
        none_within within none = let there = message_there (put_messages h) n within in
            let never : Some there.0 ≡ None = sym there.1 ∙ none in cc
    at false (Some m) is = rw
        (lt-ltb n (length (put_messages h)) (slice_get_within (put_messages h) n m is)) refl

-- the queue's answer is the one that the rules give
emit_number-out : (h : List Entry)
    → emit_number h (least_below (is_eligible h) (length (put_messages h))) ≡ pull_of
    (out_of (find is_ready (kept_all (sending h))))
emit_number-out h =
    sym (ap (λ (o : Option Pending). pull_of (out_of o))
    (find-least is_ready (kept_at (sending h)) (length (put_messages h))
    ∙ ap (option_and_then (kept_at (sending h)))
    (least_below-agree (λ n. passes_at is_ready (kept_at (sending h) n)) (is_eligible h)
    (length (put_messages h)) (may_go_at h)))
    ∙ at (least_below (is_eligible h) (length (put_messages h)))
    (λ n is. (least_below-some (is_eligible h) (length (put_messages h)) n is).1))
  where
    message : (n : ℕ) (b : Bool) (o : Option PutMessage)
        → passes_at is_ready (cond b None (option_map (message_of (sending h) n) o)) ≡ true
        → pull_of (out_of (cond b None (option_map (message_of (sending h) n) o)))
        ≡ emit_message n o
    message n true o passes = cc
    message n false None passes = cc
    message n false (Some m) passes = refl

    at : (o : Option ℕ) → ((n : ℕ) → o ≡ Some n → is_eligible h n ≡ true)
        → pull_of (out_of (option_and_then (kept_at (sending h)) o)) ≡ emit_number h o
    at None passes = refl
    at (Some n) passes = message n (has_number (acked_numbers h) n) (slice_get (put_messages h) n)
        (may_go_at h n ∙ passes n refl)

-- a message that goes out
emit_goes : (w : ℕ) (h : List Entry) (now : ℕ) (sent : Sent) (old new : EndState)
    → IsLegal w h
    → Stands w old h
    → new ≡ record old { queue = after_out old.queue now (Out.Stream sent) }
    → Pull.Emit (Outgoing.Stream sent) ≡ answer_to_pull w h now
    → Goes w h new (EndCall.Pull now) (EndAnswer.Pull (Pull.Emit (Outgoing.Stream sent)))
emit_goes w h now sent old new legal s is given =
    let t = sending h in
    let e : Entry
    = record {
      call = EndCall.Pull now;
      answer = EndAnswer.Pull (Pull.Emit (Outgoing.Stream sent));
    } in
    let zero : due_count h (lowest_unacked h) + 0 ≡ due_count h (lowest_unacked h) = omega arith in
    let dues : due_count (h ++ e ∷ []) (lowest_unacked (h ++ e ∷ [])) ≡ due_count h
    (lowest_unacked h) = dues-same h e refl ∙ zero in
    let emitted = emitted_numbers h ++ sent.seq ∷ [] in
    let moments : List (ℕ × ℕ) = transmissions h ++ (sent.seq, now) ∷ [] in
    let on_connection = sent_since_opened h ++ sent.seq ∷ [] in
    let due = filter (λ k. not (eqb k sent.seq)) (marked_due h) in
    let more : Sending
    = record t { emitted = emitted; moments = moments; sent = on_connection; due = due } in
    let queue : after_out old.queue now (Out.Stream sent) ≡ queue_of w more
    (due_count (h ++ e ∷ []) (lowest_unacked (h ++ e ∷ [])))
    = ap (λ (q : QueueState). after_out q now (Out.Stream sent)) (s.queue ∙ queue_after-is w h)
    ∙ ap (λ (ps : List Pending). record {
      window = w;
      next = length (put_messages h);
      pending = ps;
      dues = due_count h (lowest_unacked h);
      ended = has_ended h;
    }) (sym (kept_all-emitted t sent.seq now))
    ∙ ap (λ (k : ℕ). queue_of w more k) (sym dues) in
    step_goes w h old new (EndCall.Pull now)
    (EndAnswer.Pull (Pull.Emit (Outgoing.Stream sent))) legal s
    (inl (ap (λ (p : Pull). EndAnswer.Pull p) given)) refl refl
    (rw is (queue ∙ ap
    (λ (u : Sending). queue_of w u (due_count (h ++ e ∷ []) (lowest_unacked (h ++ e ∷ []))))
    (sym (sending-emitted t emitted moments on_connection due))))
    (rw is refl) (rw is refl) (rw is refl) (rw is refl) (rw is refl)
    (rw is (sym (or-false old.closed)))

-- a pull where nothing is owed, by the answer of the queue
pub pull_out_goes : (w : ℕ) (h : List Entry) (now : ℕ) (out : Out) (old new : EndState)
    → IsLegal w h
    → Stands w old h
    → (old.closed || not old.up) ≡ false
    → old.owed ≡ []
    → old.paused ≡ false
    → (out ≡ out_of (first_ready old.queue)) ⊎ (out ≡ Out.NoMemory)
    → new ≡ record old { queue = after_out old.queue now out }
    → Goes w h new (EndCall.Pull now) (EndAnswer.Pull (pull_of out))
pull_out_goes w h now out old new legal s up owed paused answer is =
    ⊎_elim
    (λ (same : out ≡ out_of (first_ready old.queue)).
    let found : out ≡ out_of (find is_ready (kept_all (sending h))) = same
    ∙ ap (λ (q : QueueState). out_of (first_ready q)) (s.queue ∙ queue_after-is w h) in
    let given : answer_to_pull w h now ≡ pull_of out
    = open_pull w h now (rw (← s.closed, ← s.up) up) ∙ ap (emit_next h now) (sym s.owed ∙ owed)
    ∙ rw (sym s.paused ∙ paused) (emit_number-out h ∙ ap pull_of (sym found)) in
    by out is (sym given))
    (λ (none : out ≡ Out.NoMemory). rw none
    (nothing_goes w h old new (EndCall.Pull now) (EndAnswer.Pull Pull.NoMemory) legal s
    (is ∙ ap (λ (o : Out). record old { queue = after_out old.queue now o }) none)
    (inr (refl, tt)) (search still) (λ l. refl) (λ b. refl) (λ b. refl) refl))
    answer
  where
    by : (o : Out)
        → new ≡ record old { queue = after_out old.queue now o }
        → pull_of o ≡ answer_to_pull w h now
        → Goes w h new (EndCall.Pull now) (EndAnswer.Pull (pull_of o))
    by (Out.Stream sent) is given = emit_goes w h now sent old new legal s is given
    by Out.Idle is given = nothing_goes w h old new (EndCall.Pull now)
        (EndAnswer.Pull Pull.Idle) legal s is (inl (ap (λ (p : Pull). EndAnswer.Pull p) given))
        (search still) (λ l. refl) (λ b. refl) (λ b. refl) refl
    by Out.NoMemory is given = nothing_goes w h old new (EndCall.Pull now)
        (EndAnswer.Pull Pull.NoMemory) legal s is (inr (refl, tt)) (search still) (λ l. refl)
        (λ b. refl) (λ b. refl) refl

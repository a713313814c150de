-- Ticks and looks: from what an end keeps to the entry that follows.
use Rattle.std.proofs.Common.{◌≡◌, ℕ, ◌+◌, ◌-◌, ◌<◌, ◌≤◌, Bool, true, false, not, cond, ◌||◌, ◌&&◌, Some, None, List, [], ◌∷◌, ◌++◌, inl, ⊎_elim, refl, sym, ap, ◌∙◌, arith, length, leb, ltb}
use Rattle.std.proofs.lemmas.Bool.{cases_lt, eq-eqb, ne_eqb}
use Rattle.resend_queue.specs.declared.answer.Mark.{Mark}
use Rattle.resend_queue.specs.Queue.{Pending, QueueState, after_mark, is_overdue, is_past, lowest, mark_answer}
use Rattle.resend_queue.specs.RoundTrips.{RoundTrip}
use Rattle.channel_core.specs.declared.call.EndAnswer.{EndAnswer}
use Rattle.channel_core.specs.declared.call.EndCall.{EndCall}
use Rattle.channel_core.specs.declared.answer.Look.{Look}
use Rattle.channel_core.specs.declared.answer.Tick.{Tick}
use Rattle.channel_core.specs.Call.{Entry}
use Rattle.channel_core.specs.History.{PutMessage, emitted_numbers, has_ended, is_closed, is_up, lowest_unacked, put_messages}
use Rattle.channel_core.specs.Legal.{IsAnswered, IsLegal, answer_to_tick, is_expired, look_at}
use Rattle.channel_core.specs.Numbers.{has_number}
use Rattle.channel_core.specs.Resending.{due_count, last_moment, marked_due, round_trip, sent_since_opened, transmissions}
use Rattle.channel_core.specs.Stands.{EndState, Stands, room_of}
use Rattle.channel_core.proofs.PendingLemmas.{Sending, message_of}
use Rattle.channel_core.proofs.KeptLemmas.{kept_all-marked}
use Rattle.channel_core.proofs.SearchLemmas.{first_number-kept, kept_all-first, kept_all-none}
use Rattle.channel_core.proofs.SendingLemmas.{IsOrderly, sending, sending_after}
use Rattle.channel_core.proofs.DueLemmas.{due_answered, low-le, orderly}
use Rattle.channel_core.proofs.StandsLemmas.{Goes, dues-same, nothing_goes, or-false, queue_after-is, queue_of, sending-still, step_goes, still_goes, still}
use Rattle.channel_core.proofs.OpenedLemmas.{or-true}
use Rattle.resend_queue.specs.Queue.{max_dues}

down_tick : (h : List Entry) (now : ℕ)
    → (is_closed h || not (is_up h)) ≡ true
    → answer_to_tick h now ≡ Tick.Nothing
unfolding answer_to_tick
down_tick h now down = rw down refl

pub tick_down_goes : (w : ℕ) (h : List Entry) (now : ℕ) (old : EndState)
    → IsLegal w h
    → Stands w old h
    → (old.closed || not old.up) ≡ true
    → Goes w h old (EndCall.Tick now) (EndAnswer.Tick Tick.Nothing)
tick_down_goes w h now old legal s down =
    nothing_goes w h old old (EndCall.Tick now) (EndAnswer.Tick Tick.Nothing) legal s refl
    (inl (ap (λ (a : Tick). EndAnswer.Tick a)
    (sym (down_tick h now (rw (← s.closed, ← s.up) down)))))
    (search still) (λ l. refl) (λ b. refl) (λ b. refl) refl

-- the answer of an end to a tick
abbrev pub tick_of : Mark → Tick
tick_of Mark.Nothing = Tick.Nothing
tick_of (Mark.Due n) = Tick.Due n
tick_of (Mark.GaveUp n) = Tick.GaveUp n

-- the timer of a message expires where the history says so
overdue-expired : (h : List Entry) (n now : ℕ) (m : PutMessage) → IsOrderly (sending h)
    → is_overdue (message_of (sending h) n m) now (round_trip h).timeout ≡ is_expired h n now
overdue-expired h n now m order =
    at (has_number (sent_since_opened h) n) (has_number (emitted_numbers h) n) (order.sent n)
  where
    late : Bool
    late = ltb (round_trip h).timeout (now - last_moment (transmissions h) n)

    at : (b c : Bool) → (b ≡ true → c ≡ true)
        → (b && (not (has_number (marked_due h) n) && is_past
        (cond c (Some (last_moment (transmissions h) n)) None) now (round_trip h).timeout))
        ≡ (b && (not (has_number (marked_due h) n) && ltb (round_trip h).timeout
        (now - last_moment (transmissions h) n)))
    at false c out = refl
    at true true out = refl
    at true false out = let never : false ≡ true = out refl in cc

-- the queue's answer is the one that the rules give
answer_to_tick-mark : (w : ℕ) (h : List Entry) (now : ℕ)
    → IsOrderly (sending h)
    → (is_closed h || not (is_up h)) ≡ false
    → answer_to_tick h now ≡ tick_of
    (mark_answer (queue_of w (sending h) (due_count h (lowest_unacked h))) now
    (round_trip h).timeout)
unfolding answer_to_tick
answer_to_tick-mark w h now order up =
    ⊎_elim
    (λ (some : low < length (put_messages h)).
    let first = kept_all-first (sending h) some in
    let m = first.0 in
    rw (
      up,
      ne_eqb low (length (put_messages h)) (λ e. omega arith),
      first.3,
      overdue-expired h low now m order,
    )
    (through (is_expired h low now) (leb max_dues (due_count h low))))
    (λ (none : length (put_messages h) ≤ low).
    let same : low ≡ length (put_messages h) = let most = low-le (sending h) order in omega arith in
    rw (up, eq-eqb low (length (put_messages h)) same, kept_all-none (sending h) same) refl)
    (cases_lt low (length (put_messages h)))
  where
    low : ℕ
    low = lowest_unacked h

    through : (a b : Bool)
        → cond (not a) Tick.Nothing (cond b (Tick.GaveUp low) (Tick.Due low)) ≡ tick_of
        (cond (not a) Mark.Nothing (cond b (Mark.GaveUp low) (Mark.Due low)))
    through false b = refl
    through true true = refl
    through true false = refl

-- the lowest message is due
due_goes : (w : ℕ) (h : List Entry) (now n : ℕ) (old new : EndState) → IsLegal w h → Stands w old h
    → Tick.Due n ≡ answer_to_tick h now
    → new ≡ record old { queue = after_mark old.queue (Mark.Due n) }
    → Goes w h new (EndCall.Tick now) (EndAnswer.Tick (Tick.Due n))
due_goes w h now n old new legal s given is =
    let t = sending h in
    let e : Entry = record { call = EndCall.Tick now; answer = EndAnswer.Tick (Tick.Due n) } in
    let answered : IsAnswered w h (EndCall.Tick now) (EndAnswer.Tick (Tick.Due n))
    = inl (ap (λ (a : Tick). EndAnswer.Tick a) given) in
    let low : n ≡ lowest_unacked h = (due_answered w h (EndCall.Tick now) n answered).0 in
    let more : Sending = record t { due = marked_due h ++ n ∷ [] } in
    let after = due_count (h ++ e ∷ []) (lowest_unacked (h ++ e ∷ [])) in
    let count : due_count h (lowest_unacked h) + 1 ≡ after
    = sym (dues-same h e refl ∙ ap (λ (b : Bool). due_count h (lowest_unacked h) + cond b 1 0)
    (eq-eqb (lowest_unacked h) n (sym low))) in
    let queue : after_mark old.queue (Mark.Due n) ≡ queue_of w
    (sending_after t (EndAnswer.Tick (Tick.Due n)) (EndCall.Tick now)) after
    = ap (λ (q : QueueState). after_mark q (Mark.Due n)) (s.queue ∙ queue_after-is w h)
    ∙ ap (λ (ps : List Pending). record {
      window = w;
      next = length (put_messages h);
      pending = ps;
      dues = due_count h (lowest_unacked h) + 1;
      ended = has_ended h;
    }) (sym (kept_all-marked t n))
    ∙ ap (λ (k : ℕ). queue_of w more k) count
    ∙ ap (λ (u : Sending). queue_of w u after) (sym (sending-still more)) in
    step_goes w h old new (EndCall.Tick now)
    (EndAnswer.Tick (Tick.Due n)) legal s answered refl refl
    (rw is queue) (rw is refl) (rw is refl) (rw is refl) (rw is refl) (rw is refl)
    (rw is (sym (or-false old.closed)))

-- an end after a tick, by the answer of the queue
abbrev pub ticked : EndState → Mark → EndState
ticked old (Mark.GaveUp n) = record old { closed = true }
ticked old mark = record old { queue = after_mark old.queue mark }

-- a tick, by the answer of the queue
pub tick_goes : (w : ℕ) (h : List Entry) (now : ℕ) (mark : Mark) (old new : EndState)
    → IsLegal w h
    → Stands w old h
    → (old.closed || not old.up) ≡ false
    → mark ≡ mark_answer old.queue now old.estimate.timeout
    → new ≡ ticked old mark
    → Goes w h new (EndCall.Tick now) (EndAnswer.Tick (tick_of mark))
tick_goes w h now mark old new legal s up answer is =
    let same : mark ≡ mark_answer (queue_of w (sending h) (due_count h (lowest_unacked h))) now
    (round_trip h).timeout
    = answer ∙ ap (λ (q : QueueState). mark_answer q now old.estimate.timeout)
    (s.queue ∙ queue_after-is w h)
    ∙ ap (λ (r : RoundTrip). mark_answer
    (queue_of w (sending h) (due_count h (lowest_unacked h))) now r.timeout) s.estimate in
    by mark is
    (sym (answer_to_tick-mark w h now (orderly w h legal) (rw (← s.closed, ← s.up) up)
    ∙ ap tick_of (sym same)))
  where
    by : (k : Mark)
        → new ≡ ticked old k
        → tick_of k ≡ answer_to_tick h now
        → Goes w h new (EndCall.Tick now) (EndAnswer.Tick (tick_of k))
    by Mark.Nothing is given =
        nothing_goes w h old new (EndCall.Tick now) (EndAnswer.Tick Tick.Nothing) legal s is
        (inl (ap (λ (a : Tick). EndAnswer.Tick a) given)) (search still) (λ l. refl)
        (λ b. refl) (λ b. refl) refl
    by (Mark.Due n) is given = due_goes w h now n old new legal s given is
    by (Mark.GaveUp n) is given =
        still_goes w h old new (EndCall.Tick now) (EndAnswer.Tick (Tick.GaveUp n)) legal s
        (inl (ap (λ (a : Tick). EndAnswer.Tick a) given)) (search still)
        (rw is refl) (rw is refl) (rw is refl) (rw is refl) (rw is refl) (rw is refl)
        (rw is (sym (or-true old.closed)))

-- ---- looks

-- what an end tells of itself
abbrev pub look_of : EndState → Look
look_of end =
    record {
      next = end.queue.next;
      low = lowest end.queue;
      expected = end.received.expected;
      room = room_of end;
      closed = end.closed;
      finished = end.queue.ended;
    }

look_at-is : (w : ℕ) (h : List Entry) (end : EndState)
    → IsLegal w h
    → Stands w end h
    → look_of end ≡ look_at w h
unfolding look_at
look_at-is w h end legal s =
    let queue : end.queue ≡ queue_of w (sending h) (due_count h (lowest_unacked h)) = s.queue
    ∙ queue_after-is w h in
    let low : lowest end.queue ≡ lowest_unacked h = ap lowest queue
    ∙ first_number-kept (sending h) (low-le (sending h) (orderly w h legal)) in
    let next : end.queue.next ≡ length (put_messages h) = ap (λ (q : QueueState). q.next) queue in
    let ended : end.queue.ended ≡ has_ended h = ap (λ (q : QueueState). q.ended) queue in
    rw (low, next, ended, s.expected, s.window, s.closed) refl

pub look_goes : (w : ℕ) (h : List Entry) (look : Look) (old new : EndState)
    → IsLegal w h
    → Stands w old h
    → new ≡ old
    → look ≡ look_of old
    → Goes w h new EndCall.Look (EndAnswer.Look look)
look_goes w h look old new legal s is look_is =
    nothing_goes w h old new EndCall.Look (EndAnswer.Look look) legal s is
    (inl (ap (λ (l : Look). EndAnswer.Look l) (look_is ∙ look_at-is w h old legal s)))
    (search still) (λ l. refl) (λ b. refl) (λ b. refl) refl

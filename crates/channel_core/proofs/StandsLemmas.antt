-- What an end keeps, one entry on.
use Rattle.std.proofs.Common.{◌≡◌, ℕ, ◌+◌, Bool, true, false, cond, ◌||◌, Option, None, List, [], ◌∷◌, ◌++◌, refl, sym, ap, subst, ◌∙◌, arith, length, rules}
use Rattle.std.specs.List.{cons_option, list_any}
use Rattle.std.specs.List.Sorted.{IsPermutation}
use Rattle.std.specs.Option.{option_map}
use Rattle.std.proofs.lemmas.List.{append-nil}
use Rattle.chan_values.specs.declared.item.Item.{Item}
use Rattle.resend_queue.specs.Queue.{Pending, QueueState}
use Rattle.resend_queue.specs.RoundTrips.{after_samples}
use Rattle.receive_window.specs.Window.{WindowState}
use Rattle.channel_core.specs.declared.call.EndAnswer.{EndAnswer}
use Rattle.channel_core.specs.declared.call.EndCall.{EndCall}
use Rattle.channel_core.specs.Call.{Entry}
use Rattle.channel_core.specs.History.{PutMessage, TakenMessage, acked_numbers, closes, has_ended, is_closed, is_paused, is_up, lowest_unacked, message_taken, number_acked, owed_acks, owed_after, paused_after, put_messages, taken_items, taken_messages, up_after}
use Rattle.channel_core.specs.Legal.{IsAnswered, IsLegal}
use Rattle.channel_core.specs.Numbers.{least_absent, numbers_of}
use Rattle.channel_core.specs.Resending.{due_count, is_due, round_trip_samples, sample_of}
use Rattle.channel_core.specs.Stands.{EndState, Stands, queue_after}
use Rattle.channel_core.proofs.EarlyLemmas.{early_of}
use Rattle.channel_core.proofs.EndLemmas.{last_of}
use Rattle.channel_core.proofs.HistoryLemmas.{acked_numbers-push, is_closed-push, is_paused-push, is_up-push, item_of, item_taken, owed_acks-push, round_trip_samples-push, taken_items-push, taken_messages-push}
use Rattle.channel_core.proofs.LegalLemmas.{IsLegal-push}
use Rattle.channel_core.proofs.PendingLemmas.{Sending, kept_all, kept_all-unacked}
use Rattle.channel_core.proofs.SendingLemmas.{due_count-push, sending, sending-push, sending_after}

-- the send queue that this makes
abbrev pub queue_of : ℕ → Sending → ℕ → QueueState
queue_of w s dues =
    record {
      window = w;
      next = length s.put;
      pending = kept_all s;
      dues = dues;
      ended = list_any (λ m. m.last) s.put;
    }

pub queue_after-is : (w : ℕ) (h : List Entry)
    → queue_after w h ≡ queue_of w (sending h) (due_count h (lowest_unacked h))
queue_after-is w h =
    ap (λ (ps : List Pending). record {
      window = w;
      next = length (put_messages h);
      pending = ps;
      dues = due_count h (lowest_unacked h);
      ended = has_ended h;
    }) (kept_all-unacked (sending h))

-- what was taken, with this entry
abbrev pub taken_after : List Entry → Entry → List (ℕ × Item)
taken_after h e = taken_items h ++ cons_option (item_taken e.answer e.call) []

-- the end keeps what the entries tell, with this one more
pub record Keeps (w : ℕ) (end : EndState) (h : List Entry) (e : Entry) : Type 0 where
  pub queue : end.queue ≡ queue_of w (sending_after (sending h) e.answer e.call)
      (due_count (h ++ e ∷ []) (lowest_unacked (h ++ e ∷ [])))
  pub window : end.received.window ≡ w
  pub expected : end.received.expected ≡ least_absent (numbers_of (taken_after h e))
  pub early : IsPermutation (early_of (taken_after h e)) end.received.early
  pub last : end.received.last
      ≡ last_of (taken_messages h ++ cons_option (message_taken e.answer e.call) [])
  pub estimate : end.estimate ≡ after_samples
      (round_trip_samples h ++ cons_option (sample_of h e.answer e.call) [])
  pub owed : end.owed ≡ owed_after w (owed_acks w h) e.answer e.call
  pub up : end.up ≡ up_after (is_up h) e.call
  pub paused : end.paused ≡ paused_after (is_paused h) e.answer e.call
  pub closed : end.closed ≡ (is_closed h || closes e.answer e.call)

-- a choice that fails leaves the other
pub or-false : (b : Bool) → (b || false) ≡ b
or-false true = refl
or-false false = refl

pub stands : (w : ℕ) (end : EndState) (h : List Entry) (e : Entry)
    → Keeps w end h e
    → Stands w end (h ++ e ∷ [])
stands w end h e k =
    let taken = taken_items-push h e in
    record {
      queue = k.queue
          ∙ ap (λ (s : Sending). queue_of w s
          (due_count (h ++ e ∷ []) (lowest_unacked (h ++ e ∷ [])))) (sym (sending-push h e))
          ∙ sym (queue_after-is w (h ++ e ∷ []));
      window = k.window;
      expected = k.expected ∙ ap (λ (l : List (ℕ × Item)). least_absent (numbers_of l)) (sym taken);
      early = subst
          (λ (l : List (ℕ × Item)). IsPermutation (early_of l) end.received.early)
          (sym taken) k.early;
      last = k.last ∙ ap last_of (sym (taken_messages-push h e));
      estimate = k.estimate ∙ ap after_samples (sym (round_trip_samples-push h e));
      owed = k.owed ∙ sym (owed_acks-push w h e);
      up = k.up ∙ sym (is_up-push h e);
      paused = k.paused ∙ sym (is_paused-push h e);
      closed = k.closed ∙ ap (λ (b : Bool). is_closed h || b)
          (sym (or-false (closes e.answer e.call))) ∙ sym (is_closed-push h e);
    }

-- with this entry the history is legal, and the end stands for it
abbrev pub Goes : ℕ → List Entry → EndState → EndCall → EndAnswer → Type 0
Goes w h end call answer =
    IsLegal w (h ++ record { call = call; answer = answer } ∷ []) × Stands w end
    (h ++ record { call = call; answer = answer } ∷ [])

pub goes : (w : ℕ) (h : List Entry) (end : EndState) (call : EndCall) (answer : EndAnswer)
    → IsLegal w h
    → IsAnswered w h call answer
    → Keeps w end h (record { call = call; answer = answer })
    → Goes w h end call answer
goes w h end call answer legal answered keeps = (
  IsLegal-push w h (record { call = call; answer = answer }) legal answered,
  stands w end h
      (record { call = call; answer = answer }) keeps,
)

-- an entry that takes nothing and samples nothing
pub step_goes : (w : ℕ) (h : List Entry) (old new : EndState) (call : EndCall) (answer : EndAnswer)
    → IsLegal w h
    → Stands w old h
    → IsAnswered w h call answer
    → message_taken answer call ≡ None
    → sample_of h answer call ≡ None
    → (let e : Entry = record { call = call; answer = answer } in
    new.queue ≡ queue_of w (sending_after (sending h) answer call)
    (due_count (h ++ e ∷ []) (lowest_unacked (h ++ e ∷ []))))
    → new.received ≡ old.received
    → new.estimate ≡ old.estimate
    → new.owed ≡ owed_after w old.owed answer call
    → new.up ≡ up_after old.up call
    → new.paused ≡ paused_after old.paused answer call
    → new.closed ≡ (old.closed || closes answer call)
    → Goes w h new call answer
step_goes w h old new call answer legal s answered takes_none samples_none queue received estimate
    owed up paused closed =
    let e : Entry = record { call = call; answer = answer } in
    let taken : taken_after h e ≡ taken_items h
    = ap (λ (o : Option TakenMessage). taken_items h ++ cons_option (option_map item_of o) [])
    takes_none
    ∙ append-nil (taken_items h) in
    goes w h new call answer legal answered (record {
      queue = queue;
      window = ap (λ (r : WindowState). r.window) received ∙ s.window;
      expected = ap (λ (r : WindowState). r.expected) received ∙ s.expected
          ∙ ap (λ (l : List (ℕ × Item)). least_absent (numbers_of l)) (sym taken);
      early = subst
          (λ (r : WindowState). IsPermutation (early_of (taken_after h e)) r.early) (sym received)
          (subst
          (λ (l : List (ℕ × Item)). IsPermutation (early_of l) old.received.early)
          (sym taken) s.early);
      last = ap (λ (r : WindowState). r.last) received ∙ s.last
          ∙ ap last_of (sym (ap (λ (o : Option TakenMessage).
          taken_messages h ++ cons_option o []) takes_none
          ∙ append-nil (taken_messages h)));
      estimate = estimate ∙ s.estimate ∙ ap after_samples
          (sym (ap (λ (o : Option ℕ). round_trip_samples h ++ cons_option o []) samples_none
          ∙ append-nil (round_trip_samples h)));
      owed = owed ∙ ap (λ (l : List (ℕ × List ℕ)). owed_after w l answer call) s.owed;
      up = up ∙ ap (λ (b : Bool). up_after b call) s.up;
      paused = paused ∙ ap (λ (b : Bool). paused_after b answer call) s.paused;
      closed = closed ∙ ap (λ (b : Bool). b || closes answer call) s.closed;
    })

-- how often the lowest timer expired, with an entry that acknowledges nothing
pub dues-same : (h : List Entry) (e : Entry) → number_acked e.answer ≡ None
    → due_count (h ++ e ∷ []) (lowest_unacked (h ++ e ∷ [])) ≡ due_count h (lowest_unacked h) + cond
    (is_due (lowest_unacked h) e.answer) 1 0
dues-same h e none =
    let acked : acked_numbers (h ++ e ∷ []) ≡ acked_numbers h = acked_numbers-push h e
    ∙ ap (λ (o : Option ℕ). acked_numbers h ++ cons_option o []) none
    ∙ append-nil (acked_numbers h) in
    ap (λ (l : List ℕ). due_count (h ++ e ∷ []) (least_absent l)) acked
    ∙ due_count-push h e (lowest_unacked h)

-- a message was put
pub sending-put : (s : Sending) (m : PutMessage)
    → record {
      put = s.put ++ m ∷ [];
      acked = s.acked ++ [];
      emitted = s.emitted ++ [];
      moments = s.moments ++ [];
      sent = s.sent;
      due = s.due;
    } ≡ record s { put = s.put ++ m ∷ [] }
sending-put s m = rw (append-nil s.acked, append-nil s.emitted, append-nil s.moments) refl

-- a number was acknowledged
pub sending-acked : (s : Sending) (n : ℕ)
    → record {
      put = s.put ++ [];
      acked = s.acked ++ n ∷ [];
      emitted = s.emitted ++ [];
      moments = s.moments ++ [];
      sent = s.sent;
      due = s.due;
    } ≡ record s {
      acked =
          s.acked ++ n ∷ [];
    }
sending-acked s n = rw (append-nil s.put, append-nil s.emitted, append-nil s.moments) refl

-- a message was given out
pub sending-emitted : (s : Sending) (emitted : List ℕ) (moments : List (ℕ × ℕ)) (sent due : List ℕ)
    → record {
      put = s.put ++ [];
      acked = s.acked ++ [];
      emitted = emitted;
      moments = moments;
      sent = sent;
      due = due;
    } ≡ record s {
      emitted = emitted;
      moments = moments;
      sent = sent;
      due = due;
    }
sending-emitted s emitted moments sent due = rw (append-nil s.put, append-nil s.acked) refl

-- nothing was put, acknowledged, sent or marked
pub sending-still : (s : Sending)
    → record {
      put = s.put ++ [];
      acked = s.acked ++ [];
      emitted = s.emitted ++ [];
      moments = s.moments ++ [];
      sent = s.sent;
      due = s.due;
    } ≡ s
sending-still s = rw
    (append-nil s.put, append-nil s.acked, append-nil s.emitted, append-nil s.moments) refl

-- an entry that puts, acknowledges, sends, marks and takes nothing
pub record IsStill (h : List Entry) (call : EndCall) (answer : EndAnswer) : Type 0 where
  pub sending : (s : Sending) → sending_after s answer call ≡ s
  pub acked : number_acked answer ≡ None
  pub taken : message_taken answer call ≡ None
  pub sample : sample_of h answer call ≡ None
  pub due : (n : ℕ) → is_due n answer ≡ false

-- shows that an entry is so
pub ruleset still = (rules, sending-still)

pub still_goes : (w : ℕ) (h : List Entry) (old new : EndState) (call : EndCall) (answer : EndAnswer)
    → IsLegal w h
    → Stands w old h
    → IsAnswered w h call answer
    → IsStill h call answer
    → new.queue ≡ old.queue
    → new.received ≡ old.received
    → new.estimate ≡ old.estimate
    → new.owed ≡ owed_after w old.owed answer call
    → new.up ≡ up_after old.up call
    → new.paused ≡ paused_after old.paused answer call
    → new.closed ≡ (old.closed || closes answer call)
    → Goes w h new call answer
still_goes w h old new call answer legal s answered still queue received estimate owed up paused
    closed =
    let e : Entry = record { call = call; answer = answer } in
    let zero : due_count h (lowest_unacked h) + 0 ≡ due_count h (lowest_unacked h) = omega arith in
    let dues : due_count (h ++ e ∷ []) (lowest_unacked (h ++ e ∷ [])) ≡ due_count h
    (lowest_unacked h)
    = dues-same h e still.acked ∙ ap (λ (b : Bool). due_count h (lowest_unacked h) + cond b 1 0)
    (still.due (lowest_unacked h)) ∙ zero in
    step_goes w h old new call answer legal s answered still.taken still.sample
    (queue ∙ s.queue ∙ queue_after-is w h
    ∙ ap (λ (t : Sending). queue_of w t (due_count h (lowest_unacked h)))
    (sym (still.sending (sending h)))
    ∙ ap (λ (n : ℕ). queue_of w (sending_after (sending h) answer call) n) (sym dues))
    received estimate owed up paused closed

-- nothing changes
pub nothing_goes : (w : ℕ) (h : List Entry) (old new : EndState) (call : EndCall)
    (answer : EndAnswer)
    → IsLegal w h
    → Stands w old h
    → new ≡ old
    → IsAnswered w h call answer
    → IsStill h call answer
    → ((l : List (ℕ × List ℕ)) → owed_after w l answer call ≡ l)
    → ((b : Bool) → up_after b call ≡ b)
    → ((b : Bool) → paused_after b answer call ≡ b)
    → closes answer call ≡ false
    → Goes w h new call answer
nothing_goes w h old new call answer legal s same answered still owed up paused closes =
    still_goes w h old new call answer legal s answered still
    (ap (λ (e : EndState). e.queue) same) (ap (λ (e : EndState). e.received) same)
    (ap (λ (e : EndState). e.estimate) same)
    (ap (λ (e : EndState). e.owed) same ∙ sym (owed old.owed))
    (ap (λ (e : EndState). e.up) same ∙ sym (up old.up))
    (ap (λ (e : EndState). e.paused) same ∙ sym (paused old.paused))
    (ap (λ (e : EndState). e.closed) same ∙ sym (or-false old.closed)
    ∙ ap (λ (b : Bool). old.closed || b) (sym closes))

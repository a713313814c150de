-- Puts: from what an end keeps to the entry that follows.
use Rattle.std.proofs.Common.{◌≡◌, ℕ, ◌+◌, ◌-◌, max, Bool, true, false, cond, List, [], ◌∷◌, ◌++◌, inl, refl, sym, ap, ◌∙◌, arith, length, eqb, Some, None}
use Rattle.std.proofs.lemmas.Bool.{false_from_ne_true}
use Rattle.std.specs.List.{list_any}
use Rattle.std.proofs.lemmas.List.{length_push}
use Rattle.std.proofs.lemmas.List.Folds.{list_any-append}
use Rattle.chan_values.specs.declared.item.Item.{Item}
use Rattle.resend_queue.specs.declared.answer.Kept.{Kept}
use Rattle.resend_queue.specs.Queue.{Pending, QueueState, after_put, lowest, new_message, put_answer}
use Rattle.channel_core.specs.declared.call.EndAnswer.{EndAnswer}
use Rattle.channel_core.specs.declared.call.EndCall.{EndCall}
use Rattle.channel_core.specs.declared.answer.Put.{Put}
use Rattle.channel_core.specs.Call.{Entry}
use Rattle.channel_core.specs.History.{PutMessage, acked_numbers, closes, emitted_numbers, has_ended, is_closed, lowest_unacked, message_put, paused_after, put_messages, up_after}
use Rattle.channel_core.specs.Legal.{IsLegal, answer_to, answer_to_put}
use Rattle.channel_core.specs.Numbers.{has_number}
use Rattle.channel_core.specs.Resending.{due_count, marked_due, sent_after, sent_since_opened}
use Rattle.channel_core.specs.Stands.{EndState, Stands, put_answer_of}
use Rattle.channel_core.proofs.PendingLemmas.{Sending, kept_all}
use Rattle.channel_core.proofs.KeptLemmas.{kept_all-put}
use Rattle.channel_core.proofs.SearchLemmas.{first_number-kept}
use Rattle.channel_core.proofs.SendingLemmas.{IsOrderly, sending, sending_after}
use Rattle.channel_core.proofs.DueLemmas.{low-le, orderly}
use Rattle.channel_core.proofs.StandsLemmas.{Goes, dues-same, nothing_goes, or-false, queue_after-is, queue_of, sending-put, sending-still, step_goes}
use Rattle.chan_values.specs.Limits.{max_seq}

-- a call that puts in a message, as the last or not
pub record IsPutCall (call : EndCall) (m : PutMessage) : Type 0 where
  pub answer : (w : ℕ) (h : List Entry)
      → answer_to w h call ≡ EndAnswer.Put (answer_to_put w h m.item)
  pub put : (n : ℕ) → message_put (EndAnswer.Put (Put.Seq n)) call ≡ Some m
  pub sent : (l : List ℕ) (put : Put) → sent_after l (EndAnswer.Put put) call ≡ l
  pub up : (b : Bool) → up_after b call ≡ b
  pub paused : (b : Bool) (put : Put) → paused_after b (EndAnswer.Put put) call ≡ b
  pub closes : (put : Put) → closes (EndAnswer.Put put) call ≡ false

-- the message of a put
abbrev pub message_of : Item → List ℕ → ℕ → Bool → PutMessage
message_of item id now last = record { item = item; id = id; date = max now 1; last = last }

pub is_put : (item : Item) (id : List ℕ) (now : ℕ)
    → IsPutCall (EndCall.Put item id now) (message_of item id now false)
is_put item id now =
    record {
      answer = λ w h. refl;
      put = λ n. refl;
      sent = λ l put. refl;
      up = λ b. refl;
      paused = λ b put. refl;
      closes = λ put. refl;
    }

pub is_put_last : (item : Item) (id : List ℕ) (now : ℕ)
    → IsPutCall (EndCall.PutLast item id now) (message_of item id now true)
is_put_last item id now =
    record {
      answer = λ w h. refl;
      put = λ n. refl;
      sent = λ l put. refl;
      up = λ b. refl;
      paused = λ b put. refl;
      closes = λ put. refl;
    }

-- the queue's answer is the one that the rules give
answer_to_put-kept : (w : ℕ) (h : List Entry) (item : Item) (dues : ℕ)
    → is_closed h ≡ false
    → IsOrderly (sending h)
    → answer_to_put w h item ≡ put_answer_of (put_answer (queue_of w (sending h) dues) item)
unfolding answer_to_put
answer_to_put-kept w h item dues unclosed order =
    rw (unclosed, first_number-kept (sending h) (low-le (sending h) order))
    (through (has_ended h) (eqb (length (put_messages h)) (max_seq + 1))
    (eqb (length (put_messages h) - lowest_unacked h) w) (length (put_messages h)))
  where
    through : (a b c : Bool) (n : ℕ)
        → cond a (Put.Past item) (cond b (Put.Spent item) (cond c (Put.Full item) (Put.Seq n)))
        ≡ put_answer_of
        (cond a (Kept.Past item) (cond b (Kept.Spent item) (cond c (Kept.Full item) (Kept.Seq n))))
    through true b c n = refl
    through false true c n = refl
    through false false true n = refl
    through false false false n = refl

closed_put : (w : ℕ) (h : List Entry) (item : Item)
    → is_closed h ≡ true
    → answer_to_put w h item ≡ Put.Closed item
unfolding answer_to_put
closed_put w h item closed = rw closed refl

-- a number that is answered is the next one, where no item was put in as the last
seq_is : (q : QueueState) (item : Item) (n : ℕ)
    → Kept.Seq n ≡ put_answer q item
    → (n ≡ q.next) × (q.ended ≡ false)
seq_is q item n given =
    at q.ended (eqb q.next (max_seq + 1)) (eqb (q.next - lowest q) q.window) given
  where
    at : (a b c : Bool)
        → Kept.Seq n
        ≡ cond a (Kept.Past item)
        (cond b (Kept.Spent item) (cond c (Kept.Full item) (Kept.Seq q.next)))
        → (n ≡ q.next) × (a ≡ false)
    at true b c given = cc
    at false true c given = cc
    at false false true given = cc
    at false false false given = (next given, refl)
      where
        next : Kept.Seq n ≡ Kept.Seq q.next → n ≡ q.next
        next is = cc

-- a put, before and after it
module _ (w : ℕ) (h : List Entry) (call : EndCall) (m : PutMessage) (old new : EndState) where
  pub put_closed_goes : IsPutCall call m
      → IsLegal w h
      → Stands w old h
      → old.closed ≡ true
      → Goes w h old call (EndAnswer.Put (Put.Closed m.item))
  put_closed_goes is_put legal s closed =
      nothing_goes w h old old call (EndAnswer.Put (Put.Closed m.item)) legal s refl
      (inl (ap (λ (p : Put). EndAnswer.Put p)
      (sym (closed_put w h m.item (sym s.closed ∙ closed))) ∙ sym (is_put.answer w h)))
      (record {
        sending = λ t. rw is_put.sent (sending-still t);
        acked = refl;
        taken = refl;
        sample = refl;
        due = λ n. refl;
      }) (λ l. refl) is_put.up (λ b. is_put.paused b (Put.Closed m.item))
      (is_put.closes (Put.Closed m.item))

  -- an item that is not taken
  refused_goes : IsPutCall call m
      → IsLegal w h
      → Stands w old h
      → (put : Put)
      → message_put (EndAnswer.Put put) call ≡ None
      → new ≡ old
      → put ≡ answer_to_put w h m.item
      → Goes w h new call (EndAnswer.Put put)
  refused_goes is_put legal s put none is given =
      nothing_goes w h old new call (EndAnswer.Put put) legal s is
      (inl (ap (λ (p : Put). EndAnswer.Put p) given ∙ sym (is_put.answer w h)))
      (record {
        sending = λ t. rw (none, is_put.sent) (sending-still t);
        acked = refl;
        taken = refl;
        sample = refl;
        due = λ n. refl;
      }) (λ l. refl) is_put.up (λ b. is_put.paused b put) (is_put.closes put)

  -- an item that got the next number
  seq_goes : IsPutCall call m
      → IsLegal w h
      → Stands w old h
      → has_ended h ≡ false
      → new ≡ record old {
        queue = after_put old.queue m.item m.id m.date m.last
            (Kept.Seq (length (put_messages h)));
      }
      → Put.Seq (length (put_messages h)) ≡ answer_to_put w h m.item
      → Goes w h new call (EndAnswer.Put (Put.Seq (length (put_messages h))))
  seq_goes is_put legal s goes_on is given =
      let t = sending h in
      let n = length (put_messages h) in
      let e : Entry = record { call = call; answer = EndAnswer.Put (Put.Seq n) } in
      let order = orderly w h legal in
      let none : (l : List ℕ) →
      ((k : ℕ) → has_number l k ≡ true → has_number (emitted_numbers h) k ≡ true) → has_number l n
      ≡ false
      = λ l each. false_from_ne_true (has_number l n)
      (λ there. let below = order.emitted n (each n there) in omega arith) in
      let longer : n + 1 ≡ length (put_messages h ++ m ∷ [])
      = sym (length_push (put_messages h) m) in
      let ended : m.last ≡ list_any (λ p. p.last) (put_messages h ++ m ∷ [])
      = sym (list_any-append (λ (p : PutMessage). p.last) (put_messages h) (m ∷ [])
      ∙ rw goes_on (or-false m.last)) in
      let zero : due_count h (lowest_unacked h) + 0 ≡ due_count h (lowest_unacked h)
      = omega arith in
      let dues : due_count (h ++ e ∷ []) (lowest_unacked (h ++ e ∷ [])) ≡ due_count h
      (lowest_unacked h) = dues-same h e refl ∙ zero in
      let more : Sending = record t { put = put_messages h ++ m ∷ [] } in
      let sends : sending_after t (EndAnswer.Put (Put.Seq n)) call ≡ more
      = rw (is_put.put, is_put.sent) (sending-put t m) in
      let kept : kept_all more ≡ kept_all t ++ new_message n m.item m.id m.date m.last ∷ []
      = kept_all-put t m (none (acked_numbers h) order.acked)
      (none (emitted_numbers h) (λ k there. there)) (none (sent_since_opened h) order.sent)
      (none (marked_due h) order.due) in
      let queue : after_put old.queue m.item m.id m.date m.last (Kept.Seq n) ≡ queue_of w more
      (due_count (h ++ e ∷ []) (lowest_unacked (h ++ e ∷ [])))
      = ap (λ (q : QueueState). after_put q m.item m.id m.date m.last (Kept.Seq n))
      (s.queue ∙ queue_after-is w h)
      ∙ ap (λ (ps : List Pending). record {
        window = w;
        next = n + 1;
        pending = ps;
        dues = due_count h (lowest_unacked h);
        ended = m.last;
      }) (sym kept)
      ∙ ap (λ (k : ℕ). record {
        window = w;
        next = k;
        pending = kept_all more;
        dues = due_count h (lowest_unacked h);
        ended = m.last;
      }) longer
      ∙ ap (λ (b : Bool). record {
        window = w;
        next = length (put_messages h ++ m ∷ []);
        pending = kept_all more;
        dues = due_count h (lowest_unacked h);
        ended = b;
      }) ended
      ∙ ap (λ (k : ℕ). queue_of w more k) (sym dues) in
      step_goes w h old new call (EndAnswer.Put (Put.Seq n)) legal s
      (inl (ap (λ (p : Put). EndAnswer.Put p) given ∙ sym (is_put.answer w h))) refl refl
      (rw is (queue ∙ ap
      (λ (u : Sending). queue_of w u (due_count (h ++ e ∷ []) (lowest_unacked (h ++ e ∷ []))))
      (sym sends)))
      (rw is refl) (rw is refl) (rw is refl) (rw is (sym (is_put.up old.up)))
      (rw is (sym (is_put.paused old.paused (Put.Seq n))))
      (rw (is, is_put.closes) (sym (or-false old.closed)))

  -- a put, by the answer of the queue
  pub put_goes : (kept : Kept)
      → IsPutCall call m
      → IsLegal w h
      → Stands w old h
      → old.closed ≡ false
      → kept ≡ put_answer old.queue m.item
      → new ≡ record old { queue = after_put old.queue m.item m.id m.date m.last kept }
      → Goes w h new call (EndAnswer.Put (put_answer_of kept))
  put_goes kept is_put legal s unclosed given is =
      let queue = queue_of w (sending h) (due_count h (lowest_unacked h)) in
      let same : kept ≡ put_answer queue m.item
      = given ∙ ap (λ (q : QueueState). put_answer q m.item) (s.queue ∙ queue_after-is w h) in
      by kept is
      (sym (answer_to_put-kept w h m.item (due_count h (lowest_unacked h))
      (sym s.closed ∙ unclosed) (orderly w h legal) ∙ ap put_answer_of (sym same))) same
    where
      by : (k : Kept)
          → new ≡ record old { queue = after_put old.queue m.item m.id m.date m.last k }
          → put_answer_of k ≡ answer_to_put w h m.item
          → k ≡ put_answer (queue_of w (sending h) (due_count h (lowest_unacked h))) m.item
          → Goes w h new call (EndAnswer.Put (put_answer_of k))
      by (Kept.Seq n) is given same =
          let known = seq_is (queue_of w (sending h) (due_count h (lowest_unacked h))) m.item n
          same in
          let next : n ≡ length (put_messages h) = known.0 in
          rw next (seq_goes is_put legal s known.1
          is (sym (ap (λ (k : ℕ). Put.Seq k) next) ∙ given))
      by (Kept.Past back) is given same = refused_goes is_put legal s (Put.Past back) refl is given
      by (Kept.Spent back) is given same = refused_goes is_put legal s (Put.Spent back) refl is given
      by (Kept.Full back) is given same = refused_goes is_put legal s (Put.Full back) refl is given

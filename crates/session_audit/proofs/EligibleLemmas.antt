-- Which message a history gives out next.
use Rattle.std.proofs.Common.{ℕ, ◌≡◌, ◌<◌, Bool, true, false, not, ◌||◌, ◌&&◌, max, Option, Some, None, List, [], ◌∷◌, refl, ltb, length, slice_get}
use Rattle.std.proofs.lemmas.Bool.{and_parts, both_ways, cond_both, false_from_ne_true, lt-ltb, ltb-true, not-true, or_parts}
use Rattle.channel_core.specs.declared.message.Outgoing.TheVariants as Outgoing
use Rattle.channel_core.specs.declared.answer.Pull.{Pull}
use Rattle.channel_core.specs.Call.{Entry}
use Rattle.channel_core.specs.History.{PutMessage, acked_numbers, is_closed, is_paused, is_up, owed_acks, put_messages}
use Rattle.channel_core.specs.Legal.{answer_to_pull, emit_message, emit_next, emit_number}
use Rattle.channel_core.specs.Numbers.{has_number, least_below}
use Rattle.channel_core.specs.Resending.{is_eligible, marked_due, sent_since_opened}
use Rattle.channel_core.proofs.NumberLemmas.{least_below-is, least_below-some}

-- a history gives out the message m with the number n
pub record Gives (w : ℕ) (h : List Entry) (n : ℕ) (m : PutMessage) : Type 0 where
  pub unclosed : is_closed h ≡ false
  pub up : is_up h ≡ true
  pub owed : owed_acks w h ≡ []
  pub running : is_paused h ≡ false
  pub least : least_below (is_eligible h) (length (put_messages h)) ≡ Some n
  pub message : slice_get (put_messages h) n ≡ Some m

-- what is given out is the answer
pub gives_answer : (w : ℕ) (h : List Entry) (now n : ℕ) (m : PutMessage)
    → Gives w h n m
    → answer_to_pull w h now ≡ emit_message n (Some m)
unfolding answer_to_pull
gives_answer w h now n m gives =
    rw (gives.unclosed, gives.up, gives.owed, gives.running, gives.least, gives.message) refl

-- a pull finds nothing, or an acknowledgement, or a message
pub pull_facts : (w : ℕ) (h : List Entry) (now : ℕ) (P : Pull → Type 0)
    → P Pull.Idle
    → ((p : ℕ × List ℕ) (owed : List (ℕ × List ℕ))
    → is_closed h ≡ false
    → is_up h ≡ true
    → owed_acks w h ≡ p ∷ owed
    → P (Pull.Emit (Outgoing.Ack p.0 p.1 (max now 1))))
    → ((n : ℕ) (m : PutMessage) → Gives w h n m → P (emit_message n (Some m)))
    → P (answer_to_pull w h now)
unfolding answer_to_pull
pull_facts w h now P idle ack stream =
    cond_both (is_closed h || not (is_up h)) Pull.Idle (emit_next h now (owed_acks w h)) P
    (λ _. idle)
    (λ both.
    let parts = or_parts (is_closed h) (not (is_up h)) both in
    next parts.0 (up (is_up h) parts.1) (owed_acks w h) refl)
  where
    up : (b : Bool) → not b ≡ false → b ≡ true
    up true is = refl
    up false is = cc

    message : is_closed h ≡ false
        → is_up h ≡ true
        → owed_acks w h ≡ []
        → is_paused h ≡ false
        → (n : ℕ)
        → least_below (is_eligible h) (length (put_messages h)) ≡ Some n
        → (o : Option PutMessage)
        → slice_get (put_messages h) n ≡ o
        → P (emit_message n o)
    message unclosed up owed running n least None is = idle
    message unclosed up owed running n least (Some m) is =
        stream n m
        (record {
          unclosed = unclosed;
          up = up;
          owed = owed;
          running = running;
          least = least;
          message = is;
        })

    number : is_closed h ≡ false
        → is_up h ≡ true
        → owed_acks w h ≡ []
        → is_paused h ≡ false
        → (o : Option ℕ)
        → least_below (is_eligible h) (length (put_messages h)) ≡ o
        → P (emit_number h o)
    number unclosed up owed running None is = idle
    number unclosed up owed running (Some n) is =
        message unclosed up owed running n is (slice_get (put_messages h) n) refl

    next : is_closed h ≡ false
        → is_up h ≡ true
        → (owed : List (ℕ × List ℕ))
        → owed_acks w h ≡ owed
        → P (emit_next h now owed)
    next unclosed up (p ∷ owed) is = ack p owed unclosed up is
    next unclosed up [] is =
        let least = least_below (is_eligible h) (length (put_messages h)) in
        cond_both (is_paused h) Pull.Idle (emit_number h least) P
        (λ _. idle)
        (λ running. number unclosed up is running least refl)

-- ---- which numbers may go

-- a number that may go was put in, is not acknowledged, and was not sent or is marked
pub record IsEligible (h : List Entry) (n : ℕ) : Type 0 where
  pub below : n < length (put_messages h)
  pub unacked : has_number (acked_numbers h) n ≡ false
  pub goes : (not (has_number (sent_since_opened h) n) || has_number (marked_due h) n) ≡ true

pub eligible_parts : (h : List Entry) (n : ℕ) → is_eligible h n ≡ true → IsEligible h n
eligible_parts h n is =
    let free = not (has_number (sent_since_opened h) n) || has_number (marked_due h) n in
    let outer = and_parts (ltb n (length (put_messages h)))
    (not (has_number (acked_numbers h) n) && free) is in
    let inner = and_parts (not (has_number (acked_numbers h) n)) free outer.1 in
    record {
      below = ltb-true n (length (put_messages h)) outer.0;
      unacked = not-true (has_number (acked_numbers h) n) inner.0;
      goes = inner.1;
    }

pub eligible_from : (h : List Entry) (n : ℕ) → IsEligible h n → is_eligible h n ≡ true
eligible_from h n e =
    rw (lt-ltb n (length (put_messages h)) e.below, e.unacked) e.goes

-- the number that goes out is the least that may
pub record IsLeast (h : List Entry) (n : ℕ) : Type 0 where
  pub it : IsEligible h n
  pub below : (k : ℕ) → k < n → IsEligible h k → ⊥

pub least_parts : (h : List Entry) (n : ℕ)
    → least_below (is_eligible h) (length (put_messages h)) ≡ Some n
    → IsLeast h n
least_parts h n is =
    let found = least_below-some (is_eligible h) (length (put_messages h)) n is in
    record {
      it = eligible_parts h n found.1;
      below = λ k less may. both_ways (is_eligible h k) (found.2 k less) (eligible_from h k may);
    }

pub least_from : (h : List Entry) (n : ℕ)
    → IsLeast h n
    → least_below (is_eligible h) (length (put_messages h)) ≡ Some n
least_from h n least =
    least_below-is (is_eligible h) (length (put_messages h)) n
    least.it.below
    (eligible_from h n least.it)
    (λ k less. false_from_ne_true (is_eligible h k)
    (λ is. least.below k less (eligible_parts h k is)))

-- A stream message that is taken: from what an end keeps to the entry that follows.
use Rattle.std.proofs.Common.{◌≡◌, ℕ, ◌+◌, ◌-◌, ◌<◌, ◌≤◌, Bool, true, false, cond, Some, None, List, [], ◌∷◌, ◌++◌, inl, ⊎_elim, refl, sym, ap, ◌∙◌, arith}
use Rattle.std.proofs.lemmas.Bool.{cases_lt, false_from_ne_true}
use Rattle.std.proofs.lemmas.List.{append-nil}
use Rattle.chan_values.specs.declared.item.Item.{Item}
use Rattle.resend_queue.specs.RoundTrips.{after_samples}
use Rattle.channel_core.specs.declared.call.EndAnswer.{EndAnswer}
use Rattle.channel_core.specs.declared.answer.Heard.{Heard}
use Rattle.channel_core.specs.Call.{Entry}
use Rattle.channel_core.specs.History.{is_closed, lowest_unacked, owed_with}
use Rattle.channel_core.specs.Legal.{IsLegal}
use Rattle.channel_core.specs.Resending.{due_count, round_trip_samples}
use Rattle.channel_core.specs.Stands.{EndState, Stands}
use Rattle.channel_core.proofs.PendingLemmas.{Sending}
use Rattle.channel_core.proofs.SendingLemmas.{sending}
use Rattle.channel_core.proofs.StandsLemmas.{Goes, dues-same, goes, or-false, queue_after-is, queue_of, sending-still}
use Rattle.std.specs.Bool.{IsTrue}
use Rattle.receive_window.specs.declared.take.Take.{Take}
use Rattle.receive_window.specs.Window.{Releases, WindowState, is_taken}
use Rattle.channel_core.proofs.HeardLemmas.{stream_call}
use Rattle.receive_window.specs.Window.{last_with}
use Rattle.channel_core.specs.History.{number_acked, owed_acks, taken_messages}
use Rattle.channel_core.specs.Legal.{past_end, taken_answer}
use Rattle.channel_core.specs.Resending.{is_due}
use Rattle.channel_core.proofs.TakesLemmas.{Takes, takes}
use Rattle.channel_core.proofs.PastHeardLemmas.{past_end-known}
use Rattle.channel_core.proofs.NumberLemmas.{cases_option}
use Rattle.receive_window.specs.Window.{IsNew, IsPastEnd}

-- a message that is taken, by whether it ends the direction
pub taken_goes : (w : ℕ) (h : List Entry) (now n : ℕ) (id : List ℕ) (item : Item) (last : Bool)
    (items : List Item) (finished : Bool) (received : WindowState) (old new : EndState)
    → IsLegal w h
    → Stands w old h
    → old.closed ≡ false
    → is_taken old.received n ≡ false
    → n < old.received.expected + old.received.window
    → past_end (taken_messages h) n last ≡ None
    → Releases old.received ((n, item) ∷ old.received.early) (last_with old.received.last n last)
    items finished received
    → new ≡ record old { received = received; owed = owed_with old.received.window old.owed n id }
    → Goes w h new (stream_call now n id item last)
    (EndAnswer.Heard (taken_answer finished items))
taken_goes w h now n id item last items finished received old new legal s unclosed untaken near
    not_past r is =
    let t = takes w h n id item last items finished received old legal s unclosed untaken near
    not_past r in
    by finished t
  where
    -- how often the lowest timer expired, with this entry
    dues : EndAnswer → ℕ
    dues answer =
        let e : Entry = record { call = stream_call now n id item last; answer = answer } in
        due_count (h ++ e ∷ []) (lowest_unacked (h ++ e ∷ []))

    still : (answer : EndAnswer)
        → number_acked answer ≡ None
        → dues answer
        ≡ due_count h (lowest_unacked h)
        + cond (is_due (lowest_unacked h) answer) 1 0
    still answer none =
        dues-same h (record { call = stream_call now n id item last; answer = answer }) none

    zero : due_count h (lowest_unacked h) + 0 ≡ due_count h (lowest_unacked h)
    zero = omega arith

    owed : owed_with old.received.window old.owed n id ≡ owed_with w (owed_acks w h) n id
    owed =
        ap (λ (k : ℕ). owed_with k old.owed n id) s.window
        ∙ ap (λ (l : List (ℕ × List ℕ)). owed_with w l n id) s.owed

    by : (finished : Bool)
        → Takes w h n id item last items finished received
        → Goes w h new (stream_call now n id item last)
        (EndAnswer.Heard (taken_answer finished items))
    by false t =
        goes w h new (stream_call now n id item last) (EndAnswer.Heard (Heard.Released items)) legal
        (inl (ap (λ (a : Heard). EndAnswer.Heard a) (sym t.given))) (record {
          queue = rw is
              (s.queue ∙ queue_after-is w h
              ∙ ap (queue_of w (sending h))
              (sym (still (EndAnswer.Heard (Heard.Released items)) refl ∙ zero))
              ∙ ap (λ (u : Sending). queue_of w u (dues (EndAnswer.Heard (Heard.Released items))))
              (sym (sending-still (sending h))));
          window = rw is t.window;
          expected = rw is t.expected;
          early = rw is t.early;
          last = rw is t.last_one;
          estimate =
              rw is (s.estimate ∙ ap after_samples (sym (append-nil (round_trip_samples h))));
          owed = rw is owed;
          up = rw is s.up;
          paused = rw is s.paused;
          closed = rw is (s.closed ∙ sym (or-false (is_closed h)));
        })
    by true t =
        goes w h new (stream_call now n id item last) (EndAnswer.Heard (Heard.Finished items)) legal
        (inl (ap (λ (a : Heard). EndAnswer.Heard a) (sym t.given))) (record {
          queue = rw is
              (s.queue ∙ queue_after-is w h
              ∙ ap (queue_of w (sending h))
              (sym (still (EndAnswer.Heard (Heard.Finished items)) refl ∙ zero))
              ∙ ap (λ (u : Sending). queue_of w u (dues (EndAnswer.Heard (Heard.Finished items))))
              (sym (sending-still (sending h))));
          window = rw is t.window;
          expected = rw is t.expected;
          early = rw is t.early;
          last = rw is t.last_one;
          estimate =
              rw is (s.estimate ∙ ap after_samples (sym (append-nil (round_trip_samples h))));
          owed = rw is owed;
          up = rw is s.up;
          paused = rw is s.paused;
          closed = rw is (s.closed ∙ sym (or-false (is_closed h)));
        })

-- ---- the answers of the receive window

-- an answer other than Late is given for a number that wasn't taken
pub untaken : (taken : Bool) (answer : Take)
    → (answer ≡ Take.Late → ⊥)
    → (IsTrue taken → answer ≡ Take.Late)
    → taken ≡ false
untaken taken answer other late = false_from_ne_true taken (λ is. other (late is))

-- an answer other than Beyond is given for a number inside the window
pub inside : (n edge : ℕ) (answer : Take)
    → (answer ≡ Take.Beyond → ⊥)
    → (edge ≤ n → answer ≡ Take.Beyond)
    → n < edge
inside n edge answer other beyond = ⊎_elim (λ (near : n < edge). near)
    (λ (far : edge ≤ n). absurd (other (beyond far))) (cases_lt n edge)

pub released-late : (items : List Item) → Take.Released items ≡ Take.Late → ⊥
released-late items is = cc

pub released-beyond : (items : List Item) → Take.Released items ≡ Take.Beyond → ⊥
released-beyond items is = cc

pub finished-late : (items : List Item) → Take.Finished items ≡ Take.Late → ⊥
finished-late items is = cc

pub finished-beyond : (items : List Item) → Take.Finished items ≡ Take.Beyond → ⊥
finished-beyond items is = cc

pub past-late : (m : ℕ) → Take.PastEnd m ≡ Take.Late → ⊥
past-late m is = cc

pub past-beyond : (m : ℕ) → Take.PastEnd m ≡ Take.Beyond → ⊥
past-beyond m is = cc

pub beyond-late : Take.Beyond ≡ Take.Late → ⊥
beyond-late is = cc

pub no_memory-late : (item : Item) → Take.NoMemory item ≡ Take.Late → ⊥
no_memory-late item is = cc

pub no_memory-beyond : (item : Item) → Take.NoMemory item ≡ Take.Beyond → ⊥
no_memory-beyond item is = cc

-- an answer other than PastEnd is given for a message that is not past the end
pub not_past : (w : ℕ) (h : List Entry) (old : EndState) (n : ℕ) (last : Bool) (answer : Take)
    → IsLegal w h
    → Stands w old h
    → is_taken old.received n ≡ false
    → n < old.received.expected + old.received.window
    → ((m : ℕ) → answer ≡ Take.PastEnd m → ⊥)
    → ((m : ℕ) → IsNew old.received n × IsPastEnd old.received n last m → answer ≡ Take.PastEnd m)
    → past_end (taken_messages h) n last ≡ None
not_past w h old n last answer legal s untaken near differs past =
    ⊎_elim
    (λ (none : past_end (taken_messages h) n last ≡ None). none)
    (λ (found : (m : ℕ) × (past_end (taken_messages h) n last ≡ Some m)).
    let is : IsPastEnd old.received n last found.0
    = (past_end-known w h old n legal s untaken last found.0).1 found.1 in
    absurd (differs found.0 (past found.0 ((untaken, near), is))))
    (cases_option (past_end (taken_messages h) n last))

pub released-past : (items : List Item) (m : ℕ) → Take.Released items ≡ Take.PastEnd m → ⊥
released-past items m is = cc

pub finished-past : (items : List Item) (m : ℕ) → Take.Finished items ≡ Take.PastEnd m → ⊥
finished-past items m is = cc

pub no_memory-past : (item : Item) (m : ℕ) → Take.NoMemory item ≡ Take.PastEnd m → ⊥
no_memory-past item m is = cc

-- Legal histories: one entry more, and which answers a call may get.
use Rattle.std.proofs.Common.{◌≡◌, ◌≢◌, ℕ, ◌+◌, ◌-◌, ◌<◌, ◌≤◌, max, Bool, true, false, not, cond, ◌||◌, ◌&&◌, Option, Some, None, List, [], ◌∷◌, ◌++◌, ⊎_elim, refl, eqb, leb, length, ltb, slice_get}
use Rattle.std.specs.List.{All}
use Rattle.std.proofs.lemmas.Bool.{and_parts, cond_both, eqb-false, leb-false, leb-true, ltb-true, not-true, or_cases, or_parts}
use Rattle.std.proofs.lemmas.List.Elements.{All-cons, All-head, All-nil, All-push, All-tail}
use Rattle.chan_values.specs.declared.item.Item.{Item}
use Rattle.channel_core.specs.declared.call.EndAnswer.{EndAnswer}
use Rattle.channel_core.specs.declared.call.EndCall.{EndCall}
use Rattle.channel_core.specs.declared.answer.Heard.{Heard}
use Rattle.channel_core.specs.declared.message.Outgoing.{Outgoing}
use Rattle.channel_core.specs.declared.answer.Pull.{Pull}
use Rattle.channel_core.specs.declared.answer.Put.{Put}
use Rattle.channel_core.specs.Call.{Entry, with_earlier}
use Rattle.channel_core.specs.History.{PutMessage, TakenMessage, acked_numbers, emitted_numbers, has_ended, is_closed, is_paused, is_up, lowest_unacked, next_in_order, owed_acks, put_messages, taken_items, taken_messages}
use Rattle.channel_core.specs.Legal.{IsAnswered, IsLegal, IsNoMemory, NeedsMemory, answer_to, answer_to_ack, answer_to_new, answer_to_pull, answer_to_put, answer_to_stream, emit_message, emit_next, emit_number, ends_with, items_released_by, past_end}
use Rattle.channel_core.specs.Numbers.{has_number, least_below, numbers_of}
use Rattle.channel_core.specs.Resending.{is_eligible}
use Rattle.channel_core.proofs.HistoryLemmas.{with_earlier-push}
use Rattle.channel_core.proofs.NumberLemmas.{least_absent-is, least_below-some}
use Rattle.chan_values.specs.Limits.{max_seq}

-- what holds of each element and one more holds of those and of that one
pub All-pushed : {X : Type 0} (P : X → Type 0) (xs : List X) (x : X)
    → All P (xs ++ x ∷ [])
    → All P xs × P x
All-pushed P [] x all = (All-nil P, All-head P x [] all)
All-pushed P (y ∷ xs) x all =
    let rest = All-pushed P xs x (All-tail P y (xs ++ x ∷ []) all) in
    (All-cons P y xs (All-head P y (xs ++ x ∷ []) all) rest.0, rest.1)

-- the entry got its answer after the entries before it
abbrev Fits : ℕ → List Entry × Entry → Type 0
Fits w p = IsAnswered w p.0 p.1.call p.1.answer

-- a legal history is a legal one and an entry with its answer
pub IsLegal-pushed : (w : ℕ) (h : List Entry) (e : Entry)
    → IsLegal w (h ++ e ∷ [])
    → IsLegal w h × IsAnswered w h e.call e.answer
unfolding IsLegal
IsLegal-pushed w h e legal =
    All-pushed (Fits w) (with_earlier h) (h, e) (rw with_earlier-push at legal)

-- a legal history and an entry with its answer are a legal history
pub IsLegal-push : (w : ℕ) (h : List Entry) (e : Entry)
    → IsLegal w h
    → IsAnswered w h e.call e.answer
    → IsLegal w (h ++ e ∷ [])
unfolding IsLegal
IsLegal-push w h e legal answered =
    rw with_earlier-push (All-push (Fits w) (with_earlier h) (h, e) legal answered)

-- a call got its answer, or wanted for memory
pub answered_cases : {A : Type 0} (w : ℕ) (h : List Entry) (call : EndCall) (answer : EndAnswer)
    → IsAnswered w h call answer
    → (answer ≡ answer_to w h call → A)
    → (IsNoMemory call answer → A)
    → A
answered_cases w h call answer answered due none =
    ⊎_elim due
    (λ (wants : IsNoMemory call answer × NeedsMemory (answer_to w h call)). none wants.0)
    answered

-- an entry of a legal history that did not want for memory got the one answer that there is
pub answer_to-known : (w : ℕ) (h : List Entry) (e : Entry)
    → IsLegal w (h ++ e ∷ [])
    → (IsNoMemory e.call e.answer → ⊥)
    → e.answer ≡ answer_to w h e.call
answer_to-known w h e legal memory =
    answered_cases w h e.call e.answer (IsLegal-pushed w h e legal).1
    (λ (is : e.answer ≡ answer_to w h e.call). is)
    (λ (none : IsNoMemory e.call e.answer). absurd (memory none))

-- no entries are a legal history
pub IsLegal-nil : (w : ℕ) → IsLegal w []
unfolding IsLegal with_earlier
IsLegal-nil w = All-nil (Fits w)

-- an end takes a put: it was given no last item, numbers are left, and the window has room
pub record HasRoom (w : ℕ) (h : List Entry) : Type 0 where
  pub goes_on : has_ended h ≡ false
  pub left : length (put_messages h) ≢ max_seq + 1
  pub apart : length (put_messages h) - lowest_unacked h ≢ w

-- which answers a put gets
pub put_cases : (w : ℕ) (h : List Entry) (item : Item) (P : Put → Type 0)
    → P (Put.Closed item)
    → P (Put.Past item)
    → P (Put.Spent item)
    → P (Put.Full item)
    → (HasRoom w h → P (Put.Seq (length (put_messages h))))
    → P (answer_to_put w h item)
unfolding answer_to_put
put_cases w h item P closed past spent full seq =
    let count = length (put_messages h) in
    let span = count - lowest_unacked h in
    let room : Put = cond (eqb span w) (Put.Full item) (Put.Seq count) in
    let left : Put = cond (eqb count (max_seq + 1)) (Put.Spent item) room in
    cond_both (is_closed h) (Put.Closed item) (cond (has_ended h) (Put.Past item) left) P
    (λ _. closed)
    (λ _. cond_both (has_ended h) (Put.Past item) left P
    (λ _. past)
    (λ goes_on. cond_both (eqb count (max_seq + 1)) (Put.Spent item) room P
    (λ _. spent)
    (λ left. cond_both (eqb span w) (Put.Full item) (Put.Seq count) P
    (λ _. full)
    (λ apart. seq (record {
      goes_on = goes_on;
      left = eqb-false count (max_seq + 1) left;
      apart = eqb-false span w apart;
    })))))

-- a stream message
abbrev pub message : ℕ → Item → Bool → TakenMessage
message n item last = record { seq = n; item = item; last = last }

-- a number inside the window that was not taken
pub record IsNew (w : ℕ) (h : List Entry) (n : ℕ) : Type 0 where
  pub absent : has_number (numbers_of (taken_items h)) n ≡ false
  pub near : n < next_in_order h + w

-- a message is not past the end of its direction, and ends it or not
pub record IsTakenSo (h : List Entry) (n : ℕ) (item : Item) (last finished : Bool) : Type 0 where
  pub within : past_end (taken_messages h) n last ≡ None
  pub ends : ends_with (taken_messages h) (message n item last) ≡ finished

-- which answers a stream message gets
pub stream_cases : (w : ℕ) (h : List Entry) (n : ℕ) (item : Item) (last : Bool)
    (P : Heard → Type 0)
    → (has_number (numbers_of (taken_items h)) n ≡ true → P Heard.Late)
    → (next_in_order h + w ≤ n → P Heard.Beyond)
    → ((m : ℕ) → IsNew w h n → past_end (taken_messages h) n last ≡ Some m → P (Heard.PastEnd m))
    → (IsNew w h n
    → IsTakenSo h n item last false
    → P (Heard.Released (items_released_by (taken_items h) n item)))
    → (IsNew w h n
    → IsTakenSo h n item last true
    → P (Heard.Finished (items_released_by (taken_items h) n item)))
    → P (answer_to_stream w h n item last)
unfolding answer_to_stream
stream_cases w h n item last P late beyond past released finished =
    let taken = numbers_of (taken_items h) in
    let passed = ltb n (next_in_order h) in
    let far = leb (next_in_order h + w) n in
    let new = answer_to_new (past_end (taken_messages h) n last) h n item last in
    cond_both (passed || has_number taken n) Heard.Late (cond far Heard.Beyond new) P
    (λ either. late
    (⊎_elim
    (λ below. (least_absent-is taken).1 n (ltb-true n (next_in_order h) below))
    (λ there. there)
    (or_cases passed (has_number taken n) either)))
    (λ neither. cond_both far Heard.Beyond new P
    (λ above. beyond (leb-true (next_in_order h + w) n above))
    (λ near. by_end (past_end (taken_messages h) n last)
    (record {
      absent = (or_parts passed (has_number taken n) neither).1;
      near = leb-false (next_in_order h + w) n near;
    }) refl))
  where
    by_end : (o : Option ℕ)
        → IsNew w h n
        → past_end (taken_messages h) n last ≡ o
        → P (answer_to_new o h n item last)
    by_end (Some m) new is = past m new is
    by_end None new is =
        let items = items_released_by (taken_items h) n item in
        cond_both (ends_with (taken_messages h) (message n item last))
        (Heard.Finished items) (Heard.Released items) P
        (λ whole. finished new (record { within = is; ends = whole }))
        (λ part. released new (record { within = is; ends = part }))

-- which answers an acknowledgement gets
pub ack_cases : (h : List Entry) (n : ℕ) (P : Heard → Type 0)
    → (has_number (emitted_numbers h) n ≡ true
    → has_number (acked_numbers h) n ≡ false
    → P (Heard.Acked n))
    → P (Heard.UnknownAck n)
    → P (answer_to_ack h n)
unfolding answer_to_ack
ack_cases h n P acked unknown =
    let out = has_number (emitted_numbers h) n in
    let before = has_number (acked_numbers h) n in
    cond_both (out && not before) (Heard.Acked n) (Heard.UnknownAck n) P
    (λ both. let parts = and_parts out (not before) both in acked parts.0 (not-true before parts.1))
    (λ _. unknown)

-- which answers a pull gets
pub pull_cases : (w : ℕ) (h : List Entry) (now : ℕ) (P : Pull → Type 0)
    → P Pull.Idle
    → ((p : ℕ × List ℕ) (owed : List (ℕ × List ℕ))
    → owed_acks w h ≡ p ∷ owed
    → P (Pull.Emit (Outgoing.Ack p.0 p.1 (max now 1))))
    → ((n : ℕ) (m : PutMessage)
    → n < length (put_messages h)
    → is_eligible h n ≡ true
    → slice_get (put_messages h) n ≡ Some m
    → P (emit_message n (Some m)))
    → P (answer_to_pull w h now)
unfolding answer_to_pull
pull_cases w h now P idle ack stream =
    cond_both (is_closed h || not (is_up h)) Pull.Idle (emit_next h now (owed_acks w h)) P
    (λ _. idle)
    (λ _. next (owed_acks w h) refl)
  where
    message : (n : ℕ) (o : Option PutMessage)
        → n < length (put_messages h)
        → is_eligible h n ≡ true
        → slice_get (put_messages h) n ≡ o
        → P (emit_message n o)
    message n None below eligible is = idle
    message n (Some m) below eligible is = stream n m below eligible is

    number : (o : Option ℕ)
        → least_below (is_eligible h) (length (put_messages h)) ≡ o
        → P (emit_number h o)
    number None is = idle
    number (Some n) is =
        let least = least_below-some (is_eligible h) (length (put_messages h)) n is in
        message n (slice_get (put_messages h) n) least.0 least.1 refl

    next : (owed : List (ℕ × List ℕ)) → owed_acks w h ≡ owed → P (emit_next h now owed)
    next (p ∷ owed) is = ack p owed is
    next [] is =
        let least = least_below (is_eligible h) (length (put_messages h)) in
        cond_both (is_paused h) Pull.Idle (emit_number h least) P (λ _. idle)
        (λ _. number least refl)

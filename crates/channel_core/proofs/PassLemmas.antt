-- What a pull leaves, and an emission that the other end hears at once.
use Rattle.std.proofs.Common.{◌≡◌, ◌≢◌, ℕ, true, false, Some, None, List, [], ◌∷◌, ◌++◌, ⊎_elim, refl, sym, ap, subst, ◌∙◌}
use Rattle.std.specs.List.{cons_option}
use Rattle.std.proofs.lemmas.List.{append-nil}
use Rattle.chan_values.specs.declared.side.Side.{Side}
use Rattle.chan_values.specs.declared.item.Item.{Item}
use Rattle.channel_core.specs.declared.call.EndAnswer.{EndAnswer}
use Rattle.channel_core.specs.declared.call.EndCall.{EndCall}
use Rattle.channel_core.specs.declared.answer.Heard.{Heard}
use Rattle.channel_core.specs.declared.message.Incoming.{Incoming}
use Rattle.channel_core.specs.declared.message.Outgoing.{Outgoing}
use Rattle.channel_core.specs.declared.answer.Pull.{Pull}
use Rattle.channel_core.specs.Call.{Entry}
use Rattle.channel_core.specs.Exchange.{IsPulled, incoming_of}
use Rattle.channel_core.specs.History.{emissions, is_closed, is_paused, is_up, message_put, paused_after, put_messages, taken_items, up_after}
use Rattle.channel_core.specs.Legal.{IsAnswered, answer_to_heard, answer_to_incoming}
use Rattle.channel_core.specs.Numbers.{has_number, numbers_of}
use Rattle.channel_core.specs.Resending.{sent_after, sent_since_opened}
use Rattle.channel_core.specs.World.{Event, WasEmitted}
use Rattle.channel_core.proofs.AgreementLemmas.{Agree}
use Rattle.channel_core.proofs.DeliveryLemmas.{not_beyond}
use Rattle.channel_core.proofs.WithinLemmas.{not_past}
use Rattle.channel_core.proofs.HistoryLemmas.{emissions-push, is_paused-push, is_up-push, item_taken, put_messages-push, sent_since_opened-push, taken_items-push}
use Rattle.channel_core.proofs.ItemLemmas.{numbers_of-append}
use Rattle.channel_core.proofs.LegalLemmas.{ack_cases, answered_cases, stream_cases}
use Rattle.channel_core.proofs.NumberLemmas.{has_number-last, has_number-more, has_number-pushed}

-- this number was taken
abbrev pub HasTaken : List Entry → ℕ → Type 0
HasTaken h n = has_number (numbers_of (taken_items h)) n ≡ true

-- the sender is connected and not paused, and what it sent on this connection was taken
pub record IsReady (s r : List Entry) : Type 0 where
  pub up : is_up s ≡ true
  pub running : is_paused s ≡ false
  pub sent : (n : ℕ) → has_number (sent_since_opened s) n ≡ true → HasTaken r n

-- a number that was taken stays so
pub HasTaken-push : (h : List Entry) (e : Entry) (n : ℕ) → HasTaken h n → HasTaken (h ++ e ∷ []) n
HasTaken-push h e n there =
    let new : List (ℕ × Item) = cons_option (item_taken e.answer e.call) [] in
    ap (λ (l : List (ℕ × Item)). has_number (numbers_of l) n) (taken_items-push h e)
    ∙ ap (λ (l : List ℕ). has_number l n) (numbers_of-append (taken_items h) new)
    ∙ has_number-more (numbers_of (taken_items h)) (numbers_of new) n there

-- what a pull leaves
pub record Pulled (s : List Entry) (e : Entry) (out : Outgoing) : Type 0 where
  pub up : is_up (s ++ e ∷ []) ≡ is_up s
  pub paused : is_paused (s ++ e ∷ []) ≡ is_paused s
  pub put : put_messages (s ++ e ∷ []) ≡ put_messages s
  pub taken : taken_items (s ++ e ∷ []) ≡ taken_items s
  pub sent : sent_since_opened (s ++ e ∷ [])
      ≡ sent_after (sent_since_opened s) (EndAnswer.Pull (Pull.Emit out)) (EndCall.Pull 0)
  pub emitted : emissions (s ++ e ∷ []) ≡ emissions s ++ out ∷ []

pub pulled : (s : List Entry) (side : Side) (x : Event) (out : Outgoing)
    → IsPulled side (Pull.Emit out) x
    → Pulled s x.entry out
pulled s side x out is =
    let e = x.entry in
    record {
      up = is_up-push s e ∙ rw is.call refl;
      paused = is_paused-push s e ∙ rw (is.answer, is.call) refl;
      put = put_messages-push s e ∙ rw is.answer (append-nil (put_messages s));
      taken = taken_items-push s e ∙ rw is.answer (append-nil (taken_items s));
      sent = sent_since_opened-push s e ∙ rw (is.answer, is.call) (same out);
      emitted = emissions-push s e ∙ rw is.answer refl;
    }
  where
    same : (out : Outgoing)
        → sent_after (sent_since_opened s) (EndAnswer.Pull (Pull.Emit out)) (EndCall.Pull is.now)
        ≡ sent_after (sent_since_opened s) (EndAnswer.Pull (Pull.Emit out)) (EndCall.Pull 0)
    same (Outgoing.Stream m) = refl
    same (Outgoing.Ack n id date) = refl

-- the stream message of an emission is among those taken
abbrev pub Takes : List (ℕ × Item) → Outgoing → Type 0
Takes taken (Outgoing.Stream m) = has_number (numbers_of taken) m.seq ≡ true
Takes taken (Outgoing.Ack n id date) = Unit {0}

-- what hearing an emission leaves
pub record Hears (r : List Entry) (call : EndCall) (answer : EndAnswer)
    (out : Outgoing) : Type 0 where
  pub up : up_after (is_up r) call ≡ is_up r
  pub paused : paused_after (is_paused r) answer call ≡ is_paused r
  pub put : message_put answer call ≡ None
  pub sent : sent_after (sent_since_opened r) answer call ≡ sent_since_opened r
  pub takes : Takes (taken_items r ++ cons_option (item_taken answer call) []) out

-- an answer by which a message that was emitted is taken, or was before
abbrev IsTakenBy : Heard → Type 0
IsTakenBy heard = (heard ≢ Heard.Beyond) × ((m : ℕ) → heard ≢ Heard.PastEnd m)

-- the answer to an emission that is heard, neither beyond the window nor past the end
hears_answer : (w now : ℕ) (r : List Entry) (out : Outgoing)
    → IsTakenBy (answer_to_incoming w r (incoming_of out))
    → Hears r
    (EndCall.Heard now (incoming_of out))
    (EndAnswer.Heard (answer_to_incoming w r (incoming_of out)))
    out
hears_answer w now r (Outgoing.Stream m) inside =
    let call = EndCall.Heard now (Incoming.Stream m.seq m.id m.item m.last) in
    let taken = taken_items r in
    let there = has_number-last (numbers_of taken) m.seq in
    stream_cases w r m.seq m.item m.last
    (λ heard. IsTakenBy heard → Hears r call (EndAnswer.Heard heard) (Outgoing.Stream m))
    (λ there inside.
    record {
      up = refl;
      paused = refl;
      put = refl;
      sent = refl;
      takes = rw (append-nil taken) there;
    })
    (λ far inside. absurd (inside.0 refl))
    (λ k new past inside. absurd (inside.1 k refl))
    (λ new so inside.
    record { up = refl; paused = refl; put = refl; sent = refl; takes = rw numbers_of-append there })
    (λ new so inside.
    record { up = refl; paused = refl; put = refl; sent = refl; takes = rw numbers_of-append there })
    inside
hears_answer w now r (Outgoing.Ack n id date) inside =
    let call = EndCall.Heard now (Incoming.Ack n) in
    ack_cases r n (λ heard. Hears r call (EndAnswer.Heard heard) (Outgoing.Ack n id date))
    (λ out before. record { up = refl; paused = refl; put = refl; sent = refl; takes = tt })
    (record { up = refl; paused = refl; put = refl; sent = refl; takes = tt })

-- an end that is not closed and has memory hears what was emitted
pub hears : (w now : ℕ) (s r : List Entry) (out : Outgoing) (answer : EndAnswer)
    → Agree w s r
    → WasEmitted (emissions s) (EndCall.Heard now (incoming_of out))
    → IsAnswered w r (EndCall.Heard now (incoming_of out)) answer
    → is_closed r ≡ false
    → answer ≢ EndAnswer.Heard (Heard.NoMemory (incoming_of out))
    → Hears r (EndCall.Heard now (incoming_of out)) answer out
hears w now s r out answer agree emitted answered unclosed memory =
    let call = EndCall.Heard now (incoming_of out) in
    let inside : IsTakenBy (answer_to_heard w r (incoming_of out)) = (
      not_beyond w now s r (incoming_of out) agree emitted,
      λ m. not_past w now m s r (incoming_of out) agree emitted,
    ) in
    answered_cases w r call answer answered
    (λ (is : answer ≡ EndAnswer.Heard (answer_to_heard w r (incoming_of out))).
    rw (is, unclosed) (hears_answer w now r out (rw unclosed at inside)))
    (λ (none : answer ≡ EndAnswer.Heard (Heard.NoMemory (incoming_of out))). absurd (memory none))

-- what an emission that is heard at once leaves at both ends
pub record IsPassed (s r s' r' : List Entry) : Type 0 where
  pub ready : IsReady s' r'
  pub back : IsReady r' s'
  pub put_s : put_messages s' ≡ put_messages s
  pub put_r : put_messages r' ≡ put_messages r
  pub taken_s : (n : ℕ) → HasTaken s n → HasTaken s' n
  pub taken_r : (n : ℕ) → HasTaken r n → HasTaken r' n

-- what was sent is taken, once this emission is taken too
sent_taken : (sent : List ℕ) (out : Outgoing) (taken : List (ℕ × Item)) (n : ℕ)
    → ((k : ℕ) → has_number sent k ≡ true → has_number (numbers_of taken) k ≡ true)
    → Takes taken out
    → has_number (sent_after sent (EndAnswer.Pull (Pull.Emit out)) (EndCall.Pull 0)) n ≡ true
    → has_number (numbers_of taken) n ≡ true
sent_taken sent (Outgoing.Stream m) taken n before takes there =
    ⊎_elim
    (λ (old : has_number sent n ≡ true). before n old)
    (λ (new : Some m.seq ≡ Some n).
    let same : m.seq ≡ n = cc in
    subst (λ k. has_number (numbers_of taken) k ≡ true) same takes)
    (has_number-pushed sent (Some m.seq) n there)
sent_taken sent (Outgoing.Ack k id date) taken n before takes there = before n there

-- one end emits, and the other hears it
pub passed : (s r : List Entry) (e f : Entry) (out : Outgoing)
    → Pulled s e out
    → Hears r f.call f.answer out
    → IsReady s r
    → IsReady r s
    → IsPassed s r (s ++ e ∷ []) (r ++ f ∷ [])
passed s r e f out pulled heard ready back =
    let r' = r ++ f ∷ [] in
    let new : List (ℕ × Item) = cons_option (item_taken f.answer f.call) [] in
    let same : (n : ℕ) → HasTaken s n → HasTaken (s ++ e ∷ []) n
    = λ n there. ap (λ (l : List (ℕ × Item)). has_number (numbers_of l) n) pulled.taken ∙ there in
    let takes : Takes (taken_items r') out = rw (taken_items-push r f) heard.takes in
    let sent_r = sent_since_opened-push r f ∙ heard.sent in
    record {
      ready = record {
        up = pulled.up ∙ ready.up;
        running = pulled.paused ∙ ready.running;
        sent = λ n there.
            sent_taken (sent_since_opened s) out (taken_items r') n
            (λ k sent. HasTaken-push r f k (ready.sent k sent)) takes
            (ap (λ (l : List ℕ). has_number l n) (sym pulled.sent) ∙ there);
      };
      back = record {
        up = is_up-push r f ∙ heard.up ∙ back.up;
        running = is_paused-push r f ∙ heard.paused ∙ back.running;
        sent = λ n there. same n
            (back.sent n
            (ap (λ (l : List ℕ). has_number l n) (sym sent_r) ∙ there));
      };
      put_s = pulled.put;
      put_r = put_messages-push r f ∙ rw heard.put (append-nil (put_messages r));
      taken_s = same;
      taken_r = λ n there. HasTaken-push r f n there;
    }

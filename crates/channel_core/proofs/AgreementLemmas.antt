-- What a sender and a receiver agree on in each legal and honest world.
use Rattle.std.proofs.Common.{◌≡◌, ℕ, ◌+◌, ◌<◌, ◌≤◌, zero, suc, Bool, true, Option, Some, None, List, [], ◌∷◌, ◌++◌, ◌⊎◌, inl, inr, refl, sym, ap, subst, ◌∙◌, arith, length, map, slice_get, false, max}
use Rattle.std.specs.List.{All, cons_option, list_any}
use Rattle.std.specs.Option.{IfSome}
use Rattle.std.proofs.lemmas.Bool.{both_ways, or_parts}
use Rattle.std.proofs.lemmas.List.{append-nil, map-append}
use Rattle.std.proofs.lemmas.List.Elements.{All-append, All-cons, All-contains, All-nil, All-weaker}
use Rattle.std.proofs.lemmas.Option.{slice_get-map}
use Rattle.chan_values.specs.declared.item.Item.{Item}
use Rattle.channel_core.specs.declared.call.EndAnswer.{EndAnswer}
use Rattle.channel_core.specs.declared.call.EndCall.{EndCall}
use Rattle.channel_core.specs.declared.message.Incoming.TheVariants as Incoming
use Rattle.channel_core.specs.declared.message.Outgoing.{Outgoing}
use Rattle.channel_core.specs.Call.{Entry}
use Rattle.channel_core.specs.History.{PutMessage, TakenMessage, acked_numbers, emissions, has_ended, lowest_unacked, message_emitted, message_put, number_acked, owed_acks, put_items, put_messages, taken_items, taken_messages}
use Rattle.channel_core.specs.Legal.{IsAnswered, IsNoMemory}
use Rattle.channel_core.specs.Numbers.{has_number, numbers_of}
use Rattle.channel_core.specs.World.{WasEmitted}
use Rattle.channel_core.proofs.HistoryLemmas.{acked_numbers-push, emissions-push, put_items-push, put_messages-push}
use Rattle.channel_core.proofs.CaseLemmas.{by_cases}
use Rattle.channel_core.proofs.NumberLemmas.{has_number-pushed, least_absent-grows}
use Rattle.channel_core.proofs.SoundLemmas.{IsConsistent, sound}

-- whether each message was put in as the last
abbrev pub put_lasts : List Entry → List Bool
put_lasts h = map (λ m. m.last) (put_messages h)

-- a stream message has the item that was put in with its number, which is below this bound, and is
-- the last where that was put in as the last
abbrev pub IsSentFrom : List Item → List Bool → ℕ → Outgoing → Type 0
IsSentFrom items lasts bound (Outgoing.Stream m) =
    (slice_get items m.seq ≡ Some m.item) × (m.seq < bound) × (slice_get lasts m.seq ≡ Some m.last)
IsSentFrom items lasts bound (Outgoing.Ack n id date) = Unit {0}

-- an acknowledgement has a number that was taken
abbrev pub AcksTaken : List ℕ → Outgoing → Type 0
AcksTaken taken (Outgoing.Stream m) = Unit {0}
AcksTaken taken (Outgoing.Ack n id date) = has_number taken n ≡ true

-- a numbered item is the one that was put in with this number
abbrev pub IsPutAs : List Item → ℕ × Item → Type 0
IsPutAs items p = slice_get items p.0 ≡ Some p.1

-- a message is the last where the one with its number was put in as the last
abbrev pub EndsAs : List Bool → TakenMessage → Type 0
EndsAs lasts m = slice_get lasts m.seq ≡ Some m.last

-- what was put in as the last is the last
abbrev pub EndsLast : List Bool → Type 0
EndsLast lasts = (k : ℕ) → slice_get lasts k ≡ Some true → k + 1 ≡ length lasts

-- a number that is owed was taken
abbrev pub IsTaken : List ℕ → ℕ × List ℕ → Type 0
IsTaken taken p = has_number taken p.0 ≡ true

-- the histories s of a sender and r of its receiver
pub record Agree (w : ℕ) (s r : List Entry) : Type 0 where
  pub sent : All (IsSentFrom (put_items s) (put_lasts s) (lowest_unacked s + w)) (emissions s)
  pub taken : All (IsPutAs (put_items s)) (taken_items r)
  pub ended : EndsLast (put_lasts s)
  pub ends : All (EndsAs (put_lasts s)) (taken_messages r)
  pub owed : All (IsTaken (numbers_of (taken_items r))) (owed_acks w r)
  pub acks : All (AcksTaken (numbers_of (taken_items r))) (emissions r)
  pub acked : (n : ℕ)
      → has_number (acked_numbers s) n ≡ true
      → has_number (numbers_of (taken_items r)) n ≡ true

-- what holds of a value that is there holds of all in the list of it
pub All-option : {X : Type 0} (P : X → Type 0) (o : Option X) → IfSome o P → All P (cons_option o [])
All-option P None holds = All-nil P
All-option P (Some x) holds = All-cons P x [] holds (All-nil P)

-- an element stays at its place where more come
slice_get-more : {X : Type 0} (xs ys : List X) (n : ℕ) (x : X)
    → slice_get xs n ≡ Some x
    → slice_get (xs ++ ys) n ≡ Some x
slice_get-more [] ys n x is = cc
slice_get-more (y ∷ xs) ys zero x is = is
slice_get-more (y ∷ xs) ys (suc n) x is = slice_get-more xs ys n x is

put_lasts-push : (h : List Entry) (e : Entry)
    → put_lasts (h ++ e ∷ [])
    ≡ put_lasts h ++ map (λ m. m.last) (cons_option (message_put e.answer e.call) [])
put_lasts-push h e =
    ap (map (λ (m : PutMessage). m.last)) (put_messages-push h e)
    ∙ map-append
    (λ (m : PutMessage). m.last) (put_messages h) (cons_option (message_put e.answer e.call) [])

-- where no message was the last before, the one that is put in may be
new_end : (puts : List PutMessage) (m : PutMessage)
    → list_any (λ p. p.last) puts ≡ false
    → EndsLast (map (λ p. p.last) (puts ++ m ∷ []))
new_end [] m none zero is = omega arith
new_end [] m none (suc k) is = cc
new_end (p ∷ puts) m none zero is =
    let first = (or_parts p.last (list_any (λ (q : PutMessage). q.last) puts) none).0 in
    let never : Some p.last ≡ Some true = is in
    absurd (both_ways p.last first (cc))
new_end (p ∷ puts) m none (suc k) is =
    let rest = (or_parts p.last (list_any (λ (q : PutMessage). q.last) puts) none).1 in
    let end = new_end puts m rest k is in
    omega arith

ended_after : (w : ℕ) (s : List Entry) (call : EndCall) (answer : EndAnswer)
    → EndsLast (put_lasts s)
    → IsAnswered w s call answer
    → EndsLast (put_lasts s ++ map (λ m. m.last) (cons_option (message_put answer call) []))
ended_after w s call answer ended answered =
    let same : EndsLast (put_lasts s ++ []) = rw (append-nil (put_lasts s)) ended in
    by_cases w s
    (λ call answer.
    EndsLast (put_lasts s ++ map (λ m. m.last) (cons_option (message_put answer call) [])))
    (record {
      quiet = λ call answer quiet. rw quiet.put same;
      seq = λ item id now free.
          put (record { item = item; id = id; date = max now 1; last = false }) free.goes_on;
      seq_last = λ item id now free.
          put (record { item = item; id = id; date = max now 1; last = true }) free.goes_on;
      late = λ now n id item last there. same;
      released = λ now n id item last new so. same;
      finished = λ now n id item last new so. same;
      acked = λ now n out before. same;
      emit_ack = λ now p owed is. same;
      emit_stream = λ now n m below eligible is. same;
    }) call answer answered
  where
    put : (m : PutMessage)
        → has_ended s ≡ false
        → EndsLast (put_lasts s ++ m.last ∷ [])
    put m none =
        subst EndsLast (map-append (λ (p : PutMessage). p.last) (put_messages s) (m ∷ []))
        (new_end (put_messages s) m none)

-- an emission has its item, within the window
emission_sent : (w : ℕ) (s : List Entry) (call : EndCall) (answer : EndAnswer)
    → length (put_messages s) ≤ lowest_unacked s + w
    → IsAnswered w s call answer
    → IfSome (message_emitted answer)
    (IsSentFrom (put_items s) (put_lasts s) (lowest_unacked s + w))
emission_sent w s call answer room answered =
    by_cases w s
    (λ call answer. IfSome (message_emitted answer)
    (IsSentFrom (put_items s) (put_lasts s) (lowest_unacked s + w)))
    (record {
      quiet = λ call answer quiet. rw quiet.emitted tt;
      seq = λ item id now free. tt;
      seq_last = λ item id now free. tt;
      late = λ now n id item last there. tt;
      released = λ now n id item last new so. tt;
      finished = λ now n id item last new so. tt;
      acked = λ now n out before. tt;
      emit_ack = λ now p owed is. tt;
      emit_stream = λ now n m below eligible is. (
        slice_get-map (λ (x : PutMessage). x.item) (put_messages s) n ∙ rw is refl,
        omega arith,
        slice_get-map (λ (x : PutMessage). x.last) (put_messages s) n ∙ rw is refl,
      );
    }) call answer answered

-- what a call hears is among these emissions, unless it wants for memory
abbrev pub IsHeardOf : List Outgoing → EndCall → EndAnswer → Type 0
IsHeardOf sent call answer = ¬ IsNoMemory call answer → WasEmitted sent call

-- a number that is acknowledged was taken at the other end
acked_taken : (w : ℕ) (s : List Entry) (call : EndCall) (answer : EndAnswer)
    (sent : List Outgoing) (taken : List ℕ)
    → All (AcksTaken taken) sent
    → IsHeardOf sent call answer
    → IsAnswered w s call answer
    → IfSome (number_acked answer) (λ n. has_number taken n ≡ true)
acked_taken w s call answer sent taken acks emitted answered =
    by_cases w s
    (λ call answer. IsHeardOf sent call answer
    → IfSome (number_acked answer) (λ n. has_number taken n ≡ true))
    (record {
      quiet = λ call answer quiet emitted. rw quiet.acked tt;
      seq = λ item id now free emitted. tt;
      seq_last = λ item id now free emitted. tt;
      late = λ now n id item last there emitted. tt;
      released = λ now n id item last new so emitted. tt;
      finished = λ now n id item last new so emitted. tt;
      acked = λ now n out before emitted.
          let was : WasEmitted sent (EndCall.Heard now (Incoming.Ack n)) = emitted (λ none. cc) in
          All-contains (AcksTaken taken) sent (Outgoing.Ack n was.0 was.1) acks was.2;
      emit_ack = λ now p owed is emitted. tt;
      emit_stream = λ now n m below eligible is emitted. tt;
    }) call answer answered emitted

-- what was sent is so where more was put in and the bound rose
sent_more : (items more : List Item) (lasts others : List Bool) (bound higher : ℕ) (out : Outgoing)
    → bound ≤ higher
    → IsSentFrom items lasts bound out
    → IsSentFrom (items ++ more) (lasts ++ others) higher out
sent_more items more lasts others bound higher (Outgoing.Stream m) grows is = (
  slice_get-more items more m.seq m.item is.0,
  let below = is.1 in omega arith,
  slice_get-more lasts others m.seq m.last is.2,
)
sent_more items more lasts others bound higher (Outgoing.Ack n id date) grows is = tt

-- one entry more of the sender
pub sender_after : (w : ℕ) (s r : List Entry) (e : Entry)
    → Agree w s r
    → IsConsistent w s
    → IsAnswered w s e.call e.answer
    → IsHeardOf (emissions r) e.call e.answer
    → Agree w (s ++ e ∷ []) r
sender_after w s r e agree sound answered emitted =
    let more = map (λ m. m.item) (cons_option (message_put e.answer e.call) []) in
    let others = map (λ m. m.last) (cons_option (message_put e.answer e.call) []) in
    let bound = lowest_unacked s + w in
    let higher = lowest_unacked (s ++ e ∷ []) + w in
    let Old : Outgoing → Type 0 = IsSentFrom (put_items s) (put_lasts s) bound in
    let grows : lowest_unacked s ≤ lowest_unacked (s ++ e ∷ [])
    = rw acked_numbers-push
    (least_absent-grows (acked_numbers s) (cons_option (number_acked e.answer) [])) in
    let puts = put_items-push s e in
    let lasts = put_lasts-push s e in
    let new = emission_sent w s e.call e.answer sound.room answered in
    record {
      sent = rw (emissions-push, puts, lasts)
          (All-weaker Old (IsSentFrom (put_items s ++ more) (put_lasts s ++ others) higher)
          (λ out is.
          sent_more (put_items s) more (put_lasts s) others bound higher out (omega arith) is)
          (emissions s ++ cons_option (message_emitted e.answer) [])
          (All-append Old (emissions s) (cons_option (message_emitted e.answer) [])
          agree.sent (All-option Old (message_emitted e.answer) new)));
      taken = rw puts
          (All-weaker (IsPutAs (put_items s)) (IsPutAs (put_items s ++ more))
          (λ p is. slice_get-more (put_items s) more p.0 p.1 is) (taken_items r) agree.taken);
      ended = rw lasts (ended_after w s e.call e.answer agree.ended answered);
      ends = rw lasts
          (All-weaker (EndsAs (put_lasts s)) (EndsAs (put_lasts s ++ others))
          (λ m is. slice_get-more (put_lasts s) others m.seq m.last is)
          (taken_messages r) agree.ends);
      owed = agree.owed;
      acks = agree.acks;
      acked = λ n there. acked n
          (has_number-pushed (acked_numbers s) (number_acked e.answer) n
          (ap (λ (l : List ℕ). has_number l n) (sym (acked_numbers-push s e)) ∙ there));
    }
  where
    taken : List ℕ
    taken = numbers_of (taken_items r)

    acked : (n : ℕ)
        → (has_number (acked_numbers s) n ≡ true) ⊎ (number_acked e.answer ≡ Some n)
        → has_number taken n ≡ true
    acked n (inl before) = agree.acked n before
    acked n (inr now) =
        let is = acked_taken w s e.call e.answer (emissions r) taken agree.acks emitted answered in
        subst (λ (o : Option ℕ). IfSome o (λ k. has_number taken k ≡ true)) now is

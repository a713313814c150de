-- What a receiver has taken and owes of what the other end's user put in.
use Rattle.std.proofs.Common.{◌≡◌, ℕ, ◌+◌, Bool, true, not, ◌||◌, Option, Some, None, List, [], ◌∷◌, ◌++◌, ◌⊎◌, ⊎_elim, ap, subst, ◌∙◌, eqb, length, ltb}
use Rattle.std.specs.List.{All, cons_option, list_any}
use Rattle.std.specs.Option.{IfSome, option_map}
use Rattle.std.proofs.lemmas.Bool.{cond_both}
use Rattle.std.proofs.lemmas.List.{append-nil}
use Rattle.std.proofs.lemmas.List.Elements.{All-append, All-contains, All-drop, All-head, All-nil, All-push, All-weaker}
use Rattle.chan_values.specs.declared.side.Side.{Side}
use Rattle.chan_values.specs.Sides.{other}
use Rattle.chan_values.specs.declared.item.Item.{Item}
use Rattle.channel_core.specs.declared.call.EndAnswer.{EndAnswer}
use Rattle.channel_core.specs.declared.call.EndCall.{EndCall}
use Rattle.channel_core.specs.declared.message.Incoming.TheVariants as Incoming
use Rattle.channel_core.specs.declared.message.Outgoing.{Outgoing}
use Rattle.channel_core.specs.Call.{Entry}
use Rattle.channel_core.specs.History.{TakenMessage, acked_numbers, emissions, lowest_unacked, message_emitted, message_taken, owed_acks, owed_after, owed_with, put_items, put_messages, taken_items, taken_messages}
use Rattle.channel_core.specs.Legal.{IsAnswered}
use Rattle.channel_core.specs.Numbers.{has_number, numbers_of}
use Rattle.channel_core.specs.World.{Event, IsHonest, IsLegalWorld, WasEmitted, history_of}
use Rattle.channel_core.proofs.HistoryLemmas.{by_pushes, emissions-push, item_of, item_taken, owed_acks-push, taken_items-push, taken_messages-push}
use Rattle.channel_core.proofs.ItemLemmas.{numbers_of-append}
use Rattle.channel_core.proofs.CaseLemmas.{by_cases}
use Rattle.channel_core.proofs.NumberLemmas.{has_number-last, has_number-more}
use Rattle.channel_core.proofs.SoundLemmas.{sound}
use Rattle.channel_core.proofs.WorldLemmas.{IsHonest-pushed, IsLegalWorld-pushed, cases_side, history_of-away, history_of-here, history_of-there, other-other}
use Rattle.channel_core.proofs.AgreementLemmas.{EndsAs, IsSentFrom, AcksTaken, IsPutAs, put_lasts, IsTaken, Agree, All-option, IsHeardOf, sender_after}

-- a message is the one that was put in with its number, and the last where that is
abbrev IsAsPut : List Item → List Bool → TakenMessage → Type 0
IsAsPut items lasts m = IsPutAs items (item_of m) × EndsAs lasts m

-- what is taken is what was put in
taken_put : (w : ℕ) (r : List Entry) (call : EndCall) (answer : EndAnswer)
    (sent : List Outgoing) (items : List Item) (lasts : List Bool) (bound : ℕ)
    → All (IsSentFrom items lasts bound) sent
    → IsHeardOf sent call answer
    → IsAnswered w r call answer
    → IfSome (message_taken answer call) (IsAsPut items lasts)
taken_put w r call answer sent items lasts bound all emitted answered =
    by_cases w r
    (λ call answer. IsHeardOf sent call answer
    → IfSome (message_taken answer call) (IsAsPut items lasts))
    (record {
      quiet = λ call answer quiet emitted. rw quiet.taken tt;
      seq = λ item id now free emitted. tt;
      seq_last = λ item id now free emitted. tt;
      late = λ now n id item last there emitted. tt;
      released = λ now n id item last new so emitted.
          let was : WasEmitted sent (EndCall.Heard now (Incoming.Stream n id item last))
          = emitted (λ none. cc) in
          let out = Outgoing.Stream
          (record { seq = n; id = id; date = was.0; item = item; last = last }) in
          let is = All-contains (IsSentFrom items lasts bound) sent out all was.1 in
          (is.0, is.2);
      finished = λ now n id item last new so emitted.
          let was : WasEmitted sent (EndCall.Heard now (Incoming.Stream n id item last))
          = emitted (λ none. cc) in
          let out = Outgoing.Stream
          (record { seq = n; id = id; date = was.0; item = item; last = last }) in
          let is = All-contains (IsSentFrom items lasts bound) sent out all was.1 in
          (is.0, is.2);
      acked = λ now n out before emitted. tt;
      emit_ack = λ now p owed is emitted. tt;
      emit_stream = λ now n m below eligible is emitted. tt;
    }) call answer answered emitted

-- a number that was taken may be owed
owed_with-taken : (w : ℕ) (taken : List ℕ) (owed : List (ℕ × List ℕ)) (n : ℕ) (id : List ℕ)
    → has_number taken n ≡ true
    → All (IsTaken taken) owed
    → All (IsTaken taken) (owed_with w owed n id)
owed_with-taken w taken owed n id there all =
    let full = list_any (λ (p : ℕ × List ℕ). eqb n p.0) owed || not (ltb (length owed) w) in
    cond_both full owed (owed ++ (n, id) ∷ []) (All (IsTaken taken))
    (λ _. all)
    (λ _. All-push (IsTaken taken) owed (n, id) all there)

-- what is owed was taken
abbrev OwedTaken : ℕ → List Entry → EndCall → EndAnswer → Type 0
OwedTaken w r call answer =
    All
    (IsTaken (numbers_of (taken_items r ++ cons_option (item_taken answer call) [])))
    (owed_after w (owed_acks w r) answer call)

owed_taken : (w : ℕ) (r : List Entry) (call : EndCall) (answer : EndAnswer)
    → All (IsTaken (numbers_of (taken_items r))) (owed_acks w r)
    → IsAnswered w r call answer
    → OwedTaken w r call answer
owed_taken w r call answer all answered =
    let taken = numbers_of (taken_items r) in
    let owed = owed_acks w r in
    let same : All (IsTaken (numbers_of (taken_items r ++ []))) owed = rw append-nil all in
    by_cases w r (OwedTaken w r)
    (record {
      quiet = λ call answer quiet. rw (quiet.taken, quiet.owed) same;
      seq = λ item id now free. same;
      seq_last = λ item id now free. same;
      late = λ now n id item last there. rw append-nil (owed_with-taken w taken owed n id there all);
      released = λ now n id item last new so. rw numbers_of-append
          (owed_with-taken w (taken ++ n ∷ []) owed n id (has_number-last taken n)
          (All-weaker (IsTaken taken) (IsTaken (taken ++ n ∷ []))
          (λ p there. has_number-more taken (n ∷ []) p.0 there) owed all));
      finished = λ now n id item last new so. rw numbers_of-append
          (owed_with-taken w (taken ++ n ∷ []) owed n id (has_number-last taken n)
          (All-weaker (IsTaken taken) (IsTaken (taken ++ n ∷ []))
          (λ p there. has_number-more taken (n ∷ []) p.0 there) owed all));
      acked = λ now n out before. same;
      emit_ack = λ now p rest is. rw append-nil (All-drop (IsTaken taken) 1 owed all);
      emit_stream = λ now n m below eligible is. same;
    }) call answer answered

-- what is acknowledged was taken
ack_taken : (w : ℕ) (r : List Entry) (call : EndCall) (answer : EndAnswer)
    → All (IsTaken (numbers_of (taken_items r))) (owed_acks w r)
    → IsAnswered w r call answer
    → IfSome (message_emitted answer) (AcksTaken (numbers_of (taken_items r)))
ack_taken w r call answer all answered =
    let taken = numbers_of (taken_items r) in
    by_cases w r (λ call answer. IfSome (message_emitted answer) (AcksTaken taken))
    (record {
      quiet = λ call answer quiet. rw quiet.emitted tt;
      seq = λ item id now free. tt;
      seq_last = λ item id now free. tt;
      late = λ now n id item last there. tt;
      released = λ now n id item last new so. tt;
      finished = λ now n id item last new so. tt;
      acked = λ now n out before. tt;
      emit_ack =
          λ now p rest is. All-head (IsTaken taken) p rest (subst (All (IsTaken taken)) is all);
      emit_stream = λ now n m below eligible is. tt;
    }) call answer answered

-- an acknowledgement is of a number that was taken, also where more are
ack_more : (taken more : List ℕ) (out : Outgoing) → AcksTaken taken out
    → AcksTaken (taken ++ more) out
ack_more taken more (Outgoing.Stream m) is = tt
ack_more taken more (Outgoing.Ack n id date) is = has_number-more taken more n is

-- one entry more of the receiver
receiver_after : (w : ℕ) (s r : List Entry) (e : Entry)
    → Agree w s r
    → IsAnswered w r e.call e.answer
    → IsHeardOf (emissions s) e.call e.answer
    → Agree w s (r ++ e ∷ [])
receiver_after w s r e agree answered emitted =
    let new : List (ℕ × Item) = cons_option (item_taken e.answer e.call) [] in
    let taken = numbers_of (taken_items r) in
    let Put : ℕ × Item → Type 0 = IsPutAs (put_items s) in
    let numbers : numbers_of (taken_items (r ++ e ∷ [])) ≡ taken ++ numbers_of new
    = ap numbers_of (taken_items-push r e) ∙ numbers_of-append (taken_items r) new in
    let bound = lowest_unacked s + w in
    let put = taken_put w r e.call e.answer (emissions s) (put_items s) (put_lasts s) bound
    agree.sent emitted answered in
    let ack = ack_taken w r e.call e.answer agree.owed answered in
    record {
      sent = agree.sent;
      taken = rw taken_items-push
          (All-append Put (taken_items r) new agree.taken
          (All-option Put (item_taken e.answer e.call) (items (message_taken e.answer e.call) put)));
      ended = agree.ended;
      ends = rw taken_messages-push
          (All-append (EndsAs (put_lasts s)) (taken_messages r)
          (cons_option (message_taken e.answer e.call) []) agree.ends
          (All-option (EndsAs (put_lasts s)) (message_taken e.answer e.call)
          (lasts (message_taken e.answer e.call) put)));
      owed = rw (taken_items-push r e, owed_acks-push w r e)
          (owed_taken w r e.call e.answer agree.owed answered);
      acks = rw (emissions-push, numbers)
          (All-weaker (AcksTaken taken) (AcksTaken (taken ++ numbers_of new))
          (ack_more taken (numbers_of new))
          (emissions r ++ cons_option (message_emitted e.answer) [])
          (All-append (AcksTaken taken) (emissions r) (cons_option (message_emitted e.answer) [])
          agree.acks (All-option (AcksTaken taken) (message_emitted e.answer) ack)));
      acked = λ n there. rw numbers
          (has_number-more taken (numbers_of new) n (agree.acked n there));
    }
  where
    items : (o : Option TakenMessage)
        → IfSome o (IsAsPut (put_items s) (put_lasts s))
        → IfSome (option_map item_of o) (IsPutAs (put_items s))
    items None is = is
    items (Some m) is = is.0

    lasts : (o : Option TakenMessage)
        → IfSome o (IsAsPut (put_items s) (put_lasts s))
        → IfSome o (EndsAs (put_lasts s))
    lasts None is = is
    lasts (Some m) is = is.1

-- the two ends of each world, either way
abbrev pub BothAgree : ℕ → List Event → Type 0
BothAgree w world = (side : Side) → Agree w (history_of side world) (history_of (other side) world)

agree_nil : (w : ℕ) → BothAgree w []
unfolding history_of acked_numbers emissions owed_acks put_messages taken_items taken_messages
agree_nil w side =
    record {
      sent = All-nil _;
      taken = All-nil _;
      ended = λ k is. cc;
      ends = All-nil _;
      owed = All-nil _;
      acks = All-nil _;
      acked = λ n there. cc;
    }

agree_after : (w : ℕ) (world : List Event) (x : Event)
    → BothAgree w world
    → IsLegalWorld w (world ++ x ∷ [])
    → IsHonest (world ++ x ∷ [])
    → BothAgree w (world ++ x ∷ [])
agree_after w world x before legal honest side =
    let legal_parts = IsLegalWorld-pushed w world x legal in
    let honest_parts = IsHonest-pushed world x honest in
    let s = history_of side world in
    let r = history_of (other side) world in
    ⊎_elim
    (λ (here : x.side ≡ side).
    let answered : IsAnswered w s x.entry.call x.entry.answer
    = subst (λ z. IsAnswered w (history_of z world) x.entry.call x.entry.answer) here
    legal_parts.1 in
    let emitted : IsHeardOf (emissions r) x.entry.call x.entry.answer
    = subst
    (λ z. IsHeardOf (emissions (history_of (other z) world)) x.entry.call x.entry.answer)
    here honest_parts.1 in
    rw
    (history_of-here side world x here, history_of-away side world x here)
    (sender_after w s r x.entry (before side) (sound w s (legal_parts.0 side)) answered emitted))
    (λ (there : x.side ≡ other side).
    let answered : IsAnswered w r x.entry.call x.entry.answer
    = subst (λ z. IsAnswered w (history_of z world) x.entry.call x.entry.answer) there
    legal_parts.1 in
    let emitted : IsHeardOf (emissions s) x.entry.call x.entry.answer
    = subst
    (λ z. IsHeardOf (emissions (history_of z world)) x.entry.call x.entry.answer)
    (ap other there ∙ other-other side) honest_parts.1 in
    rw
    (history_of-here (other side) world x there, history_of-there side world x there)
    (receiver_after w s r x.entry (before side) answered emitted))
    (cases_side side x.side)

-- the ends of a legal and honest world agree
pub agree : (w : ℕ) (world : List Event)
    → IsLegalWorld w world
    → IsHonest world
    → BothAgree w world
agree w world =
    by_pushes
    (λ world. IsLegalWorld w world → IsHonest world → BothAgree w world)
    (λ legal honest. agree_nil w)
    (λ world x before legal honest.
    let front = before (IsLegalWorld-pushed w world x legal).0 (IsHonest-pushed world x honest).0 in
    agree_after w world x front legal honest)
    world

-- The ids of what an end emits consist of bytes, where those of its calls did.
use Rattle.std.proofs.Common.{ℕ, ◌<◌, List, [], ◌∷◌, ◌++◌, subst}
use Rattle.std.specs.List.{All, cons_option}
use Rattle.std.proofs.lemmas.Bool.{cond_both}
use Rattle.std.proofs.lemmas.List.{append-nil}
use Rattle.std.proofs.lemmas.List.Elements.{All-drop, All-head, All-nil, All-push}
use Rattle.std.proofs.lemmas.Option.{get_or_from_slice_get}
use Rattle.channel_core.specs.declared.call.EndAnswer.{EndAnswer}
use Rattle.channel_core.specs.declared.call.EndCall.{EndCall}
use Rattle.channel_core.specs.declared.message.Incoming.TheVariants as Incoming
use Rattle.channel_core.specs.declared.message.Outgoing.{Outgoing}
use Rattle.channel_core.specs.Call.{Entry}
use Rattle.channel_core.specs.History.{PutMessage, emissions, message_emitted, message_put, owed_acks, owed_after, owed_with, put_messages}
use Rattle.channel_core.specs.Legal.{IsAnswered, IsLegal}
use Rattle.channel_core.proofs.CaseLemmas.{by_cases}
use Rattle.channel_core.proofs.HistoryLemmas.{by_pushes, emissions-push, owed_acks-push, put_messages-push}
use Rattle.channel_core.proofs.LegalLemmas.{All-pushed, IsLegal-pushed}

-- these are bytes
abbrev pub AreBytes : List ℕ → Type 0
AreBytes xs = All (λ x. x < 256) xs

-- the id in a call consists of bytes
abbrev pub HasBytes : EndCall → Type 0
HasBytes (EndCall.Put item id now) = AreBytes id
HasBytes (EndCall.PutLast item id now) = AreBytes id
HasBytes (EndCall.Heard now (Incoming.Stream n id item last)) = AreBytes id
HasBytes call = Unit {0}

-- the id of a message that was put
abbrev PutHas : PutMessage → Type 0
PutHas m = AreBytes m.id

-- the id of an acknowledgement that is owed
abbrev OwedHas : ℕ × List ℕ → Type 0
OwedHas p = AreBytes p.1

-- the id of what is emitted
abbrev pub OutHas : Outgoing → Type 0
OutHas (Outgoing.Stream m) = AreBytes m.id
OutHas (Outgoing.Ack n id date) = AreBytes id

-- all of them
record AllHave (put : List PutMessage) (owed : List (ℕ × List ℕ)) (out : List Outgoing)
    : Type 0 where
  messages : All PutHas put
  acks : All OwedHas owed
  emitted : All OutHas out

owed-has : (w : ℕ) (owed : List (ℕ × List ℕ)) (n : ℕ) (id : List ℕ)
    → AreBytes id
    → All OwedHas owed
    → All OwedHas (owed_with w owed n id)
owed-has w owed n id has all =
    cond_both _ owed (owed ++ (n, id) ∷ []) (All OwedHas)
    (λ _. all)
    (λ _. All-push OwedHas owed (n, id) all has)

-- nothing is put, and nothing goes out
same : (put : List PutMessage) (owed : List (ℕ × List ℕ)) (out : List Outgoing)
    → AllHave put owed out
    → AllHave (put ++ []) owed (out ++ [])
same put owed out all = rw (append-nil put, append-nil out) all

-- after a call
abbrev HaveAfter : ℕ → List Entry → EndCall → EndAnswer → Type 0
HaveAfter w h call answer =
    AllHave
    (put_messages h ++ cons_option (message_put answer call) [])
    (owed_after w (owed_acks w h) answer call)
    (emissions h ++ cons_option (message_emitted answer) [])

-- a message is put
put : (w : ℕ) (h : List Entry) (m : PutMessage)
    → AllHave (put_messages h) (owed_acks w h) (emissions h)
    → PutHas m
    → AllHave (put_messages h ++ m ∷ []) (owed_acks w h) (emissions h ++ [])
put w h m all has =
    record {
      messages = All-push PutHas (put_messages h) m all.messages has;
      acks = all.acks;
      emitted = rw append-nil all.emitted;
    }

-- a message that was heard is owed
owe : (w : ℕ) (h : List Entry) (n : ℕ) (id : List ℕ)
    → AllHave (put_messages h) (owed_acks w h) (emissions h)
    → AreBytes id
    → AllHave (put_messages h ++ []) (owed_with w (owed_acks w h) n id) (emissions h ++ [])
owe w h n id all has =
    same _ _ _ (record {
      messages = all.messages;
      acks = owed-has w (owed_acks w h) n id has all.acks;
      emitted = all.emitted;
    })

step : (w : ℕ) (h : List Entry) (call : EndCall) (answer : EndAnswer)
    → AllHave (put_messages h) (owed_acks w h) (emissions h)
    → IsAnswered w h call answer
    → HasBytes call
    → HaveAfter w h call answer
step w h call answer all answered =
    by_cases w h
    (λ call answer. HasBytes call → HaveAfter w h call answer)
    (record {
      quiet = λ call answer quiet _.
          rw (quiet.put, quiet.emitted, quiet.owed w (owed_acks w h)) (same _ _ _ all);
      seq = λ item id now _ has. put w h _ all has;
      seq_last = λ item id now _ has. put w h _ all has;
      late = λ now n id item last _ has. owe w h n id all has;
      released = λ now n id item last _ _ has. owe w h n id all has;
      finished = λ now n id item last _ _ has. owe w h n id all has;
      acked = λ now n _ _ _. same _ _ _ all;
      emit_ack = λ now p owed is _.
          let acks : All OwedHas (p ∷ owed) = subst (All OwedHas) is all.acks in
          record {
            messages = rw append-nil all.messages;
            acks = All-drop OwedHas 1 (owed_acks w h) all.acks;
            emitted = All-push OutHas (emissions h) _ all.emitted (All-head OwedHas p owed acks);
          };
      emit_stream = λ now n m below _ is _.
          let found = get_or_from_slice_get (put_messages h) n m m is in
          let has : PutHas m = subst PutHas found (all.messages n m below) in
          record {
            messages = rw append-nil all.messages;
            acks = all.acks;
            emitted = All-push OutHas (emissions h) _ all.emitted has;
          };
    })
    call answer answered

-- nothing was called
have_start : (w : ℕ) → AllHave (put_messages []) (owed_acks w []) (emissions [])
unfolding put_messages owed_acks emissions
have_start w =
    record { messages = All-nil PutHas; acks = All-nil OwedHas; emitted = All-nil OutHas }

have_after : (w : ℕ) (h : List Entry)
    → IsLegal w h
    → All (λ e. HasBytes e.call) h
    → AllHave (put_messages h) (owed_acks w h) (emissions h)
have_after w =
    by_pushes
    (λ (h : List Entry). IsLegal w h
    → All (λ (e : Entry). HasBytes e.call) h
    → AllHave (put_messages h) (owed_acks w h) (emissions h))
    (λ _ _. have_start w)
    (λ h e before legal has.
    let was = IsLegal-pushed w h e legal in
    let may = All-pushed (λ (x : Entry). HasBytes x.call) h e has in
    rw (put_messages-push, owed_acks-push, emissions-push)
    (step w h e.call e.answer (before was.0 may.0) was.1 may.1))

-- what an end emitted, where its calls had such ids
pub All-OutHas : (w : ℕ) (h : List Entry)
    → IsLegal w h
    → All (λ e. HasBytes e.call) h
    → All OutHas (emissions h)
All-OutHas w h legal has = (have_after w h legal has).emitted

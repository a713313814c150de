-- The ids of what an end emits are bytes, where those that its calls bring are.
use Rattle.std.proofs.Common.{ℕ, ◌<◌, max, Bool, true, false, List, [], ◌∷◌, ◌++◌, subst}
use Rattle.std.specs.List.{All, cons_option}
use Rattle.std.proofs.lemmas.Bool.{cond_both}
use Rattle.std.proofs.lemmas.List.{append-nil}
use Rattle.std.proofs.lemmas.List.Elements.{All-drop, All-head, All-nil, All-push}
use Rattle.std.proofs.lemmas.Option.{get_or_from_slice_get}
use Rattle.chan_values.specs.declared.item.Item.{Item}
use Rattle.channel_core.specs.declared.call.EndAnswer.{EndAnswer}
use Rattle.channel_core.specs.declared.call.EndCall.{EndCall}
use Rattle.channel_core.specs.declared.message.Incoming.TheVariants as Incoming
use Rattle.channel_core.specs.declared.message.Outgoing.{Outgoing}
use Rattle.channel_core.specs.Call.{Entry}
use Rattle.channel_core.specs.History.{PutMessage, emissions, message_emitted, message_put, owed_acks, owed_after, owed_with, put_messages}
use Rattle.channel_core.specs.Legal.{IsAnswered, IsLegal}
use Rattle.channel_core.proofs.CaseLemmas.{by_cases}
use Rattle.channel_core.proofs.HistoryLemmas.{by_pushes, emissions-push, owed_acks-push, put_messages-push}
use Rattle.channel_core.proofs.LegalLemmas.{All-pushed, IsLegal-pushed}

-- an id of bytes
abbrev pub IsId : List ℕ → Type 0
IsId id = All (λ byte. byte < 256) id

-- the id that a call brings, if it brings one, is so
abbrev pub BringsId : EndCall → Type 0
BringsId (EndCall.Put item id now) = IsId id
BringsId (EndCall.PutLast item id now) = IsId id
BringsId (EndCall.Heard now (Incoming.Stream n id item last)) = IsId id
BringsId call = Unit {0}

-- and that of a message that goes out
abbrev pub HasId : Outgoing → Type 0
HasId (Outgoing.Stream m) = IsId m.id
HasId (Outgoing.Ack n id date) = IsId id

-- so are those of all that was put in, is owed and went out
record AllIds (put : List PutMessage) (owed : List (ℕ × List ℕ)) (out : List Outgoing) : Type 0 where
  messages : All (λ m. IsId m.id) put
  acks : All (λ p. IsId p.1) owed
  emitted : All HasId out

-- a message that is heard is owed, or nothing changes
owed_with-ids : (w : ℕ) (owed : List (ℕ × List ℕ)) (n : ℕ) (id : List ℕ)
    → IsId id
    → All (λ (p : ℕ × List ℕ). IsId p.1) owed
    → All (λ (p : ℕ × List ℕ). IsId p.1) (owed_with w owed n id)
owed_with-ids w owed n id fits all =
    let P : ℕ × List ℕ → Type 0 = λ p. IsId p.1 in
    cond_both _ owed (owed ++ (n, id) ∷ []) (All P) (λ _. all) (λ _. All-push P owed (n, id) all fits)

-- nothing is put, and nothing goes out
same : (put : List PutMessage) (owed : List (ℕ × List ℕ)) (out : List Outgoing)
    → AllIds put owed out
    → AllIds (put ++ []) owed (out ++ [])
same put owed out ids = rw (append-nil put, append-nil out) ids

-- those after a call
abbrev IdsAfter : ℕ → List Entry → EndCall → EndAnswer → Type 0
IdsAfter w h call answer =
    AllIds
    (put_messages h ++ cons_option (message_put answer call) [])
    (owed_after w (owed_acks w h) answer call)
    (emissions h ++ cons_option (message_emitted answer) [])

-- a message is put
put : (w : ℕ) (h : List Entry) (item : Item) (id : List ℕ) (now : ℕ) (last : Bool)
    → AllIds (put_messages h) (owed_acks w h) (emissions h)
    → IsId id
    → AllIds
    (put_messages h ++ record { item = item; id = id; date = max now 1; last = last } ∷ [])
    (owed_acks w h)
    (emissions h ++ [])
put w h item id now last ids fits =
    record {
      messages = All-push (λ (m : PutMessage). IsId m.id) (put_messages h) _ ids.messages fits;
      acks = ids.acks;
      emitted = rw append-nil ids.emitted;
    }

-- a message that was heard is owed
owe : (w : ℕ) (h : List Entry) (n : ℕ) (id : List ℕ)
    → AllIds (put_messages h) (owed_acks w h) (emissions h)
    → IsId id
    → AllIds (put_messages h ++ []) (owed_with w (owed_acks w h) n id) (emissions h ++ [])
owe w h n id ids fits =
    same _ _ _ (record {
      messages = ids.messages;
      acks = owed_with-ids w (owed_acks w h) n id fits ids.acks;
      emitted = ids.emitted;
    })

step : (w : ℕ) (h : List Entry) (call : EndCall) (answer : EndAnswer)
    → AllIds (put_messages h) (owed_acks w h) (emissions h)
    → IsAnswered w h call answer
    → BringsId call
    → IdsAfter w h call answer
step w h call answer ids answered =
    by_cases w h
    (λ call answer. BringsId call → IdsAfter w h call answer)
    (record {
      quiet = λ call answer quiet _.
          rw (quiet.put, quiet.emitted, quiet.owed w (owed_acks w h)) (same _ _ _ ids);
      seq = λ item id now _ fits. put w h item id now false ids fits;
      seq_last = λ item id now _ fits. put w h item id now true ids fits;
      late = λ now n id item last _ fits. owe w h n id ids fits;
      released = λ now n id item last _ _ fits. owe w h n id ids fits;
      finished = λ now n id item last _ _ fits. owe w h n id ids fits;
      acked = λ now n _ _ _. same _ _ _ ids;
      emit_ack = λ now p owed is _.
          let P : ℕ × List ℕ → Type 0 = λ q. IsId q.1 in
          let acks : All P (p ∷ owed) = subst (All P) is ids.acks in
          record {
            messages = rw append-nil ids.messages;
            acks = All-drop P 1 (owed_acks w h) ids.acks;
            emitted = All-push HasId (emissions h) _ ids.emitted (All-head P p owed acks);
          };
      emit_stream = λ now n m below _ is _.
          let found = get_or_from_slice_get (put_messages h) n m m is in
          let fits : IsId m.id =
          subst (λ (x : PutMessage). IsId x.id) found (ids.messages n m below) in
          record {
            messages = rw append-nil ids.messages;
            acks = ids.acks;
            emitted = All-push HasId (emissions h) _ ids.emitted fits;
          };
    })
    call answer answered

-- nothing was called
ids_start : (w : ℕ) → AllIds (put_messages []) (owed_acks w []) (emissions [])
unfolding put_messages owed_acks emissions
ids_start w =
    record {
      messages = All-nil (λ (m : PutMessage). IsId m.id);
      acks = All-nil (λ (p : ℕ × List ℕ). IsId p.1);
      emitted = All-nil HasId;
    }

ids_after : (w : ℕ) (h : List Entry)
    → IsLegal w h
    → All (λ e. BringsId e.call) h
    → AllIds (put_messages h) (owed_acks w h) (emissions h)
ids_after w =
    by_pushes
    (λ (h : List Entry). IsLegal w h
    → All (λ (e : Entry). BringsId e.call) h
    → AllIds (put_messages h) (owed_acks w h) (emissions h))
    (λ _ _. ids_start w)
    (λ h e before legal brings.
    let was = IsLegal-pushed w h e legal in
    let may = All-pushed (λ (x : Entry). BringsId x.call) h e brings in
    rw (put_messages-push, owed_acks-push, emissions-push)
    (step w h e.call e.answer (before was.0 may.0) was.1 may.1))

-- the ids of what an end emitted are bytes, where those were that its calls brought
pub emissions-have-ids : (w : ℕ) (h : List Entry)
    → IsLegal w h
    → All (λ e. BringsId e.call) h
    → All HasId (emissions h)
emissions-have-ids w h legal brings = (ids_after w h legal brings).emitted

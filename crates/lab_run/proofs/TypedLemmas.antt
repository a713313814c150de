-- What an end emits fits its fields, where the arguments of its calls did.
use Rattle.std.proofs.Common.{◌≡◌, ◌==◌, ℕ, ◌+◌, ◌^◌, ◌<◌, max, Bool, true, false, cond, List, [], ◌∷◌, ◌++◌, length, subst, arith, refl}
use Rattle.std.specs.Prelude.{FitsSigned, pos}
use Rattle.std.specs.Int.{w64}
use Rattle.std.specs.List.{All, cons_option}
use Rattle.std.proofs.lemmas.Bool.{cond_both}
use Rattle.std.proofs.lemmas.Int.{ints}
use Rattle.std.proofs.lemmas.List.{append-nil}
use Rattle.std.proofs.lemmas.List.Elements.{All-drop, All-head, All-nil, All-push, All-weaker}
use Rattle.std.proofs.lemmas.Option.{get_or_from_slice_get}
use Rattle.chan_values.specs.declared.side.Side.{Side}
use Rattle.chan_values.specs.declared.side.Side.TheVariants.{Plugin, Agent}
use Rattle.chan_values.specs.declared.item.Item.{Item}
use Rattle.agent_message.specs.Names.{IsName}
use Rattle.channel_core.specs.declared.call.EndAnswer.{EndAnswer}
use Rattle.channel_core.specs.declared.call.EndCall.{EndCall}
use Rattle.channel_core.specs.declared.message.Incoming.TheVariants as Incoming
use Rattle.channel_core.specs.declared.message.Outgoing.{Outgoing}
use Rattle.channel_core.specs.Call.{Entry}
use Rattle.channel_core.specs.Condition.{IsCallable}
use Rattle.channel_core.specs.Condition.{CanBeEncoded}
use Rattle.channel_core.specs.History.{PutMessage, emissions, message_emitted, message_put, owed_acks, owed_after, owed_with, put_messages}
use Rattle.channel_core.specs.Legal.{IsAnswered, IsLegal}
use Rattle.channel_core.specs.Wire.{data_name, message_of, stream_flags}
use Rattle.channel_core.proofs.EncodableLemmas.{emissions_can_be_encoded}
use Rattle.channel_core.proofs.HistoryLemmas.{by_pushes, emissions-push, owed_acks-push, put_messages-push}
use Rattle.channel_core.proofs.CaseLemmas.{by_cases}
use Rattle.channel_core.proofs.LegalLemmas.{All-pushed, IsLegal-pushed}
use Rattle.lab_run.specs.Ends.{IsSendable}

-- the arguments of a call fit the fields of a message
abbrev pub IsTyped : EndCall → Type 0
IsTyped (EndCall.Put item id now) = (now < 2 ^ 64) × (length id ≡ 16) × (item.ptype < 2 ^ 32)
IsTyped (EndCall.PutLast item id now) = (now < 2 ^ 64) × (length id ≡ 16) × (item.ptype < 2 ^ 32)
IsTyped (EndCall.Heard now (Incoming.Stream n id item last)) = length id ≡ 16
IsTyped (EndCall.Pull now) = now < 2 ^ 64
IsTyped call = Unit {0}

-- the call may be made, and its arguments fit
abbrev pub IsFit : Entry → Type 0
IsFit e = IsCallable e.call × IsTyped e.call

-- a message that was put fits
abbrev PutFits : PutMessage → Type 0
PutFits m = (m.date < 2 ^ 64) × (length m.id ≡ 16) × (m.item.ptype < 2 ^ 32)

-- the id of an acknowledgement that is owed fits
abbrev OwedFits : ℕ × List ℕ → Type 0
OwedFits p = length p.1 ≡ 16

-- what is emitted fits
abbrev OutFits : Outgoing → Type 0
OutFits (Outgoing.Stream m) = (m.date < 2 ^ 64) × (length m.id ≡ 16) × (m.item.ptype < 2 ^ 32)
OutFits (Outgoing.Ack n id date) = (date < 2 ^ 64) × (length id ≡ 16)

-- all of them fit
record AllFit (put : List PutMessage) (owed : List (ℕ × List ℕ)) (out : List Outgoing)
    : Type 0 where
  messages : All PutFits put
  acks : All OwedFits owed
  emitted : All OutFits out

-- a message that is heard is owed, or nothing changes
owed-fits : (w : ℕ) (owed : List (ℕ × List ℕ)) (n : ℕ) (id : List ℕ)
    → length id ≡ 16
    → All OwedFits owed
    → All OwedFits (owed_with w owed n id)
owed-fits w owed n id fits all =
    cond_both _ owed (owed ++ (n, id) ∷ []) (All OwedFits)
    (λ _. all)
    (λ _. All-push OwedFits owed (n, id) all fits)

-- nothing is put, and nothing goes out
same : (put : List PutMessage) (owed : List (ℕ × List ℕ)) (out : List Outgoing)
    → AllFit put owed out
    → AllFit (put ++ []) owed (out ++ [])
same put owed out fit = rw (append-nil put, append-nil out) fit

-- they fit after a call
abbrev FitAfter : ℕ → List Entry → EndCall → EndAnswer → Type 0
FitAfter w h call answer =
    AllFit
    (put_messages h ++ cons_option (message_put answer call) [])
    (owed_after w (owed_acks w h) answer call)
    (emissions h ++ cons_option (message_emitted answer) [])

-- a message is put
put : (w : ℕ) (h : List Entry) (item : Item) (id : List ℕ) (now : ℕ) (last : Bool)
    → AllFit (put_messages h) (owed_acks w h) (emissions h)
    → (now < 2 ^ 64) × (length id ≡ 16) × (item.ptype < 2 ^ 32)
    → AllFit
    (put_messages h ++ record { item = item; id = id; date = max now 1; last = last } ∷ [])
    (owed_acks w h)
    (emissions h ++ [])
put w h item id now last fit typed =
    record {
      messages = All-push PutFits (put_messages h) _ fit.messages
          (omega (arith, typed.0), typed.1, typed.2);
      acks = fit.acks;
      emitted = rw append-nil fit.emitted;
    }

-- a message that was heard is owed
owe : (w : ℕ) (h : List Entry) (n : ℕ) (id : List ℕ)
    → AllFit (put_messages h) (owed_acks w h) (emissions h)
    → length id ≡ 16
    → AllFit (put_messages h ++ []) (owed_with w (owed_acks w h) n id) (emissions h ++ [])
owe w h n id fit typed =
    same _ _ _ (record {
      messages = fit.messages;
      acks = owed-fits w (owed_acks w h) n id typed fit.acks;
      emitted = fit.emitted;
    })

step : (w : ℕ) (h : List Entry) (call : EndCall) (answer : EndAnswer)
    → AllFit (put_messages h) (owed_acks w h) (emissions h)
    → IsAnswered w h call answer
    → IsTyped call
    → FitAfter w h call answer
step w h call answer fit answered =
    by_cases w h
    (λ call answer. IsTyped call → FitAfter w h call answer)
    (record {
      quiet = λ call answer quiet _.
          rw (quiet.put, quiet.emitted, quiet.owed w (owed_acks w h)) (same _ _ _ fit);
      seq = λ item id now _ typed. put w h item id now false fit typed;
      seq_last = λ item id now _ typed. put w h item id now true fit typed;
      late = λ now n id item last _ typed. owe w h n id fit typed;
      released = λ now n id item last _ _ typed. owe w h n id fit typed;
      finished = λ now n id item last _ _ typed. owe w h n id fit typed;
      acked = λ now n _ _ _. same _ _ _ fit;
      emit_ack = λ now p owed is typed.
          let acks : All OwedFits (p ∷ owed) = subst (All OwedFits) is fit.acks in
          record {
            messages = rw append-nil fit.messages;
            acks = All-drop OwedFits 1 (owed_acks w h) fit.acks;
            emitted = All-push OutFits (emissions h) _ fit.emitted
                (omega (arith, typed), All-head OwedFits p owed acks);
          };
      emit_stream = λ now n m below _ is typed.
          let found = get_or_from_slice_get (put_messages h) n m m is in
          let fits : PutFits m = subst PutFits found (fit.messages n m below) in
          record {
            messages = rw append-nil fit.messages;
            acks = fit.acks;
            emitted = All-push OutFits (emissions h) _ fit.emitted fits;
          };
    })
    call answer answered

-- nothing was called
fit_start : (w : ℕ) → AllFit (put_messages []) (owed_acks w []) (emissions [])
unfolding put_messages owed_acks emissions
fit_start w =
    record { messages = All-nil PutFits; acks = All-nil OwedFits; emitted = All-nil OutFits }

-- they fit after each history
fit_after : (w : ℕ) (h : List Entry)
    → IsLegal w h
    → All (λ e. IsTyped e.call) h
    → AllFit (put_messages h) (owed_acks w h) (emissions h)
fit_after w =
    by_pushes
    (λ (h : List Entry). IsLegal w h
    → All (λ (e : Entry). IsTyped e.call) h
    → AllFit (put_messages h) (owed_acks w h) (emissions h))
    (λ _ _. fit_start w)
    (λ h e before legal typed.
    let was = IsLegal-pushed w h e legal in
    let may = All-pushed (λ (x : Entry). IsTyped x.call) h e typed in
    rw (put_messages-push, owed_acks-push, emissions-push)
    (step w h e.call e.answer (before was.0 may.0) was.1 may.1))

-- the flags of a stream message fit
flags-fit : (n : ℕ) (last : Bool) → stream_flags n last < 2 ^ 64
flags-fit n last =
    cond_both (n == 0) 1 0 (λ syn. syn + cond last 2 0 < 2 ^ 64)
    (λ _. cond_both last 2 0 (λ fin. 1 + fin < 2 ^ 64) (λ _. omega arith) (λ _. omega arith))
    (λ _. cond_both last 2 0 (λ fin. 0 + fin < 2 ^ 64) (λ _. omega arith) (λ _. omega arith))

-- so does its number
fits-pos : (n : ℕ) → n < 2 ^ 63 → FitsSigned w64 (pos n)
fits-pos n small = omega (arith, ints, small)

-- the name of a stream message is a name
IsName-data_name : (side : Side) → IsName (data_name side)
IsName-data_name Plugin = (omega arith, omega arith, refl)
IsName-data_name Agent = (omega arith, omega arith, refl)

-- an emission that can be encoded and fits is a message
IsSendable-fits : (side : Side) (out : Outgoing)
    → CanBeEncoded out → OutFits out → IsSendable side out
IsSendable-fits side (Outgoing.Stream m) can fits = (
  can,
  record {
    name = IsName-data_name side;
    schema = omega arith;
    date = fits.0;
    seq = fits-pos m.seq can.0;
    flags = flags-fit m.seq m.last;
    id = fits.1;
    ptype = fits.2;
  },
)
IsSendable-fits side (Outgoing.Ack n id date) can fits = (
  can,
  record {
    name = (omega arith, omega arith, refl);
    schema = omega arith;
    date = fits.0;
    seq = fits-pos 0 (omega arith);
    flags = omega arith;
    id = fits.1;
    ptype = omega arith;
  },
)

-- what an end emitted has an encoding, where its calls fitted
pub All-sendable : (w : ℕ) (side : Side) (h : List Entry)
    → IsLegal w h
    → All IsFit h
    → All (IsSendable side) (emissions h)
All-sendable w side h legal fit =
    let callable = All-weaker IsFit (λ e. IsCallable e.call) (λ e f. f.0) h fit in
    let typed = All-weaker IsFit (λ e. IsTyped e.call) (λ e f. f.1) h fit in
    let can = emissions_can_be_encoded w h legal callable in
    let all = (fit_after w h legal typed).emitted in
    λ k d within. IsSendable-fits side _ (can k d within) (all k d within)

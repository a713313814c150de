-- What a legal history emits can be encoded, where each call was one that may be made.
use Rattle.std.proofs.Common.{ℕ, ◌+◌, ◌-◌, ◌^◌, ◌<◌, ◌≤◌, max, List, [], ◌∷◌, ◌++◌, subst, arith, length, true, false}
use Rattle.std.specs.List.{All, cons_option}
use Rattle.std.proofs.lemmas.Bool.{cond_both}
use Rattle.std.proofs.lemmas.List.{append-nil, length_push}
use Rattle.std.proofs.lemmas.List.Elements.{All-drop, All-head, All-nil, All-push}
use Rattle.std.proofs.lemmas.Option.{get_or_from_slice_get}
use Rattle.chan_values.specs.Limits.{max_payload}
use Rattle.channel_core.specs.declared.call.EndAnswer.{EndAnswer}
use Rattle.channel_core.specs.declared.call.EndCall.{EndCall}
use Rattle.channel_core.specs.declared.message.Outgoing.{Outgoing}
use Rattle.channel_core.specs.Call.{Entry}
use Rattle.channel_core.specs.Condition.{CanBeEncoded, IsCallable}
use Rattle.channel_core.specs.History.{PutMessage, emissions, message_emitted, message_put, owed_acks, owed_after, owed_with, put_messages}
use Rattle.channel_core.specs.Laws.{EmissionsCanBeEncoded}
use Rattle.channel_core.specs.Legal.{IsAnswered, IsLegal}
use Rattle.channel_core.proofs.HistoryLemmas.{by_pushes, emissions-push, owed_acks-push, put_messages-push}
use Rattle.channel_core.proofs.CaseLemmas.{by_cases}
use Rattle.channel_core.proofs.LegalLemmas.{All-pushed, IsLegal-pushed}
use Rattle.chan_values.specs.Limits.{max_seq}

-- the message has a date, and its payload fits
abbrev Fits : PutMessage → Type 0
Fits m = (0 < m.date) × (length m.item.payload ≤ max_payload)

-- the number fits
abbrev IsSmall : ℕ × List ℕ → Type 0
IsSmall p = p.0 < 2 ^ 63

-- messages, owed acknowledgements and emissions that are as they should be
record Sound (put : List PutMessage) (owed : List (ℕ × List ℕ)) (out : List Outgoing) : Type 0 where
  numbers : length put ≤ max_seq + 1
  fit : All Fits put
  small : All IsSmall owed
  encodable : All CanBeEncoded out

-- they are after a call
abbrev SoundAfter : ℕ → List Entry → EndCall → EndAnswer → Type 0
SoundAfter w h call answer =
    Sound
    (put_messages h ++ cons_option (message_put answer call) [])
    (owed_after w (owed_acks w h) answer call)
    (emissions h ++ cons_option (message_emitted answer) [])

-- a message that is heard is owed, or nothing changes
owed_small : (w : ℕ) (owed : List (ℕ × List ℕ)) (n : ℕ) (id : List ℕ)
    → n < 2 ^ 63
    → All IsSmall owed
    → All IsSmall (owed_with w owed n id)
owed_small w owed n id small all =
    cond_both _ owed (owed ++ (n, id) ∷ []) (All IsSmall)
    (λ _. all)
    (λ _. All-push IsSmall owed (n, id) all small)

-- nothing is put, and nothing goes out
same : (put : List PutMessage) (owed : List (ℕ × List ℕ)) (out : List Outgoing)
    → Sound put owed out
    → Sound (put ++ []) owed (out ++ [])
same put owed out sound = rw (append-nil put, append-nil out) sound

step : (w : ℕ) (h : List Entry) (call : EndCall) (answer : EndAnswer)
    → Sound (put_messages h) (owed_acks w h) (emissions h)
    → IsAnswered w h call answer
    → IsCallable call
    → SoundAfter w h call answer
step w h call answer sound answered =
    by_cases w h
    (λ call answer. IsCallable call → SoundAfter w h call answer)
    (record {
      quiet = λ call answer quiet _.
          rw (quiet.put, quiet.emitted, quiet.owed w (owed_acks w h)) (same _ _ _ sound);
      seq = λ item id now free fits.
          let m : PutMessage = record { item = item; id = id; date = max now 1; last = false } in
          let left = free.left in
          let longer = length_push (put_messages h) m in
          let count = sound.numbers in
          record {
            numbers = omega arith;
            fit = All-push Fits (put_messages h) m sound.fit (omega arith, fits);
            small = sound.small;
            encodable = rw append-nil sound.encodable;
          };
      seq_last = λ item id now free fits.
          let m : PutMessage = record { item = item; id = id; date = max now 1; last = true } in
          let left = free.left in
          let longer = length_push (put_messages h) m in
          let count = sound.numbers in
          record {
            numbers = omega arith;
            fit = All-push Fits (put_messages h) m sound.fit (omega arith, fits);
            small = sound.small;
            encodable = rw append-nil sound.encodable;
          };
      late = λ now n id item last _ small.
          same _ _ _ (record {
            numbers = sound.numbers;
            fit = sound.fit;
            small = owed_small w (owed_acks w h) n id small sound.small;
            encodable = sound.encodable;
          });
      released = λ now n id item last _ _ small.
          same _ _ _ (record {
            numbers = sound.numbers;
            fit = sound.fit;
            small = owed_small w (owed_acks w h) n id small sound.small;
            encodable = sound.encodable;
          });
      finished = λ now n id item last _ _ small.
          same _ _ _ (record {
            numbers = sound.numbers;
            fit = sound.fit;
            small = owed_small w (owed_acks w h) n id small sound.small;
            encodable = sound.encodable;
          });
      acked = λ now n _ _ _. same _ _ _ sound;
      emit_ack = λ now p owed is _.
          let small : All IsSmall (p ∷ owed) = subst (All IsSmall) is sound.small in
          record {
            numbers = rw append-nil sound.numbers;
            fit = rw append-nil sound.fit;
            small = All-drop IsSmall 1 (owed_acks w h) sound.small;
            encodable = All-push CanBeEncoded (emissions h) _ sound.encodable
                (All-head IsSmall p owed small, omega arith);
          };
      emit_stream = λ now n m below _ is _.
          let found = get_or_from_slice_get (put_messages h) n m m is in
          let fits : Fits m = subst Fits found (sound.fit n m below) in
          let count = sound.numbers in
          record {
            numbers = rw append-nil sound.numbers;
            fit = rw append-nil sound.fit;
            small = sound.small;
            encodable =
                All-push CanBeEncoded (emissions h) _ sound.encodable (omega arith, fits.0, fits.1);
          };
    })
    call answer answered

-- nothing was called
sound_start : (w : ℕ) → Sound (put_messages []) (owed_acks w []) (emissions [])
unfolding put_messages owed_acks emissions
sound_start w =
    record {
      numbers = omega arith;
      fit = All-nil Fits;
      small = All-nil IsSmall;
      encodable = All-nil CanBeEncoded;
    }

-- so they are after each history
sound_after : (w : ℕ) (h : List Entry)
    → IsLegal w h
    → All (λ e. IsCallable e.call) h
    → Sound (put_messages h) (owed_acks w h) (emissions h)
sound_after w =
    by_pushes
    (λ (h : List Entry). IsLegal w h
    → All (λ (e : Entry). IsCallable e.call) h
    → Sound (put_messages h) (owed_acks w h) (emissions h))
    (λ _ _. sound_start w)
    (λ h e before legal callable.
    let was = IsLegal-pushed w h e legal in
    let may = All-pushed (λ (x : Entry). IsCallable x.call) h e callable in
    rw (put_messages-push, owed_acks-push, emissions-push)
    (step w h e.call e.answer (before was.0 may.0) was.1 may.1))

pub emissions_can_be_encoded : EmissionsCanBeEncoded
emissions_can_be_encoded w h legal callable = (sound_after w h legal callable).encodable

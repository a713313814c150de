-- What is read of an acknowledgement that was written, and of a message that was encoded.
use Rattle.std.proofs.Common.{◌≡◌, ◌⊎◌, inl, inr, ℕ, ℤ, ◌+◌, ◌^◌, ◌<◌, true, pos, nat_abs, List, [], ◌∷◌, ◌++◌, length, length-append, length-drop, take-append-drop, drop, slice_range, Result, Ok, Err, All, IsUtf8, to_z, of_z, refl, sym, ap, ◌∙◌, subst, arith, ltb-true, false, Bool, cond, eqb}
use Rattle.std.specs.Prelude.{int_lt, nat_lt, IsAscii}
use Rattle.std.specs.List.{list_all}
use Rattle.std.specs.Int.{w32, w64, to_be_bytes, cast_unsigned}
use Rattle.std.proofs.lemmas.Int.{ints, to_z-of_z}
use Rattle.std.proofs.lemmas.List.{get_or_append_left, get_or-append-add}
use Rattle.std.proofs.lemmas.List.Elements.{All-same, All-append}
use Rattle.std.proofs.lemmas.List.{take_all}
use Rattle.std.proofs.lemmas.Bool.{and_parts}
use Rattle.std.proofs.lemmas.Str.{IsUtf8-from_ascii}
use Rattle.std.proofs.lemmas.Str.Ascii.{IsAscii-nil, IsAscii-cons}
use Rattle.chan_values.specs.declared.side.Side.{Side}
use Rattle.chan_values.specs.declared.side.Side.TheVariants.{Plugin, Agent}
use Rattle.chan_values.specs.Sides.{other}
use Rattle.agent_message.specs.Sha256.{sha256}
use Rattle.agent_message.specs.Decoding.{Decodes}
use Rattle.agent_message.specs.Layout.{canonical, IsMessage, IsEncodable}
use Rattle.agent_message.specs.Names.{padded}
use Rattle.agent_message.specs.declared.refusal.Refusal.{Refusal}
use Rattle.channel_core.specs.Arrival.{Answer, Arrives, Hears, IsAnswer, AnswerOrNoMemory, item_of, refusal_of}
use Rattle.channel_core.specs.Exchange.{incoming_of}
use Rattle.channel_core.specs.declared.message.Incoming.TheVariants as Incoming
use Rattle.channel_core.specs.declared.message.Outgoing.{Outgoing}
use Rattle.channel_core.proofs.WireLemmas.{fits_signed, length-payload}
use Rattle.channel_core.specs.declared.wire.InRefusal.TheVariants as InRefusal
use Rattle.agent_message.specs.declared.message.Message.{Message}
use Rattle.json_bodies.specs.Ack.{IsWritableAck}
use Rattle.channel_core.specs.Wire.{CanBeEncoded, ack_body, ack_message, data_name, encoding, message_of, has_fin}

-- ---- the body of an acknowledgement

-- a text of small bytes is ASCII
IsAscii-from_test : (text : List ℕ) → list_all (λ byte. nat_lt byte 128) text ≡ true → IsAscii text
IsAscii-from_test [] all = IsAscii-nil
IsAscii-from_test (byte ∷ text) all =
    let both = and_parts _ _ all in
    IsAscii-cons byte text (ltb-true _ _ both.0) (IsAscii-from_test text both.1)

IsUtf8-data_name : (side : Side) → IsUtf8 (data_name side)
IsUtf8-data_name Plugin = IsUtf8-from_ascii _ (IsAscii-from_test (data_name Plugin) refl)
IsUtf8-data_name Agent = IsUtf8-from_ascii _ (IsAscii-from_test (data_name Agent) refl)

pub IsWritableAck-ack_body : (side : Side) (seq : ℕ) (id : List ℕ) → seq < 2 ^ 63 → length id ≡ 16
    → All (λ byte. byte < 256) id
    → IsWritableAck (ack_body side seq id)
IsWritableAck-ack_body side seq id small long bytes = record {
  id = (long, bytes);
  seq = fits_signed seq small;
  kind = IsUtf8-data_name (other side);
}

-- the number that was written is not negative, and its magnitude is itself
pub never_negative : (z : ℤ) (seq : ℕ) → z ≡ pos seq → seq < 2 ^ 63
    → int_lt (to_z w64 (of_z w64 z)) (pos 0) ≡ true → ⊥
never_negative z seq is small negative =
    let back = to_z-of_z w64 (pos seq) (fits_signed seq small) in grind (arith, ints)

pub magnitude : (z : ℤ) (seq : ℕ) → z ≡ pos seq → seq < 2 ^ 63
    → nat_abs (to_z w64 (of_z w64 z)) ≡ seq
magnitude z seq is small = rw is (ap nat_abs (to_z-of_z w64 (pos seq) (fits_signed seq small)))

-- ---- the id of an encoded message

All-front : (P : ℕ → Type 0) (xs ys : List ℕ) → All P (xs ++ ys) → All P xs
All-front P xs ys all =
    λ k d within. subst P (get_or_append_left xs ys d k within)
    (all k d (omega (arith, length-append xs ys)))

All-back : (P : ℕ → Type 0) (xs ys : List ℕ) → All P (xs ++ ys) → All P ys
All-back P xs ys all =
    λ k d within. subst P (get_or-append-add xs ys k d)
    (all (length xs + k) d (omega (arith, length-append xs ys)))

halves : (id : List ℕ) → length id ≡ 16 → slice_range id 0 8 ++ slice_range id 8 16 ≡ id
halves id long =
    rw (take_all 8 (drop 8 id) (omega (arith, length-drop 8 id))) (take-append-drop 8 id)

middle : (P : ℕ → Type 0) (a b c d e f g : List ℕ) → All P (a ++ b ++ c ++ d ++ e ++ f ++ g)
    → All P (c ++ b)
middle P a b c d e f g all =
    let front = All-front P (a ++ b ++ c) d
    (All-front P _ e (All-front P _ f (All-front P (a ++ b ++ c ++ d ++ e ++ f) g all))) in
    All-append P c b (All-back P (a ++ b) c front) (All-back P a b (All-front P (a ++ b) c front))

id_bytes : (m : Message) → length m.id ≡ 16 → All (λ byte. byte < 256) (canonical m)
    → All (λ byte. byte < 256) m.id
id_bytes m long all =
    All-same (λ byte. byte < 256) m.id _ (sym (halves m.id long))
    (middle (λ byte. byte < 256)
    (to_be_bytes w32 116 ++ padded m.name ++ to_be_bytes w32 m.schema ++ to_be_bytes w64 m.date
    ++ to_be_bytes w64 (cast_unsigned w64 m.seq) ++ to_be_bytes w64 m.flags)
    (slice_range m.id 8 16) (slice_range m.id 0 8) (sha256 m.payload) (to_be_bytes w32 m.ptype)
    (to_be_bytes w32 (length m.payload)) m.payload all)

-- a fault of the bytes is no want of memory
refusal_of-refused : (bytes : List ℕ) (refusal : Refusal) → Decodes bytes (Err refusal)
    → refusal_of refusal ≡ InRefusal.Message refusal
refusal_of-refused bytes Refusal.NoMemory decodes = absurd decodes.0
refusal_of-refused bytes refusal decodes = refl

-- ---- the answer to the message that the bytes spell is that to the bytes

module _ (side : Side) (bytes : List ℕ) (decoded : Result Message Refusal) (result : Answer)
    (only : (answer : Result Message Refusal) → Decodes bytes answer
    → (decoded ≡ answer) ⊎ (decoded ≡ Err Refusal.NoMemory)) where
  pub IsAnswer-heard : (m : Message) → decoded ≡ Ok m → Decodes bytes (Ok m)
      → IsAnswer (Hears side m) result → IsAnswer (Arrives side bytes) result
  IsAnswer-heard m is decodes heard = record {
    given = elim heard.given [ inl h ↦ inl (inl (m, decodes, h)) | inr e ↦ inr e ];
    only = λ answer arrives. elim arrives [
      | inl w ↦ elim (only (Ok w.0) w.1) [
        | inl e ↦ let same : m ≡ w.0 = cc in
            heard.only answer (subst (λ x. Hears side x answer) (sym same) w.2)
        | inr e ↦ absurd (cc)
      ]
      | inr w ↦ elim (only (Err w.0) w.1) [ inl e ↦ absurd (cc) | inr e ↦ absurd (cc) ]
    ];
  }

  pub IsAnswer-refused : (refusal : Refusal) → decoded ≡ Err refusal
      → result ≡ Err (refusal_of refusal)
      → (refusal ≡ Refusal.NoMemory) ⊎ Decodes bytes (Err refusal)
      → IsAnswer (Arrives side bytes) result
  IsAnswer-refused refusal is told (inl memory) = record {
    given = inr (told ∙ ap (λ x. Err (refusal_of x)) memory);
    only = λ answer arrives. inr (told ∙ ap (λ x. Err (refusal_of x)) memory);
  }
  IsAnswer-refused refusal is told (inr decodes) =
      let message = told ∙ ap Err (refusal_of-refused bytes refusal decodes) in
      record {
        given = inl (inr (refusal, decodes, message));
        only = λ answer arrives. elim arrives [
          | inl w ↦ elim (only (Ok w.0) w.1) [ inl e ↦ absurd (cc) | inr e ↦ absurd (cc) ]
          | inr w ↦ elim (only (Err w.0) w.1) [
            | inl e ↦ let same : refusal ≡ w.0 = cc in
                inl (message ∙ ap (λ x. Err (InRefusal.Message x)) same ∙ sym w.2)
            | inr e ↦ let memory : refusal ≡ Refusal.NoMemory = cc in
                inr (told ∙ ap (λ x. Err (refusal_of x)) memory)
          ]
        ];
      }

-- ---- what was encoded is heard as what was emitted

-- the message of what is encodable is so
pub IsEncodable-message_of : (side : Side) (out : Outgoing) → CanBeEncoded out
    → IsMessage (message_of side out) → IsEncodable (message_of side out)
IsEncodable-message_of side (Outgoing.Stream sent) can fits =
    record {
      message = fits;
      sized = length-payload side (Outgoing.Stream sent) can;
      dated = inl can.1;
    }
IsEncodable-message_of side (Outgoing.Ack seq id date) can fits =
    record {
      message = fits;
      sized = length-payload side (Outgoing.Ack seq id date) can;
      dated = inl can.1;
    }

-- the flags of a stream message have FIN where it is the last
has_fin-flags : (first last : Bool) → has_fin (cond first 1 0 + cond last 2 0) ≡ last
has_fin-flags true true = refl
has_fin-flags true false = refl
has_fin-flags false true = refl
has_fin-flags false false = refl

pub heard_again : (side : Side) (bytes : List ℕ) (m : Message) (result : Answer)
    → All (λ byte. byte < 256) bytes
    → IsAnswer (Hears side m) result
    → ((seq : ℕ) (id : List ℕ) (date : ℕ) → seq < 2 ^ 63 → length id ≡ 16
    → All (λ byte. byte < 256) id → m ≡ ack_message (other side) seq id date
    → AnswerOrNoMemory result (Ok (Incoming.Ack seq)))
    → (out : Outgoing) → CanBeEncoded out → IsMessage (message_of (other side) out)
    → bytes ≡ encoding (other side) out → m ≡ message_of (other side) out
    → AnswerOrNoMemory result (Ok (incoming_of out))
heard_again side bytes m result small heard written (Outgoing.Stream sent) can fits spelled is =
    heard.only (Ok (Incoming.Stream sent.seq sent.id sent.item sent.last))
    (inl (
      ap (λ x. x.name) is,
      (
        ap (λ x. x.seq) is,
        ap (λ x. x.id) is,
        ap item_of is,
        ap (λ x. has_fin x.flags) is ∙ has_fin-flags (eqb sent.seq 0) sent.last,
      ),
    ))
heard_again side bytes m result small heard written (Outgoing.Ack seq id date) can fits spelled is =
    written seq id date can.0 fits.id
    (id_bytes (ack_message (other side) seq id date) fits.id
    (subst (All (λ byte. byte < 256)) spelled small)) is

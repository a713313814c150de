-- The relay's own messages are heard by their names.
use Rattle.std.proofs.Common.{◌≡◌, ℕ, ◌^◌, ◌<◌, ◌≤◌, max, true, List, length, Ok, codes, inl, inr, refl, [], ◌∷◌, ltb-true, arith}
use Rattle.std.specs.List.{list_all}
use Rattle.std.specs.Prelude.{IsAscii, nat_lt}
use Rattle.std.proofs.lemmas.Bool.{and_parts}
use Rattle.std.proofs.lemmas.Fmt.{IsAscii-decimal, length-decimal-le}
use Rattle.std.proofs.lemmas.Str.{IsUtf8-from_ascii, IsUtf8-nil}
use Rattle.std.proofs.lemmas.Str.Ascii.{IsAscii-cons, IsAscii-nil}
use Rattle.chan_values.specs.declared.side.Side.{Side}
use Rattle.agent_message.specs.Layout.{IsMessage}
use Rattle.agent_message.specs.Names.{IsName}
use Rattle.agent_message.specs.declared.message.Message.{Message}
use Rattle.agent_message.proofs.Spelling.{Decodes-canonical}
use Rattle.json_bodies.specs.ChannelClosed.{IsClosedBody, IsWritableClosed, closed_text}
use Rattle.json_bodies.proofs.ChannelClosedLemmas.{closed_form}
use Rattle.json_bodies.proofs.LengthLemmas.{length-closed_text}
use Rattle.json_bodies.proofs.ReadingLemmas.{body_of-written}
use Rattle.channel_core.specs.Arrival.{Arrives}
use Rattle.channel_core.specs.declared.message.Incoming.{Incoming}
use Rattle.relay_core.specs.Messages.{closing, closing_body, own_message, pause, start}
use Rattle.uuid.proofs.TextLemmas.{by_index_length, hyphenated_ascii}
use Rattle.uuid.specs.Text.{hyphenated_text, lower}
use Rattle.lab_run.specs.Steps.{id_of}
use Rattle.lab_relay.specs.Scene.{lab}

-- a message without number, flags and payload type fits its fields
IsMessage-own : (name : List ℕ) (line now : ℕ) (payload : List ℕ) → IsName name → now < 2 ^ 64
    → IsMessage (own_message name (id_of line) now payload)
IsMessage-own name line now payload named small =
    record {
      name = named;
      schema = omega arith;
      date = omega (arith, small);
      seq = record { sfits = omega arith };
      flags = omega arith;
      id = refl;
      ptype = omega arith;
    }

pub Arrives-pause : (side : Side) (line now : ℕ) → now < 2 ^ 64
    → Arrives side (pause (id_of line) now) (Ok Incoming.Pause)
Arrives-pause side line now small =
    let m : Message = own_message (codes "pause_publication") (id_of line) now [] in
    inl (
      m,
      Decodes-canonical m (record {
        message = IsMessage-own (codes "pause_publication") line now []
            (omega arith, omega arith, refl) small;
        sized = omega arith;
        dated = inr (inr refl);
      }),
      inr (inr (inl (refl, refl))),
    )

pub Arrives-start : (side : Side) (line now : ℕ) → now < 2 ^ 64
    → Arrives side (start (id_of line) now) (Ok Incoming.Start)
Arrives-start side line now small =
    let m : Message = own_message (codes "start_publication") (id_of line) now [] in
    inl (
      m,
      Decodes-canonical m (record {
        message = IsMessage-own (codes "start_publication") line now []
            (omega arith, omega arith, refl) small;
        sized = omega arith;
        dated = inr (inl refl);
      }),
      inr (inr (inr (inl (refl, refl)))),
    )

-- a text of small bytes is ASCII
all_small : (text : List ℕ) → list_all (λ byte. nat_lt byte 128) text ≡ true → IsAscii text
all_small [] all = IsAscii-nil
all_small (byte ∷ text) all =
    let both = and_parts _ _ all in
    IsAscii-cons byte text (ltb-true _ _ both.0) (all_small text both.1)

-- the texts of a closing
IsWritable-closing : (line now : ℕ) → now < 2 ^ 64
    → IsWritableClosed (closing_body lab (id_of line) now)
IsWritable-closing line now small =
    record {
      created = IsUtf8-from_ascii _ (IsAscii-decimal (max now 1) (omega (arith, small)));
      destination = IsUtf8-nil;
      message_id = IsUtf8-from_ascii _ (hyphenated_ascii lower (id_of line) (inl refl));
      kind = IsUtf8-from_ascii _ (all_small (codes "channel_closed") refl);
      output = IsUtf8-nil;
      schema = omega arith;
      session = IsUtf8-from_ascii _ (all_small lab refl);
    }

length-id_text : (id : List ℕ) → length (hyphenated_text lower id) ≡ 36
length-id_text id = by_index_length 36 _

short-closing : (line now : ℕ) → now < 2 ^ 64
    → length (closed_text (closing_body lab (id_of line) now)) ≤ 65536
short-closing line now small =
    let body = closing_body lab (id_of line) now in
    let text = length-closed_text body (omega arith) in
    let date = length-decimal-le 20 (max now 1) (omega arith) (omega (arith, small))
    (omega (arith, small)) in
    let id = length-id_text (id_of line) in
    omega (arith, text, date, id)

pub Arrives-closing : (side : Side) (line now : ℕ) → now < 2 ^ 64
    → Arrives side (closing lab (id_of line) now) (Ok (Incoming.Closing []))
Arrives-closing side line now small =
    let body = closing_body lab (id_of line) now in
    let m : Message = own_message (codes "channel_closed") (id_of line) now (closed_text body) in
    let spelled : IsClosedBody (closed_text body) body =
    body_of-written closed_form body (closed_text body) (IsWritable-closing line now small) tt refl
    in
    inl (
      m,
      Decodes-canonical m (record {
        message = IsMessage-own (codes "channel_closed") line now (closed_text body)
            (omega arith, omega arith, refl) small;
        sized = short-closing line now small;
        dated = inl (omega arith);
      }),
      inr (inr (inr (inr (inl (refl, (body, spelled, refl)))))),
    )

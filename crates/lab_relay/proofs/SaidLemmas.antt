-- What an end hears of a letter is what its bytes say.
use Rattle.std.proofs.Common.{◌≡◌, ℕ, ◌+◌, ◌<◌, ◌/◌, ◌^◌, zero, suc, Some, Bool, true, false, cond, eqb, [], ◌∷◌, ◌++◌, length, replicate, Ok, inl, inr, refl, subst, arith}
use Rattle.std.specs.Int.{byte_at, bytes_high_first, to_be_bytes, w64}
use Rattle.std.specs.List.{All, filter_map}
use Rattle.std.proofs.Math.Nat.{mod-lt}
use Rattle.std.proofs.lemmas.List.Elements.{All-append, All-cons, All-nil, All-replicate}
use Rattle.chan_values.specs.declared.side.Side.{Side}
use Rattle.chan_values.specs.declared.side.Side.TheVariants.{Plugin, Agent}
use Rattle.chan_values.specs.Sides.{other}
use Rattle.agent_message.proofs.Spelling.{Decodes-canonical}
use Rattle.json_bodies.specs.Ack.{ack_text}
use Rattle.json_bodies.proofs.AckLemmas.{IsSpelled-writable, ack_form}
use Rattle.json_bodies.proofs.ReadingLemmas.{body_of-written}
use Rattle.channel_core.specs.Arrival.{Arrives}
use Rattle.channel_core.specs.Condition.{IsCallable}
use Rattle.channel_core.specs.declared.call.EndCall.{EndCall}
use Rattle.channel_core.specs.declared.message.Incoming.{Incoming}
use Rattle.channel_core.specs.declared.message.Outgoing.{Outgoing}
use Rattle.channel_core.specs.Exchange.{incoming_of}
use Rattle.channel_core.specs.Wire.{ack_body, encoding, has_fin, message_of}
use Rattle.channel_core.proofs.ArrivalLemmas.{IsEncodable-message_of, IsWritableAck-ack_body}
use Rattle.channel_core.proofs.WorldLemmas.{other-other}
use Rattle.relay_core.specs.declared.event.Event.{Event}
use Rattle.relay_core.specs.Forwarding.{actions}
use Rattle.lab_run.specs.Ends.{IsSendable}
use Rattle.lab_run.specs.Steps.{id_of}
use Rattle.lab_run.proofs.TypedLemmas.{IsTyped}
use Rattle.lab_relay.specs.Held.{AreOwned}
use Rattle.lab_relay.specs.Scene.{Letter, Scene, came, last_conn, letter_to}
use Rattle.lab_relay.proofs.GreetingLemmas.{greeted}
use Rattle.lab_relay.proofs.IdLemmas.{AreBytes, HasBytes, OutHas}
use Rattle.lab_relay.proofs.LetterLemmas.{AllSent, letters-all, sent-weaker}
use Rattle.lab_relay.proofs.PostLemmas.{across}

-- ---- ids

high_first-all : (k n : ℕ) → AreBytes (bytes_high_first k n)
high_first-all zero n = All-nil (λ x. x < 256)
high_first-all (suc zero) n =
    All-cons (λ x. x < 256) (byte_at 0 n) [] (mod-lt n (omega arith)) (high_first-all zero n)
high_first-all (suc (suc k)) n =
    All-cons (λ x. x < 256) (byte_at (suc k) n) (bytes_high_first (suc k) n)
    (mod-lt (n / 256 ^ suc k) (omega arith)) (high_first-all (suc k) n)

-- the id of a line consists of bytes
pub AreBytes-id_of : (line : ℕ) → AreBytes (id_of line)
AreBytes-id_of line =
    All-append (λ x. x < 256) (replicate 8 0) (to_be_bytes w64 line)
    (All-replicate (λ x. x < 256) 8 0 (omega arith)) (high_first-all 8 line)

-- ---- what is emitted

-- a call that may be made, with arguments that fit
abbrev pub IsCallFit : EndCall → Type 0
IsCallFit call = IsCallable call × IsTyped call × HasBytes call

-- so is the hearing of this
abbrev pub FitsHeard : Incoming → Type 0
FitsHeard says = (now : ℕ) → IsCallFit (EndCall.Heard now says)

pub fits-greeted : (ended new : Bool) → FitsHeard (greeted ended new)
fits-greeted true new now = (tt, tt, tt)
fits-greeted false true now = (tt, tt, tt)
fits-greeted false false now = (tt, tt, tt)

pub fits-emission : (side : Side) (out : Outgoing) → IsSendable side out → OutHas out
    → FitsHeard (incoming_of out)
fits-emission side (Outgoing.Stream m) sendable has now =
    (sendable.0.0, id side sendable, has)
  where
    id : (side : Side) → IsSendable side (Outgoing.Stream m) → length m.id ≡ 16
    id Plugin sendable = sendable.1.id
    id Agent sendable = sendable.1.id
fits-emission side (Outgoing.Ack n id date) sendable has now = (sendable.0.0, tt, tt)

has_fin-flags : (first last : Bool) → has_fin (cond first 1 0 + cond last 2 0) ≡ last
has_fin-flags true true = refl
has_fin-flags true false = refl
has_fin-flags false true = refl
has_fin-flags false false = refl

-- the bytes of an emission say to the other end what it hears of it
pub Arrives-emission : (side : Side) (out : Outgoing) → IsSendable (other side) out → OutHas out
    → Arrives side (encoding (other side) out) (Ok (incoming_of out))
Arrives-emission side (Outgoing.Stream sent) sendable has =
    let out : Outgoing = Outgoing.Stream sent in
    let m = message_of (other side) out in
    inl (
      m,
      Decodes-canonical m (IsEncodable-message_of (other side) out sendable.0 sendable.1),
      inl (refl, (refl, refl, refl, has_fin-flags (eqb sent.seq 0) sent.last)),
    )
Arrives-emission side (Outgoing.Ack seq id date) sendable has =
    let out : Outgoing = Outgoing.Ack seq id date in
    let m = message_of (other side) out in
    let body = ack_body (other side) seq id in
    let writable = IsWritableAck-ack_body (other side) seq id sendable.0.0 sendable.1.id has in
    let spelled =
    body_of-written ack_form body (ack_text body) (IsSpelled-writable body writable) tt refl in
    inl (
      m,
      Decodes-canonical m (IsEncodable-message_of (other side) out sendable.0 sendable.1),
      inr (inl (refl, (body, spelled, refl))),
    )

-- ---- letters

-- a letter is heard as its bytes say, and may be
pub record IsTrueLetter (side : Side) (l : Letter) : Type 0 where
  pub arrives : Arrives side l.bytes (Ok l.says)
  pub fits : FitsHeard l.says

-- what the relay sends of its own
pub true-own : (s : Scene) (line now : ℕ) (event : Event) (says : ℕ → Incoming)
    → ((to : ℕ) → FitsHeard (says to))
    → ((side : Side)
    → AllSent (λ to bytes. Arrives side bytes (Ok (says to)))
    (actions (came s) (id_of line) now event))
    → (side : Side)
    → All (IsTrueLetter side)
    (filter_map (letter_to (came s ++ event ∷ []) says side)
    (actions (came s) (id_of line) now event))
true-own s line now event says fits arrives side =
    let told = actions (came s) (id_of line) now event in
    letters-all (came s ++ event ∷ []) says side (IsTrueLetter side) told
    (sent-weaker (λ to bytes. Arrives side bytes (Ok (says to))) _
    (λ to bytes is own. record { arrives = is; fits = fits to }) told (arrives side))

-- what it forwards
pub true-posted : (s : Scene) (line now : ℕ) (side : Side) (conn : ℕ) (out : Outgoing)
    → AreOwned (came s)
    → last_conn (came s) side ≡ Some conn
    → IsSendable side out
    → OutHas out
    → (z : Side)
    → All (IsTrueLetter z)
    (filter_map
    (letter_to (came s ++ Event.Binary conn (encoding side out) ∷ []) (λ to. incoming_of out) z)
    (actions (came s) (id_of line) now (Event.Binary conn (encoding side out))))
true-posted s line now side conn out owned last sendable has =
    across s line now side conn out owned last IsTrueLetter
    (record {
      arrives =
          subst
          (λ z. IsSendable z out → Arrives (other side) (encoding z out) (Ok (incoming_of out)))
          (other-other side)
          (λ (can : IsSendable (other (other side)) out).
          Arrives-emission (other side) out can has)
          sendable;
      fits = fits-emission side out sendable has;
    })

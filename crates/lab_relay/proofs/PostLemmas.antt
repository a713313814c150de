-- An emission that comes to the relay goes to the other end alone.
use Rattle.std.proofs.Common.{◌≡◌, ℕ, ◌-◌, true, Some, List, [], ◌∷◌, ◌++◌, length, inl, refl, sym, ap, subst, ◌∙◌}
use Rattle.std.specs.List.{All, filter_map}
use Rattle.chan_values.specs.declared.side.Side.{Side}
use Rattle.chan_values.specs.Sides.{other}
use Rattle.channel_core.specs.declared.call.EndCall.{EndCall}
use Rattle.channel_core.specs.declared.message.Outgoing.{Outgoing}
use Rattle.channel_core.specs.Exchange.{incoming_of}
use Rattle.channel_core.specs.History.{emissions}
use Rattle.channel_core.specs.Wire.{encoding}
use Rattle.channel_core.specs.World.{WasEmitted, history_of}
use Rattle.channel_core.proofs.WorldLemmas.{WasEmitted-at, other-other}
use Rattle.relay_core.specs.declared.event.Event.{Event}
use Rattle.relay_core.specs.Forwarding.{actions, peer_of, place_of}
use Rattle.lab_script.specs.declared.word.Which.{Which}
use Rattle.lab_run.specs.Ends.{IsSendable}
use Rattle.lab_run.specs.Steps.{emission_at, id_of}
use Rattle.lab_relay.specs.Held.{AreOwned, IsHeardAs, IsHonestLetter}
use Rattle.lab_relay.specs.Scene.{Letter, Scene, came, is_of, last_conn, letter_to}
use Rattle.lab_relay.proofs.LetterLemmas.{is_of-place, letters-all, sent-forwarded}
use Rattle.lab_relay.proofs.OwnedLemmas.{IsQuiet-binary, peer-place, place_of-quiet}
use Rattle.lab_relay.proofs.SceneLemmas.{AreTrue}

-- the emission that a line means was emitted
pub WasEmitted-which : (sent : List Outgoing) (which : Which) (out : Outgoing)
    → emission_at sent which ≡ Some out
    → (now : ℕ) → WasEmitted sent (EndCall.Heard now (incoming_of out))
WasEmitted-which sent (Which.Number k) out found now = WasEmitted-at sent k now out found
WasEmitted-which sent Which.Last out found now =
    WasEmitted-at sent (length sent - 1) now out found

module _ (s : Scene) (line now : ℕ) (side : Side) (conn : ℕ) (out : Outgoing)
    (owned : AreOwned (came s)) (last : last_conn (came s) side ≡ Some conn) where
  abbrev event : Event
  event = Event.Binary conn (encoding side out)

  -- the end that it is sent to is the other one
  receiver : (z : Side) (peer : ℕ) → peer_of (came s) conn ≡ Some peer
      → is_of z (place_of (came s ++ event ∷ []) peer) ≡ true
      → z ≡ other side
  receiver z peer is own =
      is_of-place z (other side)
      (ap (is_of z) (sym (place_of-quiet (came s) event (IsQuiet-binary conn (encoding side out))
      peer ∙ peer-place (came s) side conn peer owned last is))
      ∙ own)

  pub across : (P : Side → Letter → Type 0)
      → P (other side) (record { bytes = encoding side out; says = incoming_of out })
      → (z : Side)
      → All (P z)
      (filter_map (letter_to (came s ++ event ∷ []) (λ to. incoming_of out) z)
      (actions (came s) (id_of line) now event))
  across P there z =
      letters-all (came s ++ event ∷ []) (λ to. incoming_of out) z (P z)
      (actions (came s) (id_of line) now event)
      (sent-forwarded _ (came s) (id_of line) now conn (encoding side out)
      (λ peer is own.
      subst (λ x. P x (record { bytes = encoding side out; says = incoming_of out }))
      (sym (receiver z peer is own)) there))

  pub honest-posted : ((moment : ℕ)
      → WasEmitted (emissions (history_of side s.world))
      (EndCall.Heard moment (incoming_of out)))
      → (z : Side)
      → All (IsHonestLetter s.world z)
      (filter_map (letter_to (came s ++ event ∷ []) (λ to. incoming_of out) z)
      (actions (came s) (id_of line) now event))
  honest-posted was =
      across (IsHonestLetter s.world)
      (λ moment.
      subst
      (λ x. WasEmitted (emissions (history_of x s.world))
      (EndCall.Heard moment (incoming_of out)))
      (sym (other-other side)) (was moment))

  pub AreTrue-posted : IsSendable side out
      → ((moment : ℕ)
      → WasEmitted (emissions (history_of side s.world))
      (EndCall.Heard moment (incoming_of out)))
      → AreTrue s line now event (λ to. incoming_of out)
  AreTrue-posted sendable was =
      let same = other-other side in
      record {
        honest = honest-posted was;
        heard = across (λ z l. IsHeardAs z l.bytes l.says)
            (inl (
              out,
              subst (λ x. IsSendable x out) (sym same) sendable,
              ap (λ x. encoding x out) (sym same),
              refl,
            ));
      }

-- What the ends hear of what the relay sends of its own at each event.
use Rattle.std.proofs.Common.{◌≡◌, ℕ, ◌^◌, ◌<◌, Bool, true, false, cond, nat_eq, Option, Some, None, List, [], ◌∷◌, ◌++◌, Ok, refl, sym, ap, subst, ◌∙◌}
use Rattle.std.proofs.lemmas.Bool.{eq-eqb, eqb-true}
use Rattle.chan_values.specs.declared.side.Side.{Side}
use Rattle.chan_values.specs.Sides.{other}
use Rattle.channel_core.specs.Arrival.{Arrives}
use Rattle.channel_core.specs.declared.call.EndCall.{EndCall}
use Rattle.channel_core.specs.declared.message.Incoming.{Incoming}
use Rattle.channel_core.specs.declared.message.Outgoing.{Outgoing}
use Rattle.channel_core.specs.World.{WasEmitted}
use Rattle.relay_core.specs.declared.action.Action.{Action}
use Rattle.relay_core.specs.declared.event.Event.{Event}
use Rattle.relay_core.specs.Forwarding.{actions, is_ended, peer_of, place, place_of, room_told}
use Rattle.relay_core.specs.Messages.{pause, start}
use Rattle.relay_core.specs.Rooms.{at, dismissal, greeting, holder}
use Rattle.relay_core.proofs.EventLemmas.{holder-told}
use Rattle.relay_core.proofs.StandsLemmas.{none-opened}
use Rattle.lab_run.specs.Steps.{id_of}
use Rattle.lab_relay.specs.Held.{AreOwned}
use Rattle.lab_relay.specs.Scene.{lab, next_conn}
use Rattle.lab_relay.proofs.LetterLemmas.{AllSent, sent-append, sent-at}
use Rattle.lab_relay.proofs.OwnMessageLemmas.{Arrives-closing, Arrives-pause, Arrives-start}
use Rattle.lab_relay.proofs.OwnedLemmas.{IsNew-opened, current-place, opened}

-- what is heard of a greeting, by whether the session has ended and whether it is sent to the new
-- connection
abbrev pub greeted : Bool → Bool → Incoming
greeted ended new =
    cond ended (Incoming.Closing []) (cond new Incoming.Pause Incoming.Start)

-- the other end has no part in it
pub greeted-honest : (sent : List Outgoing) (now : ℕ) (ended new : Bool)
    → WasEmitted sent (EndCall.Heard now (greeted ended new))
greeted-honest sent now true new = tt
greeted-honest sent now false true = tt
greeted-honest sent now false false = tt

module _ (z : Side) (line now : ℕ) (small : now < 2 ^ 64) where
  -- ---- an opening

  module _ (conn : ℕ) where
    abbrev IsGreeted : Bool → ℕ → List ℕ → Type 0
    IsGreeted ended to bytes = Arrives z bytes (Ok (greeted ended (nat_eq to conn)))

    sent-greeting : (peer : Option ℕ) → ((to : ℕ) → peer ≡ Some to → nat_eq to conn ≡ false)
        → AllSent (IsGreeted false) (greeting conn peer (id_of line) now)
    sent-greeting None apart =
        let new = eq-eqb conn conn refl in (
          subst (λ b. Arrives z (pause (id_of line) now) (Ok (greeted false b))) (sym new)
              (Arrives-pause z line now small),
          tt,
        )
    sent-greeting (Some to) apart = (
      subst (λ b. Arrives z (start (id_of line) now) (Ok (greeted false b))) (sym (apart to refl))
          (Arrives-start z line now small),
      tt,
    )

    sent-greetings : (ended : Bool) (former peer : Option ℕ)
        → ((to : ℕ) → peer ≡ Some to → nat_eq to conn ≡ false)
        → AllSent (IsGreeted ended)
        (Action.Text conn []
        ∷ cond ended (dismissal lab (id_of line) now conn)
        (at former (λ c. Action.Drop c ∷ []) ++ greeting conn peer (id_of line) now))
    sent-greetings true former peer apart = (Arrives-closing z line now small, tt)
    sent-greetings false former peer apart =
        sent-append (IsGreeted false) (at former (λ c. Action.Drop c ∷ []))
        (greeting conn peer (id_of line) now)
        (sent-at (IsGreeted false) former (λ c. Action.Drop c ∷ []) (λ c is. tt))
        (sent-greeting peer apart)

  -- a current connection is not a new one
  old-apart : (es : List Event) (side : Side) (to : ℕ) → AreOwned es
      → holder side (room_told es lab) ≡ Some to
      → nat_eq to (next_conn es) ≡ false
  old-apart es side to owned is = by (nat_eq to (next_conn es)) refl
    where
      placed : place_of es to ≡ Some (place lab side)
      placed = current-place es side to owned (sym (holder-told es lab side) ∙ is)

      by : (b : Bool) → nat_eq to (next_conn es) ≡ b → b ≡ false
      by true same =
          let none = none-opened es (next_conn es) (IsNew-opened es side owned) in
          let at = ap (place_of es) (eqb-true to (next_conn es) same) in
          let bad : Some (place lab side) ≡ None = sym placed ∙ at ∙ none in
          cc
      by false same = refl

  pub sent-opened : (es : List Event) (side : Side) → AreOwned es
      → AllSent
      (λ to bytes. Arrives z bytes (Ok (greeted (is_ended es lab) (nat_eq to (next_conn es)))))
      (actions es (id_of line) now (opened es side))
  sent-opened es side owned =
      sent-greetings (next_conn es) (is_ended es lab) (holder side (room_told es lab))
      (holder (other side) (room_told es lab))
      (λ to is. old-apart es (other side) to owned is)

  -- ---- a loss and an end

  pub sent-gone : (es : List Event) (conn : ℕ)
      → AllSent (λ to bytes. Arrives z bytes (Ok Incoming.Pause))
      (actions es (id_of line) now (Event.Gone conn))
  sent-gone es conn =
      sent-at (λ to bytes. Arrives z bytes (Ok Incoming.Pause)) (peer_of es conn) _
      (λ to is. (Arrives-pause z line now small, tt))

  pub sent-ended : (es : List Event)
      → AllSent (λ to bytes. Arrives z bytes (Ok (Incoming.Closing [])))
      (actions es (id_of line) now (Event.EndSession lab))
  sent-ended es =
      let Q : ℕ → List ℕ → Type 0 = λ to bytes. Arrives z bytes (Ok (Incoming.Closing [])) in
      let room = room_told es lab in
      sent-append Q (at room.plugin (dismissal lab (id_of line) now))
      (at room.agent (dismissal lab (id_of line) now))
      (sent-at Q room.plugin (dismissal lab (id_of line) now)
      (λ to is. (Arrives-closing z line now small, tt)))
      (sent-at Q room.agent (dismissal lab (id_of line) now)
      (λ to is. (Arrives-closing z line now small, tt)))

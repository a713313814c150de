-- The inboxes have what the relay sent to the connections of their ends.
use Rattle.std.proofs.Common.{◌≡◌, ℕ, Bool, true, false, cond, Option, Some, None, List, [], ◌∷◌, ◌++◌, map, refl, sym, ap, subst, ◌∙◌}
use Rattle.std.specs.List.{cons_option, filter_map}
use Rattle.std.proofs.lemmas.List.{map-append}
use Rattle.std.proofs.lemmas.List.Elements.{filter_map-append}
use Rattle.chan_values.specs.declared.side.Side.{Side}
use Rattle.chan_values.specs.declared.side.Side.TheVariants.{Plugin, Agent}
use Rattle.chan_values.specs.Sides.{other}
use Rattle.channel_core.specs.declared.message.Incoming.{Incoming}
use Rattle.relay_core.specs.declared.action.Action.{Action}
use Rattle.relay_core.specs.declared.event.Event.{Event}
use Rattle.relay_core.specs.declared.place.Place.{Place}
use Rattle.relay_core.specs.Forwarding.{actions, is_ended, peer_of, place_of, room_told}
use Rattle.relay_core.specs.Messages.{pause}
use Rattle.relay_core.specs.Rooms.{at, dismissal, greeting, holder}
use Rattle.relay_core.proofs.EventLemmas.{holder-told, place_of-stays}
use Rattle.lab_run.specs.Steps.{id_of}
use Rattle.lab_relay.specs.Held.{AreOwned}
use Rattle.lab_relay.specs.Inboxes.{done, message_to, messages_to}
use Rattle.lab_relay.specs.Scene.{Letter, Scene, after_event, came, is_of, lab, last_conn, letter_to, next_conn, start}
use Rattle.lab_relay.proofs.ArrivedLemmas.{came-push, done-push}
use Rattle.lab_relay.proofs.LetterLemmas.{AllSent, sent-append, sent-at, sent-forwarded, sent-weaker}
use Rattle.lab_relay.proofs.OwnedLemmas.{current-place, opened, peer-place, place_of-opened}

-- ---- the connections that the relay sends to

-- a connection that was let in
abbrev pub IsPlaced : List Event → ℕ → Type 0
IsPlaced es conn = (p : Place) × (place_of es conn ≡ Some p)

abbrev pub ArePlaced : List Event → List Action → Type 0
ArePlaced es told = AllSent (λ conn bytes. IsPlaced es conn) told

placed-longer : (es : List Event) (e : Event) (told : List Action)
    → ArePlaced es told → ArePlaced (es ++ e ∷ []) told
placed-longer es e told placed =
    sent-weaker (λ conn bytes. IsPlaced es conn) (λ conn bytes. IsPlaced (es ++ e ∷ []) conn)
    (λ conn bytes is. (is.0, place_of-stays es e conn is.0 is.1)) told placed

module _ (es : List Event) (owned : AreOwned es) where
  placed-holder : (e : Event) (role : Side) (to : ℕ) → holder role (room_told es lab) ≡ Some to
      → IsPlaced (es ++ e ∷ []) to
  placed-holder e role to is =
      let at = current-place es role to owned (sym (holder-told es lab role) ∙ is) in
      (_, place_of-stays es e to _ at)

  placed-peer : (e : Event) (side : Side) (conn to : ℕ) → last_conn es side ≡ Some conn
      → peer_of es conn ≡ Some to → IsPlaced (es ++ e ∷ []) to
  placed-peer e side conn to last is =
      (_, place_of-stays es e to _ (peer-place es side conn to owned last is))

  -- at an opening
  module _ (side : Side) where
    abbrev Placed : ℕ → List ℕ → Type 0
    Placed conn bytes = IsPlaced (es ++ opened es side ∷ []) conn

    new-placed : IsPlaced (es ++ opened es side ∷ []) (next_conn es)
    new-placed = (_, place_of-opened es side owned)

    greeting-placed : (peer : Option ℕ) (id : List ℕ) (now : ℕ)
        → ((to : ℕ) → peer ≡ Some to → IsPlaced (es ++ opened es side ∷ []) to)
        → AllSent Placed (greeting (next_conn es) peer id now)
    greeting-placed None id now there = (new-placed, tt)
    greeting-placed (Some to) id now there = (there to refl, tt)

    greetings-placed : (ended : Bool) (former peer : Option ℕ) (id : List ℕ) (now : ℕ)
        → ((to : ℕ) → peer ≡ Some to → IsPlaced (es ++ opened es side ∷ []) to)
        → AllSent Placed
        (cond ended (dismissal lab id now (next_conn es))
        (at former (λ c. Action.Drop c ∷ []) ++ greeting (next_conn es) peer id now))
    greetings-placed true former peer id now there = (new-placed, tt)
    greetings-placed false former peer id now there =
        sent-append Placed (at former (λ c. Action.Drop c ∷ []))
        (greeting (next_conn es) peer id now)
        (sent-at Placed former (λ c. Action.Drop c ∷ []) (λ c is. tt))
        (greeting-placed peer id now there)

    pub placed-opened : (id : List ℕ) (now : ℕ)
        → ArePlaced (es ++ opened es side ∷ []) (actions es id now (opened es side))
    placed-opened id now =
        greetings-placed (is_ended es lab) (holder side (room_told es lab))
        (holder (other side) (room_told es lab)) id now
        (λ to is. placed-holder (opened es side) (other side) to is)

  pub placed-gone : (side : Side) (conn : ℕ) (id : List ℕ) (now : ℕ)
      → last_conn es side ≡ Some conn
      → ArePlaced (es ++ Event.Gone conn ∷ []) (actions es id now (Event.Gone conn))
  placed-gone side conn id now last =
      sent-at (λ to bytes. IsPlaced (es ++ Event.Gone conn ∷ []) to) (peer_of es conn)
      (λ to. Action.Send to (pause id now) ∷ [])
      (λ to is. (placed-peer (Event.Gone conn) side conn to last is, tt))

  pub placed-posted : (side : Side) (conn : ℕ) (bytes id : List ℕ) (now : ℕ)
      → last_conn es side ≡ Some conn
      → ArePlaced (es ++ Event.Binary conn bytes ∷ []) (actions es id now (Event.Binary conn bytes))
  placed-posted side conn bytes id now last =
      sent-forwarded (λ to sent. IsPlaced (es ++ Event.Binary conn bytes ∷ []) to) es id now conn
      bytes (λ to is. placed-peer (Event.Binary conn bytes) side conn to last is)

  pub placed-ended : (id : List ℕ) (now : ℕ)
      → ArePlaced (es ++ Event.EndSession lab ∷ []) (actions es id now (Event.EndSession lab))
  placed-ended id now =
      let Q : ℕ → List ℕ → Type 0 = λ to bytes. IsPlaced (es ++ Event.EndSession lab ∷ []) to in
      let room = room_told es lab in
      sent-append Q (at room.plugin (dismissal lab id now)) (at room.agent (dismissal lab id now))
      (sent-at Q room.plugin (dismissal lab id now)
      (λ to is. (placed-holder (Event.EndSession lab) Plugin to is, tt)))
      (sent-at Q room.agent (dismissal lab id now)
      (λ to is. (placed-holder (Event.EndSession lab) Agent to is, tt)))

-- ---- the bytes of letters

bytes-letters : (es : List Event) (says : ℕ → Incoming) (side : Side) (told : List Action)
    → map (λ (l : Letter). l.bytes) (filter_map (letter_to es says side) told)
    ≡ messages_to es side told
bytes-letters es says side [] = refl
bytes-letters es says side (Action.Send conn bytes ∷ told) =
    by (is_of side (place_of es conn)) (bytes-letters es says side told)
  where
    by : (b : Bool)
        → map (λ (l : Letter). l.bytes) (filter_map (letter_to es says side) told)
        ≡ messages_to es side told
        → map (λ (l : Letter). l.bytes)
        (cons_option (cond b (Some (record { bytes = bytes; says = says conn })) None)
        (filter_map (letter_to es says side) told))
        ≡ cons_option (cond b (Some bytes) None) (messages_to es side told)
    by true rest = ap (λ (xs : List (List ℕ)). bytes ∷ xs) rest
    by false rest = rest
bytes-letters es says side (Action.Text conn text ∷ told) = bytes-letters es says side told
bytes-letters es says side (Action.Drop conn ∷ told) = bytes-letters es says side told

-- an event more changes nothing of what was sent to connections that were let in
messages_to-longer : (es : List Event) (e : Event) (side : Side) (told : List Action)
    → ArePlaced es told → messages_to (es ++ e ∷ []) side told ≡ messages_to es side told
messages_to-longer es e side [] placed = refl
messages_to-longer es e side (Action.Send conn bytes ∷ told) placed =
    let here = placed.0 in
    let same : place_of (es ++ e ∷ []) conn ≡ place_of es conn =
    place_of-stays es e conn here.0 here.1 ∙ sym here.1 in
    ap
    (λ (p : Option Place). cons_option (cond (is_of side p) (Some bytes) None)
    (messages_to (es ++ e ∷ []) side told))
    same
    ∙ ap
    (λ (rest : List (List ℕ)). cons_option
    (cond (is_of side (place_of es conn)) (Some bytes) None) rest)
    (messages_to-longer es e side told placed.1)
messages_to-longer es e side (Action.Text conn text ∷ told) placed =
    messages_to-longer es e side told placed
messages_to-longer es e side (Action.Drop conn ∷ told) placed =
    messages_to-longer es e side told placed

-- ---- the inboxes

-- the inboxes have what was sent, to connections that were let in
pub record AreSent (s : Scene) : Type 0 where
  pub placed : ArePlaced (came s) (done s)
  pub sent : (side : Side)
      → map (λ l. l.bytes) (s.inbox side) ≡ messages_to (came s) side (done s)

pub AreSent-start : AreSent start
AreSent-start = record { placed = tt; sent = λ side. refl }

-- so after an event more
pub AreSent-event : (s : Scene) (now line : ℕ) (event : Event) (says : ℕ → Incoming)
    → AreSent s
    → ArePlaced (came s ++ event ∷ []) (actions (came s) (id_of line) now event)
    → AreSent (after_event s now line event says)
AreSent-event s now line event says before new =
    let es = came s ++ event ∷ [] in
    let told = actions (came s) (id_of line) now event in
    let all : done (after_event s now line event says) ≡ done s ++ told =
    done-push s now line event says in
    let events = came-push s now line event says in
    let longer = placed-longer (came s) event (done s) before.placed in
    let bytes : Letter → List ℕ = λ l. l.bytes in
    record {
      placed =
          subst (λ xs. ArePlaced xs (done (after_event s now line event says))) (sym events)
          (subst (ArePlaced es) (sym all)
          (sent-append (λ conn b. IsPlaced es conn) (done s) told longer new));
      sent = λ side.
          let letters = filter_map (letter_to es says side) told in
          map-append bytes (s.inbox side) letters
          ∙ ap (λ (xs : List (List ℕ)). xs ++ map bytes letters) (before.sent side)
          ∙ ap (λ (xs : List (List ℕ)). messages_to (came s) side (done s) ++ xs)
          (bytes-letters es says side told)
          ∙ ap (λ (xs : List (List ℕ)). xs ++ messages_to es side told)
          (sym (messages_to-longer (came s) event side (done s) before.placed))
          ∙ sym (filter_map-append (message_to es side) (done s) told)
          ∙ ap (messages_to es side) (sym all)
          ∙ ap (λ xs. messages_to xs side (done (after_event s now line event says)))
          (sym events);
    }

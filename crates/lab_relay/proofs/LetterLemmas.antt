-- What the ends hear of the messages that the relay sends at one event.
use Rattle.std.proofs.Common.{◌≡◌, ℕ, Bool, true, false, cond, nat_le, Option, Some, None, List, [], ◌∷◌, ◌++◌, length, map, refl, sym, ap, ◌∙◌}
use Rattle.std.specs.List.{All, cons_option, filter_map}
use Rattle.std.specs.Option.{option_map}
use Rattle.std.proofs.lemmas.List.{map-append}
use Rattle.std.proofs.lemmas.List.Elements.{All-cons, All-nil, filter_map-append}
use Rattle.chan_values.specs.declared.side.Side.{Side}
use Rattle.chan_values.specs.declared.side.Side.TheVariants.{Plugin, Agent}
use Rattle.channel_core.specs.declared.message.Incoming.{Incoming}
use Rattle.session_register.specs.Chains.{same_side}
use Rattle.relay_core.specs.declared.action.Action.{Action}
use Rattle.relay_core.specs.declared.event.Event.{Event as RelayEvent}
use Rattle.relay_core.specs.declared.event.Event.TheVariants as events
use Rattle.relay_core.specs.declared.place.Place.{Place}
use Rattle.relay_core.specs.Forwarding.{actions, peer_of, place, place_of}
use Rattle.relay_core.specs.Rooms.{at}
use Rattle.lab_relay.specs.Scene.{Letter, is_of, lab, letter_to}

-- ---- each message that is sent

-- this holds of each message that these actions send, with the connection that it is sent to
abbrev pub AllSent : (ℕ → List ℕ → Type 0) → List Action → Type 0
AllSent Q [] = Unit {0}
AllSent Q (Action.Send conn bytes ∷ told) = Q conn bytes × AllSent Q told
AllSent Q (Action.Text conn text ∷ told) = AllSent Q told
AllSent Q (Action.Drop conn ∷ told) = AllSent Q told

pub sent-any : (Q : ℕ → List ℕ → Type 0) → ((conn : ℕ) (bytes : List ℕ) → Q conn bytes)
    → (told : List Action) → AllSent Q told
sent-any Q all [] = tt
sent-any Q all (Action.Send conn bytes ∷ told) = (all conn bytes, sent-any Q all told)
sent-any Q all (Action.Text conn text ∷ told) = sent-any Q all told
sent-any Q all (Action.Drop conn ∷ told) = sent-any Q all told

pub sent-weaker : (Q R : ℕ → List ℕ → Type 0)
    → ((conn : ℕ) (bytes : List ℕ) → Q conn bytes → R conn bytes)
    → (told : List Action) → AllSent Q told → AllSent R told
sent-weaker Q R weaker [] all = tt
sent-weaker Q R weaker (Action.Send conn bytes ∷ told) all =
    (weaker conn bytes all.0, sent-weaker Q R weaker told all.1)
sent-weaker Q R weaker (Action.Text conn text ∷ told) all = sent-weaker Q R weaker told all
sent-weaker Q R weaker (Action.Drop conn ∷ told) all = sent-weaker Q R weaker told all

pub sent-append : (Q : ℕ → List ℕ → Type 0) (a b : List Action)
    → AllSent Q a → AllSent Q b → AllSent Q (a ++ b)
sent-append Q [] b first second = second
sent-append Q (Action.Send conn bytes ∷ a) b first second =
    (first.0, sent-append Q a b first.1 second)
sent-append Q (Action.Text conn text ∷ a) b first second = sent-append Q a b first second
sent-append Q (Action.Drop conn ∷ a) b first second = sent-append Q a b first second

pub sent-at : (Q : ℕ → List ℕ → Type 0) (o : Option ℕ) (act : ℕ → List Action)
    → ((conn : ℕ) → o ≡ Some conn → AllSent Q (act conn)) → AllSent Q (at o act)
sent-at Q None act each = tt
sent-at Q (Some conn) act each = each conn refl

module _ (es : List RelayEvent) (says : ℕ → Incoming) (side : Side) (P : Letter → Type 0) where
  letter-if : (b : Bool) (letter : Letter) (rest : List Letter)
      → (b ≡ true → P letter) → All P rest
      → All P (cons_option (cond b (Some letter) None) rest)
  letter-if true letter rest here all = All-cons P letter rest (here refl) all
  letter-if false letter rest here all = all

  -- what holds of each message that is sent to a connection of this end holds of each letter
  pub letters-all : (told : List Action)
      → AllSent
      (λ conn bytes. is_of side (place_of es conn) ≡ true
      → P (record { bytes = bytes; says = says conn }))
      told
      → All P (filter_map (letter_to es says side) told)
  letters-all [] sent = All-nil P
  letters-all (Action.Send conn bytes ∷ told) sent =
      letter-if (is_of side (place_of es conn)) (record { bytes = bytes; says = says conn })
      (filter_map (letter_to es says side) told) sent.0 (letters-all told sent.1)
  letters-all (Action.Text conn text ∷ told) sent = letters-all told sent
  letters-all (Action.Drop conn ∷ told) sent = letters-all told sent

-- the bytes of the letter that a message is to an end, where this is the end of its connection
pub bytes-letter_to : (es : List RelayEvent) (says : ℕ → Incoming) (side z : Side) (conn : ℕ)
    (bytes : List ℕ)
    → Some z ≡ option_map (λ p. p.role) (place_of es conn)
    → map (λ (l : Letter). l.bytes)
    (cons_option (letter_to es says side (Action.Send conn bytes)) [])
    ≡ cond (same_side z side) (bytes ∷ []) []
bytes-letter_to es says side z conn bytes is = by (place_of es conn) is
  where
    kept : (b : Bool)
        → map (λ (l : Letter). l.bytes)
        (cons_option (cond b (Some (record { bytes = bytes; says = says conn })) None) [])
        ≡ cond b (bytes ∷ []) []
    kept true = refl
    kept false = refl

    by : (o : Option Place) → Some z ≡ option_map (λ p. p.role) o
        → map (λ (l : Letter). l.bytes)
        (cons_option
        (cond (is_of side o) (Some (record { bytes = bytes; says = says conn })) None) [])
        ≡ cond (same_side z side) (bytes ∷ []) []
    by None found = absurd (cc)
    by (Some p) found =
        let same : z ≡ p.role = cc in
        kept (same_side p.role side)
        ∙ ap (λ x. cond (same_side x side) (bytes ∷ []) []) (sym same)

-- one action more
pub bytes-push : (es : List RelayEvent) (says : ℕ → Incoming) (side : Side)
    (told : List Action) (action : Action)
    → map (λ (l : Letter). l.bytes) (filter_map (letter_to es says side) (told ++ action ∷ []))
    ≡ map (λ (l : Letter). l.bytes) (filter_map (letter_to es says side) told)
    ++ map (λ (l : Letter). l.bytes) (cons_option (letter_to es says side action) [])
bytes-push es says side told action =
    ap (map (λ (l : Letter). l.bytes)) (filter_map-append (letter_to es says side) told (action ∷ []))
    ∙ map-append (λ (l : Letter). l.bytes) (filter_map (letter_to es says side) told)
    (cons_option (letter_to es says side action) [])

-- the end of a place
pub is_of-place : (z side : Side) → is_of z (Some (place lab side)) ≡ true → z ≡ side
is_of-place Plugin Plugin is = refl
is_of-place Agent Agent is = refl
is_of-place Plugin Agent is = absurd (cc)
is_of-place Agent Plugin is = absurd (cc)

-- ---- a message that is forwarded

module _ (Q : ℕ → List ℕ → Type 0) where
  sent-if : (b : Bool) (told : List Action) → AllSent Q told → AllSent Q (cond b told [])
  sent-if true told all = all
  sent-if false told all = tt

  -- it goes to the peer of its connection alone
  pub sent-forwarded : (es : List RelayEvent) (id : List ℕ) (now conn : ℕ) (bytes : List ℕ)
      → ((peer : ℕ) → peer_of es conn ≡ Some peer → Q peer bytes)
      → AllSent Q (actions es id now (events.Binary conn bytes))
  sent-forwarded es id now conn bytes each =
      sent-if (nat_le (length bytes) 65656) (at (peer_of es conn) _)
      (sent-at Q (peer_of es conn) (λ peer. Action.Send peer bytes ∷ [])
      (λ peer is. (each peer is, tt)))

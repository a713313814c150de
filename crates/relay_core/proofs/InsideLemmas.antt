-- What is done at an event of a session is done at connections that were let in to it.
use Rattle.std.proofs.Common.{◌≡◌, ℕ, Bool, true, false, cond, nat_le, Option, Some, None, List, [], ◌∷◌, ◌++◌, length, sym, ap, ◌∙◌, refl}
use Rattle.std.specs.List.{AllByRecursion}
use Rattle.chan_values.specs.declared.side.Side.{Side}
use Rattle.chan_values.specs.declared.side.Side.TheVariants.{Plugin, Agent}
use Rattle.chan_values.specs.Sides.{other}
use Rattle.session_register.proofs.NameLemmas.{same_name-true}
use Rattle.relay_core.specs.declared.action.Action.{Action}
use Rattle.relay_core.specs.declared.event.Event.{Event}
use Rattle.relay_core.specs.declared.place.Place.{Place}
use Rattle.relay_core.specs.Messages.{pause}
use Rattle.relay_core.specs.Rooms.{at, dismissal, greeting, holder, is_conn}
use Rattle.relay_core.specs.Forwarding.{actions, current, is_ended, peer_at, peer_of, place_of, room_told}
use Rattle.relay_core.specs.Isolation.{belongs, is_in, target}
use Rattle.relay_core.proofs.EventLemmas.{holder-told}
use Rattle.relay_core.proofs.KnownLemmas.{IsKnown, place_of-on}
use Rattle.relay_core.proofs.OwnLemmas.{IsHeld, current-inside, in-name}

module _ (all : List Event) (session : List ℕ) where
  -- a connection that was let in to the session
  abbrev IsInside : ℕ → Type 0
  IsInside conn = is_in session (place_of all conn) ≡ true

  abbrev AreInside : List Action → Type 0
  AreInside told = AllByRecursion (λ action. IsInside (target action)) told

  inside-append : (xs ys : List Action) → AreInside xs → AreInside ys → AreInside (xs ++ ys)
  inside-append [] ys first later = later
  inside-append (x ∷ xs) ys first later = (first.0, inside-append xs ys first.1 later)

  inside-at : (held : Option ℕ) (act : ℕ → List Action) → IsHeld all session held
      → ((conn : ℕ) → IsInside conn → AreInside (act conn)) → AreInside (at held act)
  inside-at None act inside each = tt
  inside-at (Some conn) act inside each = each conn (inside conn refl)

  inside-dismissal : (name id : List ℕ) (now conn : ℕ) → IsInside conn
      → AreInside (dismissal name id now conn)
  inside-dismissal name id now conn is = (is, (is, tt))

  inside-greeting : (conn : ℕ) (peer : Option ℕ) (id : List ℕ) (now : ℕ) → IsInside conn
      → IsHeld all session peer → AreInside (greeting conn peer id now)
  inside-greeting conn (Some peer) id now is inside = (inside peer refl, tt)
  inside-greeting conn None id now is inside = (is, tt)

  inside-if : (b : Bool) (xs ys : List Action) → AreInside xs → AreInside ys
      → AreInside (cond b xs ys)
  inside-if true xs ys first later = first
  inside-if false xs ys first later = later

  held-if : (b : Bool) (held : Option ℕ) → IsHeld all session held
      → IsHeld all session (cond b held None)
  held-if true held inside conn is = inside conn is
  held-if false held inside conn is = cc

  module _ (es rest : List Event) (parts : es ++ rest ≡ all)
      (known : AllByRecursion (IsKnown all) es) where
    inside-holder : (name : List ℕ) (role : Side) → name ≡ session
        → IsHeld all session (holder role (room_told es name))
    inside-holder name role same conn is =
        current-inside all session role es known conn
        (ap (λ n. current es n role) (sym same) ∙ sym (holder-told es name role) ∙ is)

    inside-peer_at : (conn : ℕ) (p : Option Place)
        → ((q : Place) → p ≡ Some q → q.session ≡ session)
        → IsHeld all session (peer_at es conn p)
    inside-peer_at conn None named = λ c is. cc
    inside-peer_at conn (Some q) named =
        held-if (is_conn conn (holder q.role (room_told es q.session)))
        (holder (other q.role) (room_told es q.session))
        (inside-holder q.session (other q.role) (named q refl))

    inside-peer : (conn : ℕ) → IsInside conn → IsHeld all session (peer_of es conn)
    inside-peer conn is =
        inside-peer_at conn (place_of es conn) (λ q at_q.
        in-name all session (place_of all conn) q is
        (ap (λ xs. place_of xs conn) (sym parts) ∙ place_of-on es rest conn q at_q))

    pub actions-inside : (id : List ℕ) (now : ℕ) (e : Event) → IsKnown all e
        → belongs all session e ≡ true → AreInside (actions es id now e)
    actions-inside id now (Event.Opened conn name role reply) here own =
        let same = same_name-true name session own in
        let let_in : IsInside conn = ap (is_in session) here ∙ own in (
          let_in,
          inside-if (is_ended es name) (dismissal name id now conn)
              (at (holder role (room_told es name)) (λ former. Action.Drop former ∷ [])
              ++ greeting conn (holder (other role) (room_told es name)) id now)
              (inside-dismissal name id now conn let_in)
              (inside-append
              (at (holder role (room_told es name)) (λ former. Action.Drop former ∷ []))
              (greeting conn (holder (other role) (room_told es name)) id now)
              (inside-at (holder role (room_told es name)) (λ former. Action.Drop former ∷ [])
              (inside-holder name role same) (λ former is. (is, tt)))
              (inside-greeting conn (holder (other role) (room_told es name)) id now let_in
              (inside-holder name (other role) same))),
        )
    actions-inside id now (Event.Binary conn bytes) here own =
        inside-if (nat_le (length bytes) 65656)
        (at (peer_of es conn) (λ peer. Action.Send peer bytes ∷ [])) []
        (inside-at (peer_of es conn) (λ peer. Action.Send peer bytes ∷ []) (inside-peer conn own)
        (λ peer is. (is, tt))) tt
    actions-inside id now (Event.Gone conn) here own =
        inside-at (peer_of es conn) (λ peer. Action.Send peer (pause id now) ∷ [])
        (inside-peer conn own) (λ peer is. (is, tt))
    actions-inside id now (Event.EndSession name) here own =
        let same = same_name-true name session own in
        inside-append (at (holder Plugin (room_told es name)) (dismissal name id now))
        (at (holder Agent (room_told es name)) (dismissal name id now))
        (inside-at (holder Plugin (room_told es name)) (dismissal name id now)
        (inside-holder name Plugin same) (inside-dismissal name id now))
        (inside-at (holder Agent (room_told es name)) (dismissal name id now)
        (inside-holder name Agent same) (inside-dismissal name id now))

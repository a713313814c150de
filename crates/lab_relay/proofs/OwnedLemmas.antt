-- The connections of the relay, as its events tell them, after one event more.
use Rattle.std.proofs.Common.{◌≡◌, ℕ, ◌+◌, ◌<◌, ◌≤◌, Bool, true, false, cond, ◌||◌, nat_eq, Option, Some, None, List, [], ◌∷◌, ◌++◌, length, reverse, refl, sym, ap, subst, ◌∙◌, append-nil, arith}
use Rattle.std.specs.List.{cons_option, filter_map, list_any, slice_get}
use Rattle.std.proofs.lemmas.Bool.{eq-eqb, eqb-true}
use Rattle.std.proofs.lemmas.List.{length-append, reverse-append}
use Rattle.std.proofs.lemmas.List.Elements.{filter_map-append}
use Rattle.std.proofs.lemmas.List.Folds.{list_any-append}
use Rattle.chan_values.specs.declared.side.Side.{Side}
use Rattle.chan_values.specs.declared.side.Side.TheVariants.{Plugin, Agent}
use Rattle.chan_values.specs.Sides.{other}
use Rattle.session_register.specs.Chains.{same_side}
use Rattle.relay_core.specs.declared.event.Event.{Event}
use Rattle.relay_core.specs.declared.place.Place.{Place}
use Rattle.relay_core.specs.Forwarding.{IsNew, conn_opened, current, is_ended, last_held, last_opened, opening, openings, peer_at, peer_of, place, place_of, place_opened, room_told, since_opened, unless_lost}
use Rattle.relay_core.specs.Rooms.{holder, is_conn}
use Rattle.relay_core.proofs.EventLemmas.{holder-told, or_else, place_of-new, place_of-push, place_of-stays}
use Rattle.relay_core.proofs.StandsLemmas.{none-opened}
use Rattle.lab_relay.specs.Held.{AreOwned}
use Rattle.lab_relay.specs.Scene.{lab, last_conn, next_conn}

-- ---- an event more

-- the first of these
abbrev pub first_of : Option ℕ → Option ℕ → Option ℕ
first_of None q = q
first_of (Some c) q = Some c

first-cons : (o : Option ℕ) (xs : List ℕ)
    → slice_get (cons_option o xs) 0 ≡ first_of o (slice_get xs 0)
first-cons None xs = refl
first-cons (Some c) xs = refl

pub last_conn-push : (es : List Event) (e : Event) (side : Side)
    → last_conn (es ++ e ∷ []) side ≡ first_of (conn_opened lab side e) (last_conn es side)
unfolding last_opened
last_conn-push es e side =
    ap (λ xs. slice_get (filter_map (conn_opened lab side) xs) 0) (reverse-append es (e ∷ []))
    ∙ first-cons (conn_opened lab side e) (filter_map (conn_opened lab side) (reverse es))

pub openings-push : (es : List Event) (e : Event)
    → openings (es ++ e ∷ []) ≡ openings es ++ cons_option (opening e) []
unfolding openings
openings-push es e = filter_map-append opening es (e ∷ [])

-- an event that lets no connection in
pub record IsQuiet (e : Event) : Type 0 where
  pub conn : (side : Side) → conn_opened lab side e ≡ None
  pub place : (conn : ℕ) → place_opened conn e ≡ None
  pub opens : opening e ≡ None

pub IsQuiet-binary : (conn : ℕ) (bytes : List ℕ) → IsQuiet (Event.Binary conn bytes)
IsQuiet-binary conn bytes =
    record { conn = λ side. refl; place = λ c. refl; opens = refl }

pub IsQuiet-gone : (conn : ℕ) → IsQuiet (Event.Gone conn)
IsQuiet-gone conn = record { conn = λ side. refl; place = λ c. refl; opens = refl }

pub IsQuiet-end : (session : List ℕ) → IsQuiet (Event.EndSession session)
IsQuiet-end session = record { conn = λ side. refl; place = λ c. refl; opens = refl }

or_else-none : (o : Option Place) → or_else o None ≡ o
unfolding or_else
or_else-none None = refl
or_else-none (Some p) = refl

module _ (es : List Event) (e : Event) (quiet : IsQuiet e) where
  pub last_conn-quiet : (side : Side) → last_conn (es ++ e ∷ []) side ≡ last_conn es side
  last_conn-quiet side =
      last_conn-push es e side ∙ ap (λ o. first_of o (last_conn es side)) (quiet.conn side)

  pub place_of-quiet : (conn : ℕ) → place_of (es ++ e ∷ []) conn ≡ place_of es conn
  place_of-quiet conn =
      place_of-push es e conn ∙ ap (or_else (place_of es conn)) (quiet.place conn)
      ∙ or_else-none (place_of es conn)

  pub openings-quiet : openings (es ++ e ∷ []) ≡ openings es
  openings-quiet =
      openings-push es e ∙ ap (λ o. openings es ++ cons_option o []) quiet.opens
      ∙ append-nil (openings es)

  pub AreOwned-quiet : AreOwned es → AreOwned (es ++ e ∷ [])
  AreOwned-quiet owned =
      record {
        last = λ side conn is.
            place_of-quiet conn ∙ owned.last side conn (sym (last_conn-quiet side) ∙ is);
        fresh = λ conn within.
            ap (list_any (λ c. nat_eq c conn)) openings-quiet
            ∙ owned.fresh conn
            (subst (λ (xs : List ℕ). length xs ≤ conn) openings-quiet within);
      }

-- ---- a connection more

-- the next connection is let in as this end's
abbrev pub opened : List Event → Side → Event
opened es side = Event.Opened (next_conn es) lab side []

eqb-apart : (n conn : ℕ) → n < conn → nat_eq n conn ≡ false
eqb-apart n conn less = by (nat_eq n conn) (λ is. eqb-true n conn is)
  where
    by : (b : Bool) → (b ≡ true → n ≡ conn) → b ≡ false
    by true same = absurd (omega (arith, same refl, less))
    by false same = refl

or-both : (a b : Bool) → a ≡ false → b ≡ false → (a || b) ≡ false
or-both a b first second = ap (λ x. x || b) first ∙ second

module _ (es : List Event) (side : Side) (owned : AreOwned es) where
  -- it was not let in before
  pub IsNew-opened : IsNew es (opened es side)
  IsNew-opened = owned.fresh (next_conn es) (omega arith)

  pub place_of-opened : place_of (es ++ opened es side ∷ []) (next_conn es)
      ≡ Some (place lab side)
  place_of-opened =
      place_of-new es (opened es side) (next_conn es) (none-opened es (next_conn es) IsNew-opened)
      ∙ ap (λ b. cond b (Some (place lab side)) None) (eq-eqb (next_conn es) (next_conn es) refl)

  last-cases : (z : Side) (b : Bool) → same_side side z ≡ b → (b ≡ true → side ≡ z) → (conn : ℕ)
      → first_of (cond b (Some (next_conn es)) None) (last_conn es z) ≡ Some conn
      → place_of (es ++ opened es side ∷ []) conn ≡ Some (place lab z)
  last-cases z true is same conn found =
      let at : next_conn es ≡ conn = cc in
      ap (place_of (es ++ opened es side ∷ [])) (sym at) ∙ place_of-opened
      ∙ ap (λ x. Some (place lab x)) (same refl)
  last-cases z false is same conn found =
      place_of-stays es (opened es side) conn (place lab z) (owned.last z conn found)

  same-true : (a z : Side) → same_side a z ≡ true → a ≡ z
  same-true Plugin Plugin is = refl
  same-true Agent Agent is = refl
  same-true Plugin Agent is = cc
  same-true Agent Plugin is = cc

  length-opened : length (openings (es ++ opened es side ∷ [])) ≡ next_conn es + 1
  length-opened =
      ap length (openings-push es (opened es side))
      ∙ length-append (openings es) (next_conn es ∷ [])

  pub AreOwned-opened : AreOwned (es ++ opened es side ∷ [])
  AreOwned-opened =
      record {
        last = λ z conn found.
            last-cases z (same_side side z) refl (same-true side z) conn
            (sym (last_conn-push es (opened es side) z) ∙ found);
        fresh = λ conn within.
            let less : next_conn es + 1 ≤ conn = subst (λ n. n ≤ conn) length-opened within in
            ap (list_any (λ c. nat_eq c conn)) (openings-push es (opened es side))
            ∙ list_any-append (λ c. nat_eq c conn) (openings es) (next_conn es ∷ [])
            ∙ or-both (list_any (λ c. nat_eq c conn) (openings es))
            (list_any (λ c. nat_eq c conn) (next_conn es ∷ []))
            (owned.fresh conn (omega (arith, less)))
            (or-both (nat_eq (next_conn es) conn) false
            (eqb-apart (next_conn es) conn (omega (arith, less))) refl);
      }

-- no event came
pub AreOwned-nil : AreOwned []
unfolding last_opened openings
AreOwned-nil = record { last = λ side conn is. absurd (cc); fresh = λ conn within. refl }

-- ---- the current connections

unless-found : (later : List Event) (o : Option ℕ) (conn : ℕ)
    → unless_lost later o ≡ Some conn → o ≡ Some conn
unless-found later None conn is = is
unless-found later (Some c) conn is = kept (list_any _ later) is
  where
    kept : (b : Bool) → cond b None (Some c) ≡ Some conn → Some c ≡ Some conn
    kept true found = absurd (cc)
    kept false found = found

-- a current connection is the last of its end
pub current-last : (es : List Event) (side : Side) (conn : ℕ)
    → current es lab side ≡ Some conn → last_conn es side ≡ Some conn
unfolding last_held
current-last es side conn is =
    unless-found (since_opened es lab side) (last_opened es lab side) conn
    (held (is_ended es lab) is)
  where
    held : (b : Bool) → cond b None (last_held es lab side) ≡ Some conn
        → last_held es lab side ≡ Some conn
    held true found = absurd (cc)
    held false found = found

pub current-place : (es : List Event) (side : Side) (conn : ℕ) → AreOwned es
    → current es lab side ≡ Some conn → place_of es conn ≡ Some (place lab side)
current-place es side conn owned is = owned.last side conn (current-last es side conn is)

across-found : (b : Bool) (o : Option ℕ) (peer : ℕ) → cond b o None ≡ Some peer → o ≡ Some peer
across-found true o peer is = is
across-found false o peer is = absurd (cc)

-- the peer of the last connection of an end is one of the other end
pub peer-place : (es : List Event) (side : Side) (conn peer : ℕ) → AreOwned es
    → last_conn es side ≡ Some conn
    → peer_of es conn ≡ Some peer
    → place_of es peer ≡ Some (place lab (other side))
peer-place es side conn peer owned last is =
    let here : place_of es conn ≡ Some (place lab side) = owned.last side conn last in
    let found = ap (peer_at es conn) (sym here) ∙ is in
    current-place es (other side) peer owned
    (sym (holder-told es lab (other side))
    ∙ across-found (is_conn conn (holder side (room_told es lab)))
    (holder (other side) (room_told es lab)) peer found)

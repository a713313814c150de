-- The events of one session alone tell of it what all events tell.
use Rattle.std.proofs.Common.{◌≡◌, ℕ, Bool, true, false, cond, nat_eq, ◌||◌, ◌&&◌, Option, Some, None, List, [], ◌∷◌, ◌++◌, sym, ap, ◌∙◌, refl}
use Rattle.std.specs.List.{AllByRecursion, cons_option, filter, filter_map, fold, list_any, slice_get}
use Rattle.std.proofs.lemmas.Bool.{and_parts, eqb-true}
use Rattle.chan_values.specs.declared.side.Side.{Side}
use Rattle.chan_values.specs.declared.side.Side.TheVariants.{Plugin, Agent}
use Rattle.session_register.specs.Chains.{same_side}
use Rattle.session_register.specs.Names.{same_name}
use Rattle.session_register.proofs.NameLemmas.{same_name-true}
use Rattle.relay_core.specs.declared.event.Event.{Event}
use Rattle.relay_core.specs.declared.place.Place.{Place}
use Rattle.relay_core.specs.Rooms.{across, is_conn}
use Rattle.relay_core.specs.Forwarding.{current, ends, is_ended, last_held, peer_at, peer_of, place, place_of, place_opened, room_told}
use Rattle.relay_core.specs.Isolation.{belongs, is_in}
use Rattle.relay_core.proofs.EventLemmas.{facts}
use Rattle.relay_core.proofs.HeldLemmas.{held_after, last_held-fold, last_held-nil}
use Rattle.relay_core.proofs.KnownLemmas.{IsKnown, place_of-on}

module _ (all : List Event) (session : List ℕ) where
  -- whether it is the session's
  abbrev pub mine : Event → Bool
  mine e = belongs all session e

  skip-bool : (b : Bool) (x y : Bool) → (b ≡ false → x ≡ false) → (cond b (x || y) y) ≡ (x || y)
  skip-bool true x y h = refl
  skip-bool false x y h = sym (ap (λ v. v || y) (h refl))

  any-if : (b : Bool) (e : Event) (kept : List Event)
      → list_any (ends session) (cond b (e ∷ kept) kept)
      ≡ cond b (ends session e || list_any (ends session) kept) (list_any (ends session) kept)
  any-if true e kept = refl
  any-if false e kept = refl

  no-end : (e : Event) → mine e ≡ false → ends session e ≡ false
  no-end (Event.Opened conn s role reply) not = refl
  no-end (Event.Binary conn bytes) not = refl
  no-end (Event.Gone conn) not = refl
  no-end (Event.EndSession s) not = not

  pub ended-own : (es : List Event) → is_ended (filter mine es) session ≡ is_ended es session
  unfolding is_ended
  ended-own [] = refl
  ended-own (e ∷ es) =
      any-if (mine e) e (filter mine es)
      ∙ ap (λ v. cond (mine e) (ends session e || v) v) (ended-own es)
      ∙ skip-bool (mine e) (ends session e) (list_any (ends session) es) (no-end e)

  -- a connection that is held was let in to the session
  abbrev pub IsHeld : Option ℕ → Type 0
  IsHeld held = (conn : ℕ) → held ≡ Some conn → is_in session (place_of all conn) ≡ true

  held-if : (b : Bool) (conn : ℕ) (held : Option ℕ)
      → (b ≡ true → is_in session (place_of all conn) ≡ true)
      → IsHeld held → IsHeld (cond b (Some conn) held)
  held-if true conn held here later c is =
      let same : conn ≡ c = cc in
      ap (λ x. is_in session (place_of all x)) (sym same) ∙ here refl
  held-if false conn held here later c is = later c is

  held-unless : (b : Bool) (held : Option ℕ) → IsHeld held → IsHeld (cond b None held)
  held-unless true held later c is = cc
  held-unless false held later c is = later c is

  held-after : (role : Side) (held : Option ℕ) (e : Event) → IsKnown all e → IsHeld held
      → IsHeld (held_after session role held e)
  held-after role held (Event.Opened conn s r reply) known is =
      held-if (same_name s session && same_side r role) conn held
      (λ both.
      ap (is_in session) known ∙ (and_parts (same_name s session) (same_side r role) both).0) is
  held-after role held (Event.Binary conn bytes) known is = is
  held-after role held (Event.Gone conn) known is = held-unless (is_conn conn held) held is
  held-after role held (Event.EndSession s) known is = is

  not-conn : (conn : ℕ) (held : Option ℕ) → is_in session (place_of all conn) ≡ false → IsHeld held
      → is_conn conn held ≡ false
  not-conn conn None not is = refl
  not-conn conn (Some c) not is = by (nat_eq c conn) (λ same. eqb-true c conn same)
    where
      by : (b : Bool) → (b ≡ true → c ≡ conn) → b ≡ false
      by true same =
          let e = ap (λ x. is_in session (place_of all x)) (same refl) in cc (e, not, is c refl)
      by false same = refl

  -- another session's event leaves what is held
  leaves : (role : Side) (held : Option ℕ) (e : Event) → IsHeld held → mine e ≡ false
      → held_after session role held e ≡ held
  leaves role held (Event.Opened conn s r reply) is not =
      ap (λ b. cond (b && same_side r role) (Some conn) held) not
  leaves role held (Event.Binary conn bytes) is not = refl
  leaves role held (Event.Gone conn) is not = ap (λ b. cond b None held) (not-conn conn held not is)
  leaves role held (Event.EndSession s) is not = refl

  fold-if : (role : Side) (b : Bool) (held : Option ℕ) (e : Event) (es kept : List Event)
      → (b ≡ false → held_after session role held e ≡ held)
      → fold (held_after session role) (held_after session role held e) kept
      ≡ fold (held_after session role) (held_after session role held e) es
      → fold (held_after session role) held (cond b (e ∷ kept) kept)
      ≡ fold (held_after session role) (held_after session role held e) es
  fold-if role true held e es kept stay later = later
  fold-if role false held e es kept stay later =
      ap (λ h. fold (held_after session role) h kept) (sym (stay refl)) ∙ later

  fold-inside : (role : Side) (held : Option ℕ) (es : List Event) → AllByRecursion (IsKnown all) es
      → IsHeld held → IsHeld (fold (held_after session role) held es)
  fold-inside role held [] known is = is
  fold-inside role held (e ∷ es) known is =
      fold-inside role (held_after session role held e) es known.1
      (held-after role held e known.0 is)

  fold-own : (role : Side) (held : Option ℕ) (es : List Event) → AllByRecursion (IsKnown all) es
      → IsHeld held
      → fold (held_after session role) held (filter mine es)
      ≡ fold (held_after session role) held es
  fold-own role held [] known is = refl
  fold-own role held (e ∷ es) known is =
      fold-if role (mine e) held e es (filter mine es) (leaves role held e is)
      (fold-own role (held_after session role held e) es known.1
      (held-after role held e known.0 is))

  pub held-own : (role : Side) (es : List Event) → AllByRecursion (IsKnown all) es
      → last_held (filter mine es) session role ≡ last_held es session role
  held-own role es known =
      last_held-fold session role [] (filter mine es)
      ∙ ap (λ held. fold (held_after session role) held (filter mine es))
      (last_held-nil session role)
      ∙ fold-own role None es known (λ conn is. cc)
      ∙ ap (λ held. fold (held_after session role) held es) (sym (last_held-nil session role))
      ∙ sym (last_held-fold session role [] es)

  -- who was let in last is known to be let in to the session
  pub held-inside : (role : Side) (es : List Event) → AllByRecursion (IsKnown all) es
      → IsHeld (last_held es session role)
  held-inside role es known conn is =
      fold-inside role None es known (λ c none. cc) conn
      (ap (λ held. fold (held_after session role) held es) (sym (last_held-nil session role))
      ∙ sym (last_held-fold session role [] es) ∙ is)

  -- the session's room is told by its own events
  pub room-own : (es : List Event) → AllByRecursion (IsKnown all) es
      → room_told es session ≡ room_told (filter mine es) session
  room-own es known =
      λ i. facts (sym (ended-own es) i) (sym (held-own Plugin es known) i)
      (sym (held-own Agent es known) i)

  current-by : (b : Bool) (held : Option ℕ) → IsHeld held → IsHeld (cond b None held)
  current-by true held inside conn is = cc
  current-by false held inside conn is = inside conn is

  -- a current connection is known to be let in to the session
  pub current-inside : (role : Side) (es : List Event) → AllByRecursion (IsKnown all) es
      → IsHeld (current es session role)
  current-inside role es known =
      current-by (is_ended es session) (last_held es session role) (held-inside role es known)

  no-place : (conn : ℕ) (e : Event) → is_in session (place_of all conn) ≡ true → IsKnown all e
      → mine e ≡ false
      → place_opened conn e ≡ None
  no-place conn (Event.Opened c s r reply) own known not =
      ap (λ b. cond b (Some (place s r)) None) (by (nat_eq c conn) (λ same. eqb-true c conn same))
    where
      by : (b : Bool) → (b ≡ true → c ≡ conn) → b ≡ false
      by true same =
          let e = ap (λ x. is_in session (place_of all x)) (same refl) in
          let f = ap (is_in session) known in
          cc (e, f, own, not)
      by false same = refl
  no-place conn (Event.Binary c bytes) own known not = refl
  no-place conn (Event.Gone c) own known not = refl
  no-place conn (Event.EndSession s) own known not = refl

  places-if : (conn : ℕ) (b : Bool) (e : Event) (kept : List Event) (found : List Place)
      → (b ≡ false → place_opened conn e ≡ None)
      → filter_map (place_opened conn) kept ≡ found
      → filter_map (place_opened conn) (cond b (e ∷ kept) kept)
      ≡ cons_option (place_opened conn e) found
  places-if conn true e kept found none is = ap (cons_option (place_opened conn e)) is
  places-if conn false e kept found none is = is ∙ ap (λ p. cons_option p found) (sym (none refl))

  places-own : (conn : ℕ) (es : List Event) → is_in session (place_of all conn) ≡ true
      → AllByRecursion (IsKnown all) es
      → filter_map (place_opened conn) (filter mine es) ≡ filter_map (place_opened conn) es
  places-own conn [] own known = refl
  places-own conn (e ∷ es) own known =
      places-if conn (mine e) e (filter mine es) (filter_map (place_opened conn) es)
      (no-place conn e own known.0) (places-own conn es own known.1)

  pub place-own : (conn : ℕ) (es : List Event) → is_in session (place_of all conn) ≡ true
      → AllByRecursion (IsKnown all) es → place_of es conn ≡ place_of (filter mine es) conn
  unfolding place_of
  place-own conn es own known = ap (λ ps. slice_get ps 0) (sym (places-own conn es own known))

  peer-by : (es : List Event) (conn : ℕ) (p : Option Place) → AllByRecursion (IsKnown all) es
      → ((q : Place) → p ≡ Some q → q.session ≡ session)
      → peer_at es conn p ≡ peer_at (filter mine es) conn p
  peer-by es conn None known named = refl
  peer-by es conn (Some q) known named =
      ap (λ name. across conn q.role (room_told es name)) (named q refl)
      ∙ ap (across conn q.role) (room-own es known)
      ∙ ap (λ name. across conn q.role (room_told (filter mine es) name)) (sym (named q refl))

  pub in-name : (p : Option Place) (q : Place) → is_in session p ≡ true → p ≡ Some q
      → q.session ≡ session
  in-name p q own is = same_name-true q.session session (ap (is_in session) (sym is) ∙ own)

  pub peer-own : (es rest : List Event) (conn : ℕ) → es ++ rest ≡ all
      → is_in session (place_of all conn) ≡ true → AllByRecursion (IsKnown all) es
      → peer_of es conn ≡ peer_of (filter mine es) conn
  peer-own es rest conn parts own known =
      peer-by es conn (place_of es conn) known
      (λ q is. in-name (place_of all conn) q own
      (ap (λ xs. place_of xs conn) (sym parts) ∙ place_of-on es rest conn q is))
      ∙ ap (peer_at (filter mine es) conn) (place-own conn es own known)

-- What is kept stands for one event more.
use Rattle.std.proofs.Common.{◌≡◌, ℕ, Bool, true, false, cond, nat_eq, ◌||◌, ◌&&◌, Option, Some, None, List, [], ◌∷◌, ◌++◌, sym, ap, ◌∙◌, refl}
use Rattle.std.specs.List.{cons_option, filter_map, list_any, slice_get}
use Rattle.std.proofs.lemmas.Bool.{and_parts, eqb-true, eq-eqb, or_parts}
use Rattle.chan_values.specs.declared.side.Side.{Side}
use Rattle.chan_values.specs.declared.side.Side.TheVariants.{Plugin, Agent}
use Rattle.session_register.specs.Chains.{same_side}
use Rattle.session_register.specs.Names.{same_name}
use Rattle.session_register.proofs.NameLemmas.{same_name-key, same_name-self, same_name-true}
use Rattle.relay_core.specs.declared.event.Event.{Event}
use Rattle.relay_core.specs.declared.place.Place.{Place}
use Rattle.relay_core.specs.declared.room.Room.{Room}
use Rattle.relay_core.specs.Rooms.{holder, is_conn}
use Rattle.relay_core.specs.Changes.{Clears, Ends, IsSame, Loses, Opens, cleared_room, ended_room, opened_room, unless_conn}
use Rattle.relay_core.specs.Kept.{Kept, Stands, empty_room, place_in, room_in}
use Rattle.relay_core.specs.Forwarding.{current, is_ended, last_held, last_opened, openings, place, place_of, place_opened, room_told, since_opened}
use Rattle.relay_core.proofs.EventLemmas.{binary-told, cleared-told, current-push, ended-told, holder-told, opened-told, place_of-new, place_of-stays}
use Rattle.relay_core.proofs.TestLemmas.{fails, is_conn-true, key-conn, same_side-true, some-same}

-- ---- connections

first-place : (p : Place) (b : Bool) (ps : List Place) → b ≡ false → slice_get ps 0 ≡ None
    → slice_get (cons_option (cond b (Some p) None) ps) 0 ≡ None
first-place p true ps is later = cc
first-place p false ps is later = later

-- a connection that was not let in has no place
pub none-opened : (es : List Event) (conn : ℕ) → list_any (λ c. nat_eq c conn) (openings es) ≡ false
    → place_of es conn ≡ None
unfolding openings place_of
none-opened [] conn new = refl
none-opened (Event.Opened c s r reply ∷ es) conn new =
    let parts = or_parts (nat_eq c conn) (list_any (λ x. nat_eq x conn) (openings es)) new in
    first-place (place s r) (nat_eq c conn) (filter_map (place_opened conn) es) parts.0
    (none-opened es conn parts.1)
none-opened (Event.Binary c bytes ∷ es) conn new = none-opened es conn new
none-opened (Event.Gone c ∷ es) conn new = none-opened es conn new
none-opened (Event.EndSession s ∷ es) conn new = none-opened es conn new

-- a connection that one more event makes current, or leaves current
kept-current : (ended : Bool) (held : Option ℕ) (c : ℕ) → cond (ended || false) None held ≡ Some c
    → (ended ≡ false) × (held ≡ Some c)
kept-current true held c is = cc
kept-current false held c is = (refl, is)

-- a room that has not the connection
not-cleared : (conn : ℕ) (room : Room) → is_conn conn room.plugin ≡ false
    → is_conn conn room.agent ≡ false → cleared_room conn room ≡ room
not-cleared conn room plugin agent =
    λ i. record {
      ended = room.ended;
      plugin = cond (plugin i) None room.plugin;
      agent = cond (agent i) None room.agent;
    }

told-nil : (session : List ℕ) → room_told [] session ≡ empty_room
unfolding is_ended last_held last_opened since_opened
told-nil session = refl

current-nil : (session : List ℕ) (role : Side) → current [] session role ≡ None
unfolding is_ended last_held last_opened since_opened
current-nil session role = refl

-- where nothing is kept, nothing has happened
pub stands-nil : (kept : Kept) → kept.rooms ≡ [] → kept.places ≡ [] → Stands kept []
stands-nil kept no_rooms no_places =
    record {
      rooms = λ session. ap (λ rooms. room_in rooms session) no_rooms ∙ sym (told-nil session);
      places = λ conn p is.
          let none : place_in kept.places conn ≡ None =
          ap (λ places. place_in places conn) no_places in
          cc (is, none);
      current = λ session role conn is. let none = current-nil session role in cc (is, none);
    }

module _ (old new : Kept) (es : List Event) (stands : Stands old es) where
  -- the places after an event that opens no connection
  places-stay : (e : Event)
      → ((c : ℕ) (q : Place) → place_in new.places c ≡ Some q → place_in old.places c ≡ Some q)
      → (c : ℕ) (q : Place) → place_in new.places c ≡ Some q → place_of (es ++ e ∷ []) c ≡ Some q
  places-stay e was c q is = place_of-stays es e c q (stands.places c q (was c q is))

  -- who was current has its place
  held-place : (session : List ℕ) (role : Side) (c : ℕ) → is_ended es session ≡ false
      → last_held es session role ≡ Some c
      → place_in old.places c ≡ Some (place session role)
  held-place session role c lives held =
      stands.current session role c (ap (λ b. cond b None (last_held es session role)) lives ∙ held)

  -- by look-ups the same is kept
  pub stands-same : IsSame old new → Stands new es
  stands-same same =
      record {
        rooms = λ session. same.rooms session ∙ stands.rooms session;
        places = λ conn p is. stands.places conn p (sym (same.places conn) ∙ is);
        current = λ session role conn is.
            same.places conn ∙ stands.current session role conn is;
      }

  -- ---- a binary message

  pub stands-binary : (conn : ℕ) (bytes : List ℕ)
      → Stands old (es ++ Event.Binary conn bytes ∷ [])
  stands-binary conn bytes =
      record {
        rooms = λ session. stands.rooms session ∙ binary-told es session conn bytes;
        places = λ c q is.
            place_of-stays es (Event.Binary conn bytes) c q (stands.places c q is);
        current = λ session role c is.
            let parts = kept-current (is_ended es session) (last_held es session role) c
            (sym (current-push es (Event.Binary conn bytes) session role) ∙ is) in
            held-place session role c parts.0 parts.1;
      }

  -- ---- the end of a session

  ended-current : (named session : List ℕ) (held : Option ℕ) (c : ℕ) (ended b : Bool)
      → cond (ended || b) None held ≡ Some c → (ended ≡ false) × (held ≡ Some c)
  ended-current named session held c true b is = cc
  ended-current named session held c false true is = cc
  ended-current named session held c false false is = (refl, is)

  pub stands-ended : (session : List ℕ) → Ends session old new
      → Stands new (es ++ Event.EndSession session ∷ [])
  stands-ended session ends =
      record {
        rooms = λ s.
            ends.rooms s
            ∙ (λ i. cond (same_name-key session s i) ended_room (stands.rooms s i))
            ∙ ended-told es s session (same_name session s) refl;
        places = places-stay (Event.EndSession session)
            (λ c q is. sym (ends.places c) ∙ is);
        current = λ s role c is.
            let parts = ended-current session s (last_held es s role) c (is_ended es s)
            (same_name session s)
            (sym (current-push es (Event.EndSession session) s role) ∙ is) in
            ends.places c ∙ held-place s role c parts.0 parts.1;
      }

  -- ---- an opening

  module _ (conn : ℕ) (session : List ℕ) (role : Side) (reply : List ℕ)
      (opens : Opens conn session role old new) (fresh : place_of es conn ≡ None) where
    abbrev e : Event
    e = Event.Opened conn session role reply

    found : (c : ℕ) → place_in new.places c
        ≡ cond (nat_eq conn c) (Some (place session role)) (place_in old.places c)
    found c =
        opens.places c
        ∙ ap (λ b. cond b (Some (place session role)) (place_in old.places c)) (key-conn conn c)

    opened-place : (c : ℕ) (q : Place) (b : Bool) → (b ≡ true → conn ≡ c)
        → cond b (Some (place session role)) (place_in old.places c) ≡ Some q
        → place_of (es ++ e ∷ []) c ≡ Some q
    opened-place c q true one is =
        let none : place_of es c ≡ None = ap (place_of es) (sym (one refl)) ∙ fresh in
        place_of-new es e c none
        ∙ ap (λ b. cond b (Some (place session role)) None) (eq-eqb conn c (one refl)) ∙ is
    opened-place c q false one is = place_of-stays es e c q (stands.places c q is)

    -- the new connection, or one that was current before
    opened-held : (s : List ℕ) (r : Side) (c : ℕ) (b : Bool)
        → (b ≡ true → (session ≡ s) × (role ≡ r)) → is_ended es s ≡ false
        → cond b (Some conn) (last_held es s r) ≡ Some c
        → place_in new.places c ≡ Some (place s r)
    opened-held s r c true same lives is =
        let one : conn ≡ c = cc in
        found c
        ∙ ap (λ b. cond b (Some (place session role)) (place_in old.places c)) (eq-eqb conn c one)
        ∙ (λ i. Some (place ((same refl).0 i) ((same refl).1 i)))
    opened-held s r c false same lives is =
        let was = held-place s r c lives is in
        found c
        ∙ ap (λ b. cond b (Some (place session role)) (place_in old.places c))
        (fails (nat_eq conn c) (λ one.
        let known = stands.places c (place s r) was in
        let none : place_of es c ≡ None = ap (place_of es) (sym (eqb-true conn c one)) ∙ fresh in
        cc (known, none)))
        ∙ was

    pub stands-opened : Stands new (es ++ e ∷ [])
    stands-opened =
        record {
          rooms = λ s.
              opens.rooms s
              ∙ (λ i. cond (same_name-key session s i)
              (opened_room role conn (stands.rooms session i)) (stands.rooms s i))
              ∙ opened-told es s conn session role reply (same_name session s) refl;
          places = λ c q is.
              opened-place c q (nat_eq conn c) (eqb-true conn c) (sym (found c) ∙ is);
          current = λ s r c is.
              let parts = kept-current (is_ended es s)
              (cond (same_name session s && same_side role r) (Some conn) (last_held es s r)) c
              (sym (current-push es e s r) ∙ is) in
              opened-held s r c (same_name session s && same_side role r)
              (λ both.
              let two = and_parts (same_name session s) (same_side role r) both in
              (same_name-true session s two.0, same_side-true role r two.1))
              parts.0 parts.1;
        }

  -- ---- a loss

  module _ (conn : ℕ) (loses : Loses conn old new) where
    gone : (c : ℕ) → place_in new.places c ≡ cond (nat_eq conn c) None (place_in old.places c)
    gone c = loses.places c ∙ ap (λ b. cond b None (place_in old.places c)) (key-conn conn c)

    -- a session that is not the connection's is not changed by its loss
    not-its : (s : List ℕ)
        → ((role : Side) → place_in old.places conn ≡ Some (place s role) → ⊥)
        → cleared_room conn (room_in old.rooms s) ≡ room_in old.rooms s
    not-its s not =
        not-cleared conn (room_in old.rooms s) (no Plugin) (no Agent)
      where
        no : (role : Side) → is_conn conn (holder role (room_in old.rooms s)) ≡ false
        no role =
            fails (is_conn conn (holder role (room_in old.rooms s))) (λ holds.
            not role (stands.current s role conn
            (sym (holder-told es s role) ∙ ap (holder role) (sym (stands.rooms s))
            ∙ is_conn-true conn (holder role (room_in old.rooms s)) holds)))

    cleared-other : (p : Place) (s : List ℕ) (b : Bool) → place_in old.places conn ≡ Some p
        → (b ≡ true → p.session ≡ s) → (p.session ≡ s → b ≡ true)
        → cond b (cleared_room conn (room_in old.rooms p.session)) (room_in old.rooms s)
        ≡ cleared_room conn (room_in old.rooms s)
    cleared-other p s true is same back =
        ap (λ name. cleared_room conn (room_in old.rooms name)) (same refl)
    cleared-other p s false is same back =
        sym (not-its s (λ role placed.
        let one : Some p ≡ Some (place s role) = sym is ∙ placed in
        let named : p.session ≡ s =
        ap (λ (o : Place). o.session) (some-same p (place s role) one) in
        let no : false ≡ true = back named in
        cc))

    cleared-by : (o : Option Place) → place_in old.places conn ≡ o
        → Clears conn o old.rooms new.rooms → (s : List ℕ)
        → room_in new.rooms s ≡ cleared_room conn (room_in old.rooms s)
    cleared-by None is clears s = clears s ∙ sym (not-its s (λ role placed. cc (is, placed)))
    cleared-by (Some p) is clears s =
        clears s
        ∙ ap (λ b. cond b (cleared_room conn (room_in old.rooms p.session)) (room_in old.rooms s))
        (same_name-key p.session s)
        ∙ cleared-other p s (same_name p.session s) is (same_name-true p.session s)
        (λ same. ap (same_name p.session) (sym same) ∙ same_name-self p.session)

    not-gone : (c : ℕ) (q : Place) (b : Bool) → cond b None (place_in old.places c) ≡ Some q
        → place_in old.places c ≡ Some q
    not-gone c q true is = cc
    not-gone c q false is = is

    unless-gone : (s : List ℕ) (r : Side) (c : ℕ) (held : Option ℕ)
        → unless_conn conn held ≡ Some c → (held ≡ Some c) × (nat_eq conn c ≡ false)
    unless-gone s r c None is = cc
    unless-gone s r c (Some d) is =
        by (nat_eq d conn) refl is
      where
        by : (b : Bool) → nat_eq d conn ≡ b → cond b None (Some d) ≡ Some c
            → (Some d ≡ Some c) × (nat_eq conn c ≡ false)
        by true test same_conn = cc
        by false test same_conn =
            let one : d ≡ c = cc in (
              same_conn,
              fails (nat_eq conn c) (λ same.
                  let back : nat_eq d conn ≡ true =
                  eq-eqb d conn (one ∙ sym (eqb-true conn c same)) in
                  cc (test, back)),
            )

    pub stands-gone : Stands new (es ++ Event.Gone conn ∷ [])
    stands-gone =
        record {
          rooms = λ s.
              cleared-by (place_in old.places conn) refl loses.rooms s
              ∙ ap (cleared_room conn) (stands.rooms s)
              ∙ cleared-told es s conn;
          places = places-stay (Event.Gone conn)
              (λ c q is. not-gone c q (nat_eq conn c) (sym (gone c) ∙ is));
          current = λ s r c is.
              let parts = kept-current (is_ended es s) (unless_conn conn (last_held es s r)) c
              (sym (current-push es (Event.Gone conn) s r) ∙ is) in
              let held = unless-gone s r c (last_held es s r) parts.1 in
              gone c
              ∙ ap (λ b. cond b None (place_in old.places c)) held.1
              ∙ held-place s r c parts.0 held.0;
        }

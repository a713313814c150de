-- What is read off one event more.
use Rattle.std.proofs.Common.{◌≡◌, ℕ, Bool, true, false, cond, ◌||◌, ◌&&◌, Option, Some, None, List, [], ◌∷◌, ◌++◌, sym, ap, ◌∙◌, refl}
use Rattle.std.specs.List.{filter_map, list_any, slice_get}
use Rattle.std.proofs.lemmas.List.Elements.{filter_map-append}
use Rattle.std.proofs.lemmas.List.Folds.{list_any-append}
use Rattle.chan_values.specs.declared.side.Side.{Side}
use Rattle.chan_values.specs.declared.side.Side.TheVariants.{Plugin, Agent}
use Rattle.session_register.specs.Chains.{same_side}
use Rattle.session_register.specs.Names.{same_name}
use Rattle.session_register.proofs.NameLemmas.{same_name-true}
use Rattle.relay_core.specs.declared.event.Event.{Event}
use Rattle.relay_core.specs.declared.place.Place.{Place}
use Rattle.relay_core.specs.declared.room.Room.{Room}
use Rattle.relay_core.specs.Rooms.{holder}
use Rattle.relay_core.specs.Changes.{cleared_room, ended_room, opened_room, unless_conn}
use Rattle.relay_core.specs.Forwarding.{current, ends, is_ended, last_held, place_of, place_opened, room_told}
use Rattle.relay_core.proofs.HeldLemmas.{held_after, last_held-push, or-false, or-true}

pub is_ended-push : (es : List Event) (e : Event) (session : List ℕ)
    → is_ended (es ++ e ∷ []) session ≡ (is_ended es session || ends session e)
unfolding is_ended
is_ended-push es e session =
    list_any-append (ends session) es (e ∷ [])
    ∙ ap (λ b. list_any (ends session) es || b) (or-false (ends session e))

pub current-push : (es : List Event) (e : Event) (session : List ℕ) (role : Side)
    → current (es ++ e ∷ []) session role
    ≡ cond (is_ended es session || ends session e) None
    (held_after session role (last_held es session role) e)
current-push es e session role =
    λ i. cond (is_ended-push es e session i) None (last_held-push session role es e i)

pub holder-told : (es : List Event) (session : List ℕ) (role : Side)
    → holder role (room_told es session) ≡ current es session role
holder-told es session Plugin = refl
holder-told es session Agent = refl

-- ---- the place of a connection

unfoldable pub or_else : Option Place → Option Place → Option Place
or_else None q = q
or_else (Some p) q = Some p

first-append : (xs ys : List Place)
    → slice_get (xs ++ ys) 0 ≡ or_else (slice_get xs 0) (slice_get ys 0)
unfolding or_else
first-append [] ys = refl
first-append (x ∷ xs) ys = refl

place_of-one : (conn : ℕ) (e : Event) (p : Option Place) → place_opened conn e ≡ p
    → slice_get (filter_map (place_opened conn) (e ∷ [])) 0 ≡ p
place_of-one conn e None is = rw is refl
place_of-one conn e (Some p) is = rw is refl

pub place_of-push : (es : List Event) (e : Event) (conn : ℕ)
    → place_of (es ++ e ∷ []) conn ≡ or_else (place_of es conn) (place_opened conn e)
unfolding place_of
place_of-push es e conn =
    ap (λ ps. slice_get ps 0) (filter_map-append (place_opened conn) es (e ∷ []))
    ∙ first-append (filter_map (place_opened conn) es) (filter_map (place_opened conn) (e ∷ []))
    ∙ ap (or_else (slice_get (filter_map (place_opened conn) es) 0))
    (place_of-one conn e (place_opened conn e) refl)

-- what was so stays so
pub place_of-stays : (es : List Event) (e : Event) (conn : ℕ) (p : Place)
    → place_of es conn ≡ Some p → place_of (es ++ e ∷ []) conn ≡ Some p
unfolding or_else
place_of-stays es e conn p is =
    place_of-push es e conn ∙ ap (λ q. or_else q (place_opened conn e)) is

-- a connection without a place gets that of its opening
pub place_of-new : (es : List Event) (e : Event) (conn : ℕ) → place_of es conn ≡ None
    → place_of (es ++ e ∷ []) conn ≡ place_opened conn e
unfolding or_else
place_of-new es e conn is =
    place_of-push es e conn ∙ ap (λ q. or_else q (place_opened conn e)) is

-- ---- the room of a session

-- a room, by what was read off
abbrev pub facts : Bool → Option ℕ → Option ℕ → Room
facts ended plugin agent =
    record {
      ended = ended;
      plugin = cond ended None plugin;
      agent = cond ended None agent;
    }

opened-facts : (ended : Bool) (plugin agent : Option ℕ) (role : Side) (conn : ℕ)
    → opened_room role conn (facts ended plugin agent)
    ≡ facts ended (cond (same_side role Plugin) (Some conn) plugin)
    (cond (same_side role Agent) (Some conn) agent)
opened-facts true plugin agent role conn = refl
opened-facts false plugin agent Plugin conn = refl
opened-facts false plugin agent Agent conn = refl

cleared-facts : (ended : Bool) (plugin agent : Option ℕ) (conn : ℕ)
    → cleared_room conn (facts ended plugin agent)
    ≡ facts ended (unless_conn conn plugin) (unless_conn conn agent)
cleared-facts true plugin agent conn = refl
cleared-facts false plugin agent conn = refl

-- the room as it is told after one event more
room-push : (es : List Event) (e : Event) (session : List ℕ)
    → room_told (es ++ e ∷ []) session
    ≡ facts (is_ended es session || ends session e)
    (held_after session Plugin (last_held es session Plugin) e)
    (held_after session Agent (last_held es session Agent) e)
room-push es e session =
    λ i. facts (is_ended-push es e session i) (last_held-push session Plugin es e i)
    (last_held-push session Agent es e i)

module _ (es : List Event) (session : List ℕ) where
  abbrev ended : Bool
  ended = is_ended es session

  abbrev plugin : Option ℕ
  plugin = last_held es session Plugin

  abbrev agent : Option ℕ
  agent = last_held es session Agent

  pub opened-told : (conn : ℕ) (named : List ℕ) (role : Side) (reply : List ℕ) (b : Bool)
      → same_name named session ≡ b
      → cond b (opened_room role conn (room_told es named)) (room_told es session)
      ≡ room_told (es ++ Event.Opened conn named role reply ∷ []) session
  opened-told conn named role reply true is =
      ap (λ name. opened_room role conn (room_told es name)) (same_name-true named session is)
      ∙ opened-facts ended plugin agent role conn
      ∙ (λ i. facts (sym (or-false ended) i)
      (cond (sym is i && same_side role Plugin) (Some conn) plugin)
      (cond (sym is i && same_side role Agent) (Some conn) agent))
      ∙ sym (room-push es (Event.Opened conn named role reply) session)
  opened-told conn named role reply false is =
      (λ i. facts (sym (or-false ended) i)
      (cond (sym is i && same_side role Plugin) (Some conn) plugin)
      (cond (sym is i && same_side role Agent) (Some conn) agent))
      ∙ sym (room-push es (Event.Opened conn named role reply) session)

  pub ended-told : (named : List ℕ) (b : Bool) → same_name named session ≡ b
      → cond b ended_room (room_told es session)
      ≡ room_told (es ++ Event.EndSession named ∷ []) session
  ended-told named true is =
      (λ i. facts (sym (or-true ended) i) plugin agent)
      ∙ (λ i. facts (ended || sym is i) plugin agent)
      ∙ sym (room-push es (Event.EndSession named) session)
  ended-told named false is =
      (λ i. facts (sym (or-false ended) i) plugin agent)
      ∙ (λ i. facts (ended || sym is i) plugin agent)
      ∙ sym (room-push es (Event.EndSession named) session)

  pub cleared-told : (conn : ℕ)
      → cleared_room conn (room_told es session)
      ≡ room_told (es ++ Event.Gone conn ∷ []) session
  cleared-told conn =
      cleared-facts ended plugin agent conn
      ∙ (λ i. facts (sym (or-false ended) i) (unless_conn conn plugin) (unless_conn conn agent))
      ∙ sym (room-push es (Event.Gone conn) session)

  pub binary-told : (conn : ℕ) (bytes : List ℕ)
      → room_told es session ≡ room_told (es ++ Event.Binary conn bytes ∷ []) session
  binary-told conn bytes =
      (λ i. facts (sym (or-false ended) i) plugin agent)
      ∙ sym (room-push es (Event.Binary conn bytes) session)

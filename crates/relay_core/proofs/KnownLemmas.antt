-- Where each connection of a list of events was let in, if none was twice.
use Rattle.std.proofs.Common.{◌≡◌, ℕ, Bool, true, false, cond, nat_eq, Some, None, List, [], ◌∷◌, ◌++◌, sym, ap, ◌∙◌, refl, append_assoc, append-nil}
use Rattle.std.specs.List.{AllByRecursion, IsDistinct, cons_option, filter_map, slice_get}
use Rattle.std.proofs.lemmas.Bool.{eq-eqb}
use Rattle.chan_values.specs.declared.side.Side.{Side}
use Rattle.relay_core.specs.declared.event.Event.{Event}
use Rattle.relay_core.specs.declared.place.Place.{Place}
use Rattle.relay_core.specs.Forwarding.{AreNew, openings, place, place_of, place_opened}
use Rattle.relay_core.proofs.EventLemmas.{place_of-stays}

-- what was so stays so
pub place_of-on : (before rest : List Event) (conn : ℕ) (p : Place) → place_of before conn ≡ Some p
    → place_of (before ++ rest) conn ≡ Some p
place_of-on before [] conn p is = ap (λ es. place_of es conn) (append-nil before) ∙ is
place_of-on before (e ∷ rest) conn p is =
    ap (λ es. place_of es conn) (sym (append_assoc before (e ∷ []) rest))
    ∙ place_of-on (before ++ e ∷ []) rest conn p (place_of-stays before e conn p is)

-- an opening is where its connection has its place
abbrev pub IsKnown : List Event → Event → Type 0
IsKnown all (Event.Opened conn session role reply) =
    place_of all conn ≡ Some (place session role)
IsKnown all (Event.Binary conn bytes) = Unit {0}
IsKnown all (Event.Gone conn) = Unit {0}
IsKnown all (Event.EndSession session) = Unit {0}

front-place : (p : Place) (b : Bool) (ps : List Place)
    → slice_get (cons_option (cond b (Some p) None) ps) 0 ≡ cond b (Some p) (slice_get ps 0)
front-place p true ps = refl
front-place p false ps = refl

place_of-front : (conn : ℕ) (session : List ℕ) (role : Side) (reply : List ℕ) (es : List Event)
    (c : ℕ)
    → place_of (Event.Opened conn session role reply ∷ es) c
    ≡ cond (nat_eq conn c) (Some (place session role)) (place_of es c)
unfolding place_of
place_of-front conn session role reply es c =
    front-place (place session role) (nat_eq conn c) (filter_map (place_opened c) es)

-- an event in front that opens no connection of these events
known-behind : (e : Event) (es xs : List Event)
    → ((c : ℕ) (p : Place) → place_of es c ≡ Some p → place_of (e ∷ es) c ≡ Some p)
    → AllByRecursion (IsKnown es) xs → AllByRecursion (IsKnown (e ∷ es)) xs
known-behind e es [] still known = tt
known-behind e es (Event.Opened c s r reply ∷ xs) still known =
    (still c (place s r) known.0, known-behind e es xs still known.1)
known-behind e es (Event.Binary c bytes ∷ xs) still known =
    (tt, known-behind e es xs still known.1)
known-behind e es (Event.Gone c ∷ xs) still known = (tt, known-behind e es xs still known.1)
known-behind e es (Event.EndSession s ∷ xs) still known =
    (tt, known-behind e es xs still known.1)

module _ (conn : ℕ) (session : List ℕ) (role : Side) (reply : List ℕ) (es : List Event) where
  -- an opening in front of openings of other connections
  known-behind_opening : (xs : List Event)
      → AllByRecursion (λ c. nat_eq conn c ≡ false) (openings xs)
      → AllByRecursion (IsKnown es) xs
      → AllByRecursion (IsKnown (Event.Opened conn session role reply ∷ es)) xs
  unfolding openings
  known-behind_opening [] apart known = tt
  known-behind_opening (Event.Opened c s r text ∷ xs) apart known = (
    place_of-front conn session role reply es c
        ∙ ap (λ b. cond b (Some (place session role)) (place_of es c)) apart.0
        ∙ known.0,
    known-behind_opening xs apart.1 known.1,
  )
  known-behind_opening (Event.Binary c bytes ∷ xs) apart known =
      (tt, known-behind_opening xs apart known.1)
  known-behind_opening (Event.Gone c ∷ xs) apart known =
      (tt, known-behind_opening xs apart known.1)
  known-behind_opening (Event.EndSession s ∷ xs) apart known =
      (tt, known-behind_opening xs apart known.1)

-- each opening is known, where no connection is let in twice
pub each-known : (es : List Event) → AreNew es → AllByRecursion (IsKnown es) es
unfolding openings place_of IsDistinct
each-known [] new = tt
each-known (Event.Opened conn session role reply ∷ es) new = (
  place_of-front conn session role reply es conn
      ∙ ap (λ b. cond b (Some (place session role)) (place_of es conn)) (eq-eqb conn conn refl),
  known-behind_opening conn session role reply es es new.0 (each-known es new.1),
)
each-known (Event.Binary conn bytes ∷ es) new =
    (tt, known-behind (Event.Binary conn bytes) es es (λ c p is. is) (each-known es new))
each-known (Event.Gone conn ∷ es) new =
    (tt, known-behind (Event.Gone conn) es es (λ c p is. is) (each-known es new))
each-known (Event.EndSession s ∷ es) new =
    (tt, known-behind (Event.EndSession s) es es (λ c p is. is) (each-known es new))

-- the openings before the last event, and it
pub known-parts : (all es : List Event) (e : Event)
    → AllByRecursion (IsKnown all) (es ++ e ∷ [])
    → AllByRecursion (IsKnown all) es × IsKnown all e
known-parts all [] e known = (tt, known.0)
known-parts all (x ∷ es) e known =
    let rest = known-parts all es e known.1 in
    ((known.0, rest.0), rest.1)

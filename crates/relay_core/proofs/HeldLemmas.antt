-- Who was let in last and not lost, after one event more.
use Rattle.std.proofs.Common.{◌≡◌, ℕ, Bool, true, false, cond, nat_eq, ◌||◌, ◌&&◌, Option, Some, None, List, [], ◌∷◌, ◌++◌, reverse, sym, ap, ◌∙◌, refl, append_assoc, append-nil}
use Rattle.std.specs.List.{cons_option, filter_map, fold, list_any, slice_get, take_while}
use Rattle.std.specs.Option.{is_none}
use Rattle.std.proofs.lemmas.List.{reverse-append}
use Rattle.std.proofs.lemmas.List.Sums.{take_while-cons}
use Rattle.chan_values.specs.declared.side.Side.{Side}
use Rattle.session_register.specs.Chains.{same_side}
use Rattle.session_register.specs.Names.{same_name}
use Rattle.relay_core.specs.declared.event.Event.{Event}
use Rattle.relay_core.specs.Changes.{unless_conn}
use Rattle.relay_core.specs.Forwarding.{conn_opened, last_held, last_opened, loses, since_opened, unless_lost}

pub or-false : (b : Bool) → (b || false) ≡ b
or-false true = refl
or-false false = refl

pub or-true : (b : Bool) → (b || true) ≡ true
or-true true = refl
or-true false = refl

-- an opening in the role takes its place, and a loss gives it up
abbrev pub held_after : List ℕ → Side → Option ℕ → Event → Option ℕ
held_after session role held (Event.Opened conn s r reply) =
    cond (same_name s session && same_side r role) (Some conn) held
held_after session role held (Event.Gone conn) = unless_conn conn held
held_after session role held (Event.Binary conn bytes) = held
held_after session role held (Event.EndSession s) = held

-- an event that is the loss of no connection
passes : (e : Event) (later : List Event) (last : Option ℕ) → ((c : ℕ) → loses c e ≡ false)
    → unless_lost (e ∷ later) last ≡ unless_lost later last
passes e later None not_lost = refl
passes e later (Some c) not_lost =
    ap (λ b. cond (b || list_any (loses c) later) None (Some c)) (not_lost c)

lost-by : (conn c : ℕ) (b : Bool)
    → cond (nat_eq c conn || b) None (Some c) ≡ unless_conn conn (cond b None (Some c))
lost-by conn c true = ap (λ x. cond x None (Some c)) (or-true (nat_eq c conn))
lost-by conn c false = ap (λ x. cond x None (Some c)) (or-false (nat_eq c conn))

lost : (conn : ℕ) (later : List Event) (last : Option ℕ)
    → unless_lost (Event.Gone conn ∷ later) last ≡ unless_conn conn (unless_lost later last)
lost conn later None = refl
lost conn later (Some c) = lost-by conn c (list_any (loses c) later)

-- by whether the event is an opening in the role
opened-by : (b : Bool) (e : Event) (conn : ℕ) (later : List Event) (conns : List ℕ)
    → ((c : ℕ) → loses c e ≡ false)
    → unless_lost (cond (is_none (cond b (Some conn) None)) (e ∷ later) [])
    (slice_get (cons_option (cond b (Some conn) None) conns) 0)
    ≡ cond b (Some conn) (unless_lost later (slice_get conns 0))
opened-by true e conn later conns not_lost = refl
opened-by false e conn later conns not_lost = passes e later (slice_get conns 0) not_lost

module _ (session : List ℕ) (role : Side) where
  abbrev opens_none : Event → Bool
  opens_none e = is_none (conn_opened session role e)

  -- the same, of the events with the latest first
  abbrev held_in : List Event → Option ℕ
  held_in es =
      unless_lost (take_while opens_none es)
      (slice_get (filter_map (conn_opened session role) es) 0)

  held-more : (es : List Event) (e : Event)
      → unless_lost (cond (opens_none e) (e ∷ take_while opens_none es) [])
      (slice_get
      (cons_option (conn_opened session role e) (filter_map (conn_opened session role) es)) 0)
      ≡ held_after session role (held_in es) e
  held-more es (Event.Opened conn s r reply) =
      opened-by (same_name s session && same_side r role) (Event.Opened conn s r reply) conn
      (take_while opens_none es) (filter_map (conn_opened session role) es) (λ c. refl)
  held-more es (Event.Binary conn bytes) =
      passes (Event.Binary conn bytes) (take_while opens_none es)
      (slice_get (filter_map (conn_opened session role) es) 0) (λ c. refl)
  held-more es (Event.Gone conn) =
      lost conn (take_while opens_none es)
      (slice_get (filter_map (conn_opened session role) es) 0)
  held-more es (Event.EndSession s) =
      passes (Event.EndSession s) (take_while opens_none es)
      (slice_get (filter_map (conn_opened session role) es) 0) (λ c. refl)

  pub last_held-push : (es : List Event) (e : Event)
      → last_held (es ++ e ∷ []) session role
      ≡ held_after session role (last_held es session role) e
  unfolding last_held last_opened since_opened
  last_held-push es e =
      ap held_in (reverse-append es (e ∷ []))
      ∙ ap (λ later. unless_lost later
      (slice_get
      (cons_option (conn_opened session role e)
      (filter_map (conn_opened session role) (reverse es))) 0))
      (take_while-cons opens_none e (reverse es))
      ∙ held-more (reverse es) e

  pub last_held-nil : last_held [] session role ≡ None
  unfolding last_held last_opened since_opened
  last_held-nil = refl

  -- it is a fold over the events
  pub last_held-fold : (before es : List Event)
      → last_held (before ++ es) session role
      ≡ fold (held_after session role) (last_held before session role) es
  last_held-fold before [] = ap (λ xs. last_held xs session role) (append-nil before)
  last_held-fold before (e ∷ es) =
      ap (λ xs. last_held xs session role) (sym (append_assoc before (e ∷ []) es))
      ∙ last_held-fold (before ++ e ∷ []) es
      ∙ ap (λ held. fold (held_after session role) held es) (last_held-push before e)

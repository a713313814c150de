-- Sessions do not touch one another.
use Rattle.std.specs.Prelude.{◌≡◌, ℕ, Bool, true, false, Option, Some, None, List, [], ◌∷◌, ◌++◌, All, map, filter}
use Rattle.session_register.specs.Names.{same_name}
use Rattle.relay_core.specs.declared.action.Action.{Action}
use Rattle.relay_core.specs.declared.event.Event.{Event}
use Rattle.relay_core.specs.declared.place.Place.{Place}
use Rattle.relay_core.specs.Forwarding.{AreNew, actions, place_of}

-- an event with the id and the moment of its step
pub record Arrival : Type 0 where
  pub event : Event
  pub id : List ℕ
  pub now : ℕ

-- the events alone
abbrev pub events_of : List Arrival → List Event
events_of arrivals = map (λ a. a.event) arrivals

-- whether a place is in the session
abbrev pub is_in : List ℕ → Option Place → Bool
is_in session None = false
is_in session (Some p) = same_name p.session session

-- whether an event names the session, or a connection that was let in to it
abbrev pub belongs : List Event → List ℕ → Event → Bool
belongs es session (Event.Opened conn s role reply) = same_name s session
belongs es session (Event.Binary conn bytes) = is_in session (place_of es conn)
belongs es session (Event.Gone conn) = is_in session (place_of es conn)
belongs es session (Event.EndSession s) = same_name s session

-- each arrival with its actions, after the events before
abbrev pub run_from : List Event → List Arrival → List (Arrival × List Action)
run_from before [] = []
run_from before (a ∷ rest) =
    (a, actions before a.id a.now a.event) ∷ run_from (before ++ a.event ∷ []) rest

-- the arrivals of one session
abbrev pub own : List ℕ → List Arrival → List Arrival
own session arrivals = filter (λ a. belongs (events_of arrivals) session a.event) arrivals

-- what is done for the arrivals of one session is what would be done if only they had come
abbrev pub SessionsAreIsolated : Type 0
SessionsAreIsolated = (arrivals : List Arrival) (session : List ℕ) → AreNew (events_of arrivals)
    → filter (λ p. belongs (events_of arrivals) session p.0.event) (run_from [] arrivals)
    ≡ run_from [] (own session arrivals)

-- the connection of an action
abbrev pub target : Action → ℕ
target (Action.Text conn text) = conn
target (Action.Send conn bytes) = conn
target (Action.Drop conn) = conn

-- whatever is done at an event of a session is done at connections that were let in to it
abbrev pub ActionsStayInside : Type 0
ActionsStayInside = (es : List Event) (event : Event) (session id : List ℕ) (now : ℕ)
    → AreNew (es ++ event ∷ []) → belongs (es ++ event ∷ []) session event ≡ true
    → All (λ action. is_in session (place_of (es ++ event ∷ []) (target action)) ≡ true)
    (actions es id now event)

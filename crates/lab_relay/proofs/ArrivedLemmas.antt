-- What the relay did at all that came to it, after one event more.
use Rattle.std.proofs.Common.{◌≡◌, ℕ, List, [], ◌∷◌, ◌++◌, sym, ap, ◌∙◌, append_assoc, append-nil}
use Rattle.std.specs.List.{flat_map}
use Rattle.std.proofs.lemmas.Grind.{flat_map-append}
use Rattle.std.proofs.lemmas.List.{map-append}
use Rattle.channel_core.specs.declared.message.Incoming.{Incoming}
use Rattle.relay_core.specs.declared.action.Action.{Action}
use Rattle.relay_core.specs.declared.event.Event.{Event}
use Rattle.relay_core.specs.Forwarding.{actions}
use Rattle.relay_core.specs.Isolation.{Arrival, events_of, run_from}
use Rattle.lab_run.specs.Steps.{id_of}
use Rattle.lab_relay.specs.Inboxes.{done}
use Rattle.lab_relay.specs.Scene.{Scene, after_event, came}

abbrev pub arrived : ℕ → ℕ → Event → Arrival
arrived now line event = record { event = event; id = id_of line; now = now }

-- one event more came to the relay
pub came-push : (s : Scene) (now line : ℕ) (event : Event) (says : ℕ → Incoming)
    → came (after_event s now line event says) ≡ came s ++ event ∷ []
came-push s now line event says =
    map-append (λ (a : Arrival). a.event) s.arrivals (arrived now line event ∷ [])

run_from-push : (before : List Event) (arrivals : List Arrival) (a : Arrival)
    → run_from before (arrivals ++ a ∷ [])
    ≡ run_from before arrivals
    ++ (a, actions (before ++ events_of arrivals) a.id a.now a.event) ∷ []
run_from-push before [] a =
    ap (λ (es : List Event). (a, actions es a.id a.now a.event) ∷ []) (sym (append-nil before))
run_from-push before (x ∷ xs) a =
    let longer = before ++ x.event ∷ [] in
    ap
    (λ rest. (x, actions before x.id x.now x.event) ∷ rest)
    (run_from-push longer xs a
    ∙ ap
    (λ (es : List Event). run_from longer xs ++ (a, actions es a.id a.now a.event) ∷ [])
    (append_assoc before (x.event ∷ []) (events_of xs)))

-- and it did what was due at it
pub done-push : (s : Scene) (now line : ℕ) (event : Event) (says : ℕ → Incoming)
    → done (after_event s now line event says)
    ≡ done s ++ actions (came s) (id_of line) now event
done-push s now line event says =
    let told = actions (came s) (id_of line) now event in
    ap (flat_map (λ p. p.1)) (run_from-push [] s.arrivals (arrived now line event))
    ∙ flat_map-append (λ (p : Arrival × List Action). p.1) (run_from [] s.arrivals)
    ((arrived now line event, told) ∷ [])
    ∙ ap (λ (more : List Action). done s ++ more) (append-nil told)

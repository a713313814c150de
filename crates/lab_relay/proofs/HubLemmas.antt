-- Who made each connection, after one event more.
use Rattle.std.proofs.Common.{◌≡◌, ℕ, ◌+◌, ◌≤◌, Bool, true, false, cond, nat_eq, Option, Some, None, List, [], ◌∷◌, ◌++◌, length, get_or, inl, inr, refl, sym, ap, ◌∙◌, arith}
use Rattle.std.specs.List.{slice_get}
use Rattle.std.specs.Option.{option_map}
use Rattle.std.proofs.lemmas.Bool.{eqb-false, eqb-true}
use Rattle.std.proofs.lemmas.List.{get_or_append_left, get_or-append-add, length-append}
use Rattle.std.proofs.lemmas.Option.{get_or_from_slice_get, slice_get-get_or, slice_get_cases, slice_get_past, slice_get_within}
use Rattle.chan_values.specs.declared.side.Side.{Side}
use Rattle.chan_values.specs.declared.side.Side.TheVariants.{Plugin, Agent}
use Rattle.session_register.specs.Chains.{same_side}
use Rattle.relay_core.specs.declared.event.Event.{Event}
use Rattle.relay_core.specs.declared.place.Place.{Place}
use Rattle.relay_core.specs.Forwarding.{last_opened, openings, place, place_of, place_opened}
use Rattle.relay_core.proofs.EventLemmas.{or_else, place_of-push}
use Rattle.lab_relay.specs.declared.hub.Hub.{Hub}
use Rattle.lab_relay.specs.Held.{IsHub, noted_conn}
use Rattle.lab_relay.specs.Scene.{lab, next_conn}
use Rattle.lab_relay.proofs.OwnedLemmas.{IsQuiet, first_of, last_conn-push, last_conn-quiet, opened, openings-push, openings-quiet, place_of-quiet}

-- before the first event
pub IsHub-nil : (hub : Hub) → hub.ends.items ≡ [] → hub.plugin ≡ None → hub.agent ≡ None
    → IsHub [] hub
unfolding last_opened openings place_of
IsHub-nil hub ends plugin agent =
    record {
      count = ap length ends;
      places = λ conn. sym (ap (λ xs. option_map (place lab) (slice_get xs conn)) ends);
      last = λ side. noted side;
    }
  where
    noted : (side : Side) → noted_conn side hub ≡ None
    noted Plugin = plugin
    noted Agent = agent

-- an event that lets no connection in
pub IsHub-quiet : (es : List Event) (e : Event) (hub : Hub) → IsQuiet e → IsHub es hub
    → IsHub (es ++ e ∷ []) hub
IsHub-quiet es e hub quiet is =
    record {
      count = is.count ∙ sym (ap length (openings-quiet es e quiet));
      places = λ conn. place_of-quiet es e quiet conn ∙ is.places conn;
      last = λ side. is.last side ∙ sym (last_conn-quiet es e quiet side);
    }

-- the element at the end of a longer list
get-pushed : (ends : List Side) (side : Side)
    → slice_get (ends ++ side ∷ []) (length ends) ≡ Some side
get-pushed ends side =
    slice_get-get_or (ends ++ side ∷ []) (length ends) side
    (omega (arith, length-append ends (side ∷ [])))
    ∙ ap Some
    (ap (λ n. get_or (ends ++ side ∷ []) n side) (omega arith)
    ∙ get_or-append-add ends (side ∷ []) 0 side)

place-found : (ends : List Side) (side z : Side) (conn : ℕ) (o : Option Place)
    → slice_get ends conn ≡ Some z
    → or_else (Some (place lab z)) o
    ≡ option_map (place lab) (slice_get (ends ++ side ∷ []) conn)
unfolding or_else
place-found ends side z conn o found =
    let within = slice_get_within ends conn z found in
    sym (ap (option_map (place lab))
    (slice_get-get_or (ends ++ side ∷ []) conn z
    (omega (arith, within, length-append ends (side ∷ [])))
    ∙ ap Some (get_or_append_left ends (side ∷ []) z conn within
    ∙ get_or_from_slice_get ends conn z z found)))

place-last : (ends : List Side) (side : Side) (conn : ℕ) (b : Bool)
    → nat_eq (length ends) conn ≡ b
    → length ends ≤ conn
    → or_else None (cond b (Some (place lab side)) None)
    ≡ option_map (place lab) (slice_get (ends ++ side ∷ []) conn)
unfolding or_else
place-last ends side conn true is past =
    let at = eqb-true (length ends) conn is in
    ap (option_map (place lab)) (sym (get-pushed ends side)
    ∙ ap (slice_get (ends ++ side ∷ [])) at)
place-last ends side conn false is past =
    let apart = eqb-false (length ends) conn is in
    ap (option_map (place lab)) (sym (slice_get_past (ends ++ side ∷ []) conn
    (omega (arith, apart, past, length-append ends (side ∷ [])))))

place-pushed : (ends : List Side) (side : Side) (conn : ℕ)
    → or_else (option_map (place lab) (slice_get ends conn))
    (cond (nat_eq (length ends) conn) (Some (place lab side)) None)
    ≡ option_map (place lab) (slice_get (ends ++ side ∷ []) conn)
place-pushed ends side conn =
    let last = cond (nat_eq (length ends) conn) (Some (place lab side)) None in
    elim (slice_get_cases ends conn).1 [
      | inl w ↦
          ap (λ o. or_else (option_map (place lab) o) last) w.2
          ∙ place-found ends side w.0 conn last w.2
      | inr w ↦
          ap (λ o. or_else (option_map (place lab) o) last) w.1
          ∙ place-last ends side conn (nat_eq (length ends) conn) refl w.0
    ]

-- a connection more
pub IsHub-opened : (es : List Event) (side : Side) (old new : Hub) → IsHub es old
    → new.ends.items ≡ old.ends.items ++ side ∷ []
    → ((z : Side) → noted_conn z new
    ≡ first_of (cond (same_side side z) (Some (length old.ends.items)) None) (noted_conn z old))
    → IsHub (es ++ opened es side ∷ []) new
IsHub-opened es side old new is ends last =
    record {
      count =
          ap length ends ∙ length-append old.ends.items (side ∷ [])
          ∙ ap (λ n. n + 1) is.count
          ∙ sym (ap length (openings-push es (opened es side))
          ∙ length-append (openings es) (next_conn es ∷ []));
      places = λ conn.
          place_of-push es (opened es side) conn
          ∙ ap (λ o. or_else o (place_opened conn (opened es side))) (is.places conn)
          ∙ ap (λ n. or_else (option_map (place lab) (slice_get old.ends.items conn))
          (cond (nat_eq n conn) (Some (place lab side)) None)) (sym is.count)
          ∙ place-pushed old.ends.items side conn
          ∙ sym (ap (λ xs. option_map (place lab) (slice_get xs conn)) ends);
      last = λ z.
          last z
          ∙ ap (λ n. first_of (cond (same_side side z) (Some n) None) (noted_conn z old)) is.count
          ∙ ap (first_of (cond (same_side side z) (Some (next_conn es)) None)) (is.last z)
          ∙ sym (last_conn-push es (opened es side) z);
    }

-- of the plugin
pub IsHub-plugin : (es : List Event) (side : Side) (old new : Hub) (conn : ℕ)
    → side ≡ Plugin
    → conn ≡ length old.ends.items
    → IsHub es old
    → new.ends.items ≡ old.ends.items ++ side ∷ []
    → new.plugin ≡ Some conn
    → new.agent ≡ old.agent
    → IsHub (es ++ opened es side ∷ []) new
IsHub-plugin es side old new conn at number is ends plugin agent =
    IsHub-opened es side old new is ends noted
  where
    after : Side → Side → Option ℕ
    after x z =
        first_of (cond (same_side x z) (Some (length old.ends.items)) None) (noted_conn z old)

    noted : (z : Side) → noted_conn z new ≡ after side z
    noted Plugin = plugin ∙ ap Some number ∙ ap (λ x. after x Plugin) (sym at)
    noted Agent = agent ∙ ap (λ x. after x Agent) (sym at)

-- of the agent
pub IsHub-agent : (es : List Event) (side : Side) (old new : Hub) (conn : ℕ)
    → side ≡ Agent
    → conn ≡ length old.ends.items
    → IsHub es old
    → new.ends.items ≡ old.ends.items ++ side ∷ []
    → new.plugin ≡ old.plugin
    → new.agent ≡ Some conn
    → IsHub (es ++ opened es side ∷ []) new
IsHub-agent es side old new conn at number is ends plugin agent =
    IsHub-opened es side old new is ends noted
  where
    after : Side → Side → Option ℕ
    after x z =
        first_of (cond (same_side x z) (Some (length old.ends.items)) None) (noted_conn z old)

    noted : (z : Side) → noted_conn z new ≡ after side z
    noted Plugin = plugin ∙ ap (λ x. after x Plugin) (sym at)
    noted Agent = agent ∙ ap Some number ∙ ap (λ x. after x Agent) (sym at)

-- What is done at the events of one session is what would be done if only they had come.
use Rattle.std.proofs.Common.{◌≡◌, ℕ, Bool, true, false, cond, List, [], ◌∷◌, ◌++◌, sym, ap, ◌∙◌, refl, append_assoc, append-nil}
use Rattle.std.specs.List.{AllByRecursion, filter}
use Rattle.std.proofs.lemmas.List.Elements.{filter-append}
use Rattle.session_register.proofs.NameLemmas.{same_name-true}
use Rattle.relay_core.specs.declared.action.Action.{Action}
use Rattle.relay_core.specs.declared.event.Event.{Event}
use Rattle.relay_core.specs.Rooms.{dismissals, forwards, greetings, pauses}
use Rattle.relay_core.specs.Forwarding.{actions, room_told}
use Rattle.relay_core.specs.Isolation.{Arrival, belongs, events_of, run_from}
use Rattle.relay_core.proofs.KnownLemmas.{IsKnown}
use Rattle.relay_core.proofs.OwnLemmas.{peer-own, room-own}

module _ (all : List Event) (session : List ℕ) where
  abbrev mine : Event → Bool
  mine e = belongs all session e

  -- the actions at one of the session's events
  actions-own : (es rest : List Event) (id : List ℕ) (now : ℕ) (e : Event) → es ++ rest ≡ all
      → AllByRecursion (IsKnown all) es → mine e ≡ true
      → actions es id now e ≡ actions (filter mine es) id now e
  actions-own es rest id now (Event.Opened conn s role reply) parts known own =
      let same = same_name-true s session own in
      ap (λ name. greetings (room_told es name) name conn role reply id now) same
      ∙ ap (λ room. greetings room session conn role reply id now) (room-own all session es known)
      ∙ ap (λ name. greetings (room_told (filter mine es) name) name conn role reply id now)
      (sym same)
  actions-own es rest id now (Event.Binary conn bytes) parts known own =
      ap (λ peer. forwards peer bytes) (peer-own all session es rest conn parts own known)
  actions-own es rest id now (Event.Gone conn) parts known own =
      ap (λ peer. pauses peer id now) (peer-own all session es rest conn parts own known)
  actions-own es rest id now (Event.EndSession s) parts known own =
      let same = same_name-true s session own in
      ap (λ name. dismissals (room_told es name) name id now) same
      ∙ ap (λ room. dismissals room session id now) (room-own all session es known)
      ∙ ap (λ name. dismissals (room_told (filter mine es) name) name id now) (sym same)

  abbrev is_mine : Arrival × List Action → Bool
  is_mine p = mine p.0.event

  abbrev own_arrivals : List Arrival → List Arrival
  own_arrivals arrivals = filter (λ a. mine a.event) arrivals

  run-if : (b : Bool) (before : List Event) (a : Arrival) (rest : List Arrival) (done : List Action)
      (later : List (Arrival × List Action)) → mine a.event ≡ b
      → (b ≡ true → done ≡ actions (filter mine before) a.id a.now a.event)
      → later ≡ run_from (filter mine (before ++ a.event ∷ [])) (own_arrivals rest)
      → cond b ((a, done) ∷ later) later
      ≡ run_from (filter mine before) (cond b (a ∷ own_arrivals rest) (own_arrivals rest))
  run-if true before a rest done later is same on =
      let more : filter mine (before ++ a.event ∷ []) ≡ filter mine before ++ a.event ∷ [] =
      filter-append mine before (a.event ∷ [])
      ∙ ap (λ b. filter mine before ++ cond b (a.event ∷ []) []) is in
      (λ i. (a, same refl i) ∷ later)
      ∙ ap (λ r. (a, actions (filter mine before) a.id a.now a.event) ∷ r)
      (on ∙ ap (λ es. run_from es (own_arrivals rest)) more)
  run-if false before a rest done later is same on =
      let less : filter mine (before ++ a.event ∷ []) ≡ filter mine before =
      filter-append mine before (a.event ∷ [])
      ∙ ap (λ b. filter mine before ++ cond b (a.event ∷ []) []) is
      ∙ append-nil (filter mine before) in
      on ∙ ap (λ es. run_from es (own_arrivals rest)) less

  known-push : (before : List Event) (e : Event) → AllByRecursion (IsKnown all) before
      → IsKnown all e
      → AllByRecursion (IsKnown all) (before ++ e ∷ [])
  known-push [] e known is = (is, tt)
  known-push (x ∷ before) e known is = (known.0, known-push before e known.1 is)

  pub run-own : (before : List Event) (arrivals : List Arrival) → before ++ events_of arrivals ≡ all
      → AllByRecursion (IsKnown all) before → AllByRecursion (IsKnown all) (events_of arrivals)
      → filter is_mine (run_from before arrivals)
      ≡ run_from (filter mine before) (own_arrivals arrivals)
  run-own before [] parts known rest = refl
  run-own before (a ∷ arrivals) parts known rest =
      run-if (mine a.event) before a arrivals (actions before a.id a.now a.event)
      (filter is_mine (run_from (before ++ a.event ∷ []) arrivals)) refl
      (actions-own before (a.event ∷ events_of arrivals) a.id a.now a.event parts known)
      (run-own (before ++ a.event ∷ []) arrivals
      (append_assoc before (a.event ∷ []) (events_of arrivals) ∙ parts)
      (known-push before a.event known rest.0) rest.1)

-- The histories of a switch: one call more.
use Rattle.std.proofs.Common.{◌≡◌, ℕ, false, nat_eq, List, [], ◌∷◌, ◌++◌, refl, sym, ap, subst, ◌∙◌, append-nil}
use Rattle.std.specs.List.{AllByRecursion, IsDistinct, cons_option, fold, list_any}
use Rattle.std.proofs.lemmas.Bool.{or_parts}
use Rattle.std.proofs.lemmas.Grind.{fold-append}
use Rattle.std.proofs.lemmas.List.Elements.{All-nil, All-push, filter_map-append}
use Rattle.channel_core.specs.Call.{with_earlier}
use Rattle.channel_core.proofs.HistoryLemmas.{with_earlier-push}
use Rattle.channel_core.proofs.LegalLemmas.{All-pushed}
use Rattle.relay_core.specs.declared.event.Event.{Event}
use Rattle.relay_core.specs.Forwarding.{AreNew, IsNew, opening, openings}
use Rattle.relay_switch.specs.Lines.{LineState, empty_line}
use Rattle.relay_switch.specs.Switching.{IsDue, IsLegalSwitch, Step, event_added, events_of, is_repeat, line_after, line_of}

pub events_of-push : (h : List Step) (step : Step)
    → events_of (h ++ step ∷ []) ≡ event_added (events_of h) step
unfolding events_of
events_of-push h step = fold-append event_added [] h (step ∷ [])

pub line_of-push : (h : List Step) (step : Step) (conn : ℕ)
    → line_of (h ++ step ∷ []) conn ≡ line_after conn (events_of h) (line_of h conn) step
unfolding line_of
line_of-push h step conn =
    let after : LineState → List Step × Step → LineState =
    λ line p. line_after conn (events_of p.0) line p.1 in
    ap (fold after empty_line) (with_earlier-push h step)
    ∙ fold-append after empty_line (with_earlier h) ((h, step) ∷ [])

-- the call got an answer that it was due after the calls before it
abbrev Fits : List Step × Step → Type 0
Fits p = IsDue p.0 p.1.0 p.1.1

pub IsLegalSwitch-nil : IsLegalSwitch []
unfolding IsLegalSwitch with_earlier
IsLegalSwitch-nil = All-nil Fits

-- a legal history and a call with an answer that it is due are a legal history
pub IsLegalSwitch-push : (h : List Step) (step : Step)
    → IsLegalSwitch h
    → IsDue h step.0 step.1
    → IsLegalSwitch (h ++ step ∷ [])
unfolding IsLegalSwitch
IsLegalSwitch-push h step legal due =
    rw with_earlier-push (All-push Fits (with_earlier h) (h, step) legal due)

-- and the other way round
pub IsLegalSwitch-pushed : (h : List Step) (step : Step)
    → IsLegalSwitch (h ++ step ∷ [])
    → IsLegalSwitch h × IsDue h step.0 step.1
unfolding IsLegalSwitch
IsLegalSwitch-pushed h step legal =
    All-pushed Fits (with_earlier h) (h, step) (rw with_earlier-push at legal)

-- ---- the connections that were let in

pub openings-push : (es : List Event) (e : Event)
    → openings (es ++ e ∷ []) ≡ openings es ++ cons_option (opening e) []
unfolding openings
openings-push es e = filter_map-append opening es (e ∷ [])

all-push : (P : ℕ → Type 0) (xs : List ℕ) (x : ℕ) → AllByRecursion P xs → P x
    → AllByRecursion P (xs ++ x ∷ [])
all-push P [] x all is = (is, tt)
all-push P (y ∷ xs) x all is = (all.0, all-push P xs x all.1 is)

distinct-push : (xs : List ℕ) (x : ℕ) → IsDistinct nat_eq xs
    → list_any (λ c. nat_eq c x) xs ≡ false
    → IsDistinct nat_eq (xs ++ x ∷ [])
unfolding IsDistinct
distinct-push [] x apart new = (tt, tt)
distinct-push (y ∷ xs) x apart new =
    let parts = or_parts (nat_eq y x) (list_any (λ c. nat_eq c x) xs) new in (
      all-push (λ c. nat_eq y c ≡ false) xs x apart.0 parts.0,
      distinct-push xs x apart.1 parts.1,
    )

-- an event that lets in no connection a second time
pub is-new : (es : List Event) (e : Event) → is_repeat es e ≡ false → IsNew es e
is-new es (Event.Opened conn session role reply) once = once
is-new es (Event.Binary conn bytes) once = tt
is-new es (Event.Gone conn) once = tt
is-new es (Event.EndSession session) once = tt

same-openings : (es : List Event) (e : Event) → cons_option (opening e) [] ≡ []
    → openings (es ++ e ∷ []) ≡ openings es
same-openings es e none =
    openings-push es e ∙ ap (λ more. openings es ++ more) none ∙ append-nil (openings es)

pub AreNew-push : (es : List Event) (e : Event) → AreNew es → is_repeat es e ≡ false
    → AreNew (es ++ e ∷ [])
AreNew-push es (Event.Opened conn session role reply) new once =
    subst (IsDistinct nat_eq) (sym (openings-push es (Event.Opened conn session role reply)))
    (distinct-push (openings es) conn new once)
AreNew-push es (Event.Binary conn bytes) new once =
    subst (IsDistinct nat_eq) (sym (same-openings es (Event.Binary conn bytes) refl)) new
AreNew-push es (Event.Gone conn) new once =
    subst (IsDistinct nat_eq) (sym (same-openings es (Event.Gone conn) refl)) new
AreNew-push es (Event.EndSession session) new once =
    subst (IsDistinct nat_eq) (sym (same-openings es (Event.EndSession session) refl)) new

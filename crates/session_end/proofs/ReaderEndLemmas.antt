-- How a link reader ended is told by one of its steps.
use Rattle.std.proofs.Common.{◌≡◌, ◌⊎◌, inl, inr, ℕ, Bool, true, false, Option, Some, None, List, [], ◌∷◌, ◌++◌, nat_lt, length, refl, ap, ◌∙◌, subst}
use Rattle.std.specs.Prelude.{◌||◌, ◌==◌, if◌then◌else◌}
use Rattle.std.specs.List.{flat_map, fold, list_any}
use Rattle.std.proofs.lemmas.List.Folds.{list_any-append}
use Rattle.channel_core.specs.declared.answer.Heard.{Heard}
use Rattle.channel_core.specs.declared.answer.Look.{Look}
use Rattle.channel_core.specs.declared.call.EndAnswer.{EndAnswer}
use Rattle.channel_core.specs.declared.call.EndCall.{EndCall}
use Rattle.turn_lock.specs.Runs.{AllFit}
use Rattle.session_workers.specs.declared.link_setting.LinkSetting.{LinkSetting}
use Rattle.session_workers.specs.declared.read_state.ReadEnd.{ReadEnd}
use Rattle.session_workers.specs.declared.read_state.ReadState.{ReadState}
use Rattle.session_workers.specs.ReaderLaws.{AreSteps, state_after}
use Rattle.session_workers.specs.ReaderSteps.{MayRead, first_state, heard_end, meeting_end, reader_after, released_end}
use Rattle.session_workers.specs.Reading.{Met, ReaderStep, arrived, dials, drops, finishes, full, gets, hears, looks, loses, meeting_calls, misses, opens, passes, reader_calls, refuses, starves, unread, wants}
use Rattle.session_end.specs.Causes.{IsRefused, is_ended}
use Rattle.session_end.proofs.ClosedLemmas.{tells_closed}
use Rattle.session_end.proofs.HistoryLemmas.{or_left, or_right}

-- whether an answer tells that the end is closed, or closes it
abbrev pub tells : EndCall × EndAnswer → Bool
tells c = is_ended c.1 || tells_closed c.1

-- how a step ends the reader, if it does: where it was told that the end is closed, or wanted
-- memory
data EndsBy (over : Option ReadEnd) (told : Bool) : Type 0 where
  goes_on : over ≡ None → EndsBy over told
  wanted : over ≡ Some ReadEnd.NoMemory → EndsBy over told
  closed : over ≡ Some ReadEnd.Closed → told ≡ true → EndsBy over told

abbrev heard_tells : Heard → Bool
heard_tells heard = tells (EndCall.Look, EndAnswer.Heard heard) || false

heard_ends : (heard : Heard) → EndsBy (heard_end heard) (heard_tells heard)
heard_ends Heard.Ended = closed refl refl
heard_ends Heard.AfterClose = closed refl refl
heard_ends (Heard.NoMemory incoming) = wanted refl
heard_ends (Heard.Released items) = goes_on refl
heard_ends (Heard.Finished items) = goes_on refl
heard_ends Heard.Late = goes_on refl
heard_ends Heard.Beyond = goes_on refl
heard_ends (Heard.PastEnd seq) = goes_on refl
heard_ends (Heard.Acked seq) = goes_on refl
heard_ends (Heard.UnknownAck seq) = goes_on refl
heard_ends Heard.Paused = goes_on refl
heard_ends Heard.Started = goes_on refl

cut_ends : (b told : Bool) → EndsBy (if b then Some ReadEnd.NoMemory else None) told
cut_ends true told = wanted refl
cut_ends false told = goes_on refl

released_ends : (heard : Heard) (added : ℕ) → EndsBy (released_end heard added) (heard_tells heard)
released_ends (Heard.Released items) added =
    cut_ends (nat_lt added (length (arrived items false))) false
released_ends (Heard.Finished items) added =
    cut_ends (nat_lt added (length (arrived items true))) false
released_ends Heard.Ended added = closed refl refl
released_ends Heard.AfterClose added = closed refl refl
released_ends (Heard.NoMemory incoming) added = wanted refl
released_ends Heard.Late added = goes_on refl
released_ends Heard.Beyond added = goes_on refl
released_ends (Heard.PastEnd seq) added = goes_on refl
released_ends (Heard.Acked seq) added = goes_on refl
released_ends (Heard.UnknownAck seq) added = goes_on refl
released_ends Heard.Paused added = goes_on refl
released_ends Heard.Started added = goes_on refl

meeting_ends : (met : Met) → EndsBy (meeting_end met) (list_any tells (meeting_calls met))
meeting_ends (hears now count incoming heard added) = released_ends heard added
meeting_ends (drops refusal) = goes_on refl
meeting_ends (full incoming count) = goes_on refl
meeting_ends starves = wanted refl

told_by : (over : Option ReadEnd) (told : Bool) → EndsBy over told → over ≡ Some ReadEnd.Closed
    → told ≡ true
told_by over told (goes_on none) is = absurd (cc)
told_by over told (wanted memory) is = absurd (cc)
told_by over told (closed end so) is = so

not_refused : (over : Option ReadEnd) (told : Bool) (reply : List ℕ) → EndsBy over told
    → over ≡ Some (ReadEnd.Refused reply)
    → ⊥
not_refused over told reply (goes_on none) is = cc
not_refused over told reply (wanted memory) is = cc
not_refused over told reply (closed end so) is = cc

-- ---- a reader that found the end closed

missed : (b : Bool) (over : Option ReadEnd)
    → Path (Option ReadEnd) (if b then Some ReadEnd.LinkLost else over) (Some ReadEnd.Closed)
    → over ≡ Some ReadEnd.Closed
missed true over is = absurd (cc)
missed false over is = is

looked : (look : Look) (over : Option ReadEnd) (b : Bool) → look.closed ≡ b
    → Path (Option ReadEnd) (if b then Some ReadEnd.Closed else over) (Some ReadEnd.Closed)
    → (over ≡ Some ReadEnd.Closed) ⊎ (list_any tells (reader_calls (looks look)) ≡ true)
looked look over true so is = inr (ap (λ (b : Bool). b || false) so)
looked look over false so is = inl is

one_closed : (s : ReadState) (step : ReaderStep)
    → (reader_after s step).over ≡ Some ReadEnd.Closed
    → (s.over ≡ Some ReadEnd.Closed) ⊎ (list_any tells (reader_calls step) ≡ true)
one_closed s (misses opening) is = inl (missed (s.tries == 0) s.over is)
one_closed s (dials opening reply (opens now token)) is = inl is
one_closed s (dials opening reply (finishes now heard)) is =
    inr (told_by (heard_end heard) (heard_tells heard) (heard_ends heard) is)
one_closed s (dials opening reply refuses) is = absurd (cc)
one_closed s (dials opening reply unread) is = absurd (cc)
one_closed s (gets bytes met) is =
    inr (told_by (meeting_end met) (list_any tells (meeting_calls met)) (meeting_ends met) is)
one_closed s (passes text) is = inl is
one_closed s (loses got) is = inl is
one_closed s (looks look) is = looked look s.over look.closed refl is
one_closed s wants is = absurd (cc)

-- it was closed before these steps, or one of them was told so
abbrev ClosedIn : ReadState → List ReaderStep → Type 0
ClosedIn s steps =
    (s.over ≡ Some ReadEnd.Closed) ⊎ (list_any tells (flat_map reader_calls steps) ≡ true)

closed_first : (s : ReadState) (step : ReaderStep) (steps : List ReaderStep)
    → ((s.over ≡ Some ReadEnd.Closed) ⊎ (list_any tells (reader_calls step) ≡ true))
    → ClosedIn s (step ∷ steps)
closed_first s step steps (inl before) = inl before
closed_first s step steps (inr told) =
    inr
    (list_any-append tells (reader_calls step) (flat_map reader_calls steps)
    ∙ or_left (list_any tells (reader_calls step))
    (list_any tells (flat_map reader_calls steps)) told)

closed_later : (s : ReadState) (step : ReaderStep) (steps : List ReaderStep)
    → ClosedIn (reader_after s step) steps
    → ClosedIn s (step ∷ steps)
closed_later s step steps (inl here) = closed_first s step steps (one_closed s step here)
closed_later s step steps (inr told) =
    inr
    (list_any-append tells (reader_calls step) (flat_map reader_calls steps)
    ∙ or_right (list_any tells (reader_calls step))
    (list_any tells (flat_map reader_calls steps)) told)

all_closed : (s : ReadState) (steps : List ReaderStep)
    → (fold reader_after s steps).over ≡ Some ReadEnd.Closed
    → ClosedIn s steps
all_closed s [] is = inl is
all_closed s (step ∷ steps) is =
    closed_later s step steps (all_closed (reader_after s step) steps is)

closed_from_first : (token : List ℕ) (steps : List ReaderStep)
    → ClosedIn (first_state token) steps
    → list_any tells (flat_map reader_calls steps) ≡ true
closed_from_first token steps (inl never) = absurd (cc)
closed_from_first token steps (inr told) = told

-- a reader that found the end closed was told so
pub closed_is_told : (token : List ℕ) (steps : List ReaderStep)
    → (state_after token steps).over ≡ Some ReadEnd.Closed
    → list_any tells (flat_map reader_calls steps) ≡ true
closed_is_told token steps is =
    closed_from_first token steps (all_closed (first_state token) steps is)

-- ---- a reader that was refused

unmissed : (b : Bool) (over : Option ReadEnd) (reply : List ℕ)
    → Path (Option ReadEnd) (if b then Some ReadEnd.LinkLost else over)
    (Some (ReadEnd.Refused reply))
    → over ≡ Some (ReadEnd.Refused reply)
unmissed true over reply is = absurd (cc)
unmissed false over reply is = is

unlooked : (b : Bool) (over : Option ReadEnd) (reply : List ℕ)
    → Path (Option ReadEnd) (if b then Some ReadEnd.Closed else over)
    (Some (ReadEnd.Refused reply))
    → over ≡ Some (ReadEnd.Refused reply)
unlooked true over reply is = absurd (cc)
unlooked false over reply is = is

one_refused : (s : ReadState) (step : ReaderStep) (reply : List ℕ)
    → (reader_after s step).over ≡ Some (ReadEnd.Refused reply)
    → (s.over ≡ Some (ReadEnd.Refused reply))
    ⊎ ((opening : List ℕ) × (step ≡ dials opening reply refuses))
one_refused s (misses opening) reply is = inl (unmissed (s.tries == 0) s.over reply is)
one_refused s (dials opening other (opens now token)) reply is = inl is
one_refused s (dials opening other (finishes now heard)) reply is =
    absurd (not_refused (heard_end heard) (heard_tells heard) reply (heard_ends heard) is)
one_refused s (dials opening other refuses) reply is =
    let same : other ≡ reply = cc in
    inr (opening, ap (λ (r : List ℕ). dials opening r refuses) same)
one_refused s (dials opening other unread) reply is = absurd (cc)
one_refused s (gets bytes met) reply is =
    absurd
    (not_refused (meeting_end met) (list_any tells (meeting_calls met)) reply
    (meeting_ends met) is)
one_refused s (passes text) reply is = inl is
one_refused s (loses got) reply is = inl is
one_refused s (looks look) reply is = inl (unlooked look.closed s.over reply is)
one_refused s wants reply is = absurd (cc)

-- the step that was refused, with what the steps before it come to
record Refusal (setting : LinkSetting) (s : ReadState) (steps : List ReaderStep) (reply : List ℕ)
    : Type 0 where
  earlier : List ReaderStep
  opening : List ℕ
  later : List ReaderStep
  parts : steps ≡ earlier ++ dials opening reply refuses ∷ later
  may : MayRead setting (fold reader_after s earlier) (dials opening reply refuses)

-- it was refused before these steps, or in one of them
abbrev RefusedIn : LinkSetting → ReadState → List ReaderStep → List ℕ → Type 0
RefusedIn setting s steps reply =
    (s.over ≡ Some (ReadEnd.Refused reply)) ⊎ Refusal setting s steps reply

refused_first : (setting : LinkSetting) (s : ReadState) (step : ReaderStep)
    (steps : List ReaderStep) (reply : List ℕ)
    → MayRead setting s step
    → ((s.over ≡ Some (ReadEnd.Refused reply))
    ⊎ ((opening : List ℕ) × (step ≡ dials opening reply refuses)))
    → RefusedIn setting s (step ∷ steps) reply
refused_first setting s step steps reply may (inl before) = inl before
refused_first setting s step steps reply may (inr at) =
    inr
    (record {
      earlier = [];
      opening = at.0;
      later = steps;
      parts = ap (λ (x : ReaderStep). x ∷ steps) at.1;
      may = subst (MayRead setting s) at.1 may;
    })

refused_later : (setting : LinkSetting) (s : ReadState) (step : ReaderStep)
    (steps : List ReaderStep) (reply : List ℕ)
    → MayRead setting s step
    → RefusedIn setting (reader_after s step) steps reply
    → RefusedIn setting s (step ∷ steps) reply
refused_later setting s step steps reply may (inl here) =
    refused_first setting s step steps reply may (one_refused s step reply here)
refused_later setting s step steps reply may (inr at) =
    inr
    (record {
      earlier = step ∷ at.earlier;
      opening = at.opening;
      later = at.later;
      parts = ap (λ (l : List ReaderStep). step ∷ l) at.parts;
      may = at.may;
    })

all_refused : (setting : LinkSetting) (s : ReadState) (steps : List ReaderStep) (reply : List ℕ)
    → AllFit reader_after (MayRead setting) s steps
    → (fold reader_after s steps).over ≡ Some (ReadEnd.Refused reply)
    → RefusedIn setting s steps reply
all_refused setting s [] reply all is = inl is
all_refused setting s (step ∷ steps) reply all is =
    refused_later setting s step steps reply all.0
    (all_refused setting (reader_after s step) steps reply all.1 is)

refused_from_first : (setting : LinkSetting) (token : List ℕ) (steps : List ReaderStep)
    (reply : List ℕ)
    → RefusedIn setting (first_state token) steps reply
    → IsRefused token steps reply
refused_from_first setting token steps reply (inl never) = absurd (cc)
refused_from_first setting token steps reply (inr at) = record {
  earlier = at.earlier;
  opening = at.opening;
  later = at.later;
  parts = at.parts;
  said = at.may.3;
}

-- a reader that was refused had that reply
pub refused_is_replied : (setting : LinkSetting) (token : List ℕ) (steps : List ReaderStep)
    (reply : List ℕ)
    → AreSteps setting token steps
    → (state_after token steps).over ≡ Some (ReadEnd.Refused reply)
    → IsRefused token steps reply
refused_is_replied setting token steps reply all is =
    refused_from_first setting token steps reply
    (all_refused setting (first_state token) steps reply all is)

-- A worker in whose calls memory was wanted ended so.
use Rattle.std.proofs.Common.{◌≡◌, ◌⊎◌, inl, inr, ℕ, ◌<◌, Bool, true, false, Option, Some, None, List, [], ◌∷◌, ◌++◌, drop, take, map, length, ltb, refl, sym, ap, ◌∙◌, arith}
use Rattle.std.specs.Prelude.{if◌then◌else◌}
use Rattle.std.specs.List.{flat_map, fold, list_any}
use Rattle.std.proofs.lemmas.Bool.{ltb-false, ltb-true}
use Rattle.std.proofs.lemmas.List.{drop_all}
use Rattle.std.proofs.lemmas.List.Folds.{list_any-append}
use Rattle.chan_values.specs.declared.side.Side.{Side}
use Rattle.channel_core.specs.declared.answer.Heard.{Heard}
use Rattle.channel_core.specs.declared.call.EndAnswer.{EndAnswer}
use Rattle.channel_core.specs.declared.call.EndCall.{EndCall}
use Rattle.turn_lock.specs.Runs.{AllFit}
use Rattle.session_run.specs.declared.parcel.Parcel.{Parcel}
use Rattle.session_run.specs.declared.shelf_call.Count.{Count}
use Rattle.session_run.specs.declared.shelf_call.ShelfAnswer.{ShelfAnswer}
use Rattle.session_run.specs.declared.shelf_call.ShelfCall.{ShelfCall}
use Rattle.session_workers.specs.declared.link_setting.LinkSetting.{LinkSetting}
use Rattle.session_workers.specs.declared.read_state.ReadEnd.{ReadEnd}
use Rattle.session_workers.specs.declared.read_state.ReadState.{ReadState}
use Rattle.session_workers.specs.ReaderSteps.{MayRead, added_end, reader_after}
use Rattle.session_workers.specs.Reading.{ReaderStep, added_call, adding, arrived, counted, dials, finishes, full, gets, hears, looks, loses, misses, opens, passes, reader_calls, reader_shelf_calls, wanting_call, wants}
use Rattle.session_workers.specs.WriterRuns.{MayTurn, Progress, progress}
use Rattle.session_workers.specs.Writing.{WriterTurn, counting_again, emits, end_calls, idles, shelf_calls, starves}
use Rattle.session_end.specs.Causes.{is_shelf_wanting, is_wanting}
use Rattle.session_end.proofs.HistoryLemmas.{none_append, none_each, or_cases}

abbrev pub wanting : EndCall × EndAnswer → Bool
wanting c = is_wanting c.1

abbrev pub shelf_wanting : ShelfCall × ShelfAnswer → Bool
shelf_wanting c = is_shelf_wanting c.1

-- ---- nothing is done behind an end

may_on : (setting : LinkSetting) (s : ReadState) (step : ReaderStep) → MayRead setting s step
    → s.over ≡ None
may_on setting s (misses opening) may = may.0
may_on setting s (dials opening reply taken) may = may.0
may_on setting s (gets bytes met) may = may.0
may_on setting s (passes text) may = may.0
may_on setting s (loses got) may = may.0
may_on setting s (looks look) may = may
may_on setting s wants may = may

stays_over : (setting : LinkSetting) (s : ReadState) (end : ReadEnd) (steps : List ReaderStep)
    → s.over ≡ Some end
    → AllFit reader_after (MayRead setting) s steps
    → (fold reader_after s steps).over ≡ Some end
stays_over setting s end [] over all = over
stays_over setting s end (step ∷ steps) over all =
    let on : s.over ≡ None = may_on setting s step all.0 in absurd (cc)

-- ---- the calls of the end

one_wants : (s : ReadState) (step : ReaderStep) → list_any wanting (reader_calls step) ≡ true
    → (reader_after s step).over ≡ Some ReadEnd.NoMemory
one_wants s (dials opening reply (finishes now (Heard.NoMemory incoming))) is = refl
one_wants s (gets bytes (hears now count incoming (Heard.NoMemory other) added)) is = refl
one_wants s step is = absurd (cc)

module _ (setting : LinkSetting) where
  wants_by : (s : ReadState) (step : ReaderStep) (steps : List ReaderStep)
      → AllFit reader_after (MayRead setting) (reader_after s step) steps
      → (list_any wanting (flat_map reader_calls steps) ≡ true
      → (fold reader_after (reader_after s step) steps).over ≡ Some ReadEnd.NoMemory)
      → ((list_any wanting (reader_calls step) ≡ true)
      ⊎ (list_any wanting (flat_map reader_calls steps) ≡ true))
      → (fold reader_after (reader_after s step) steps).over ≡ Some ReadEnd.NoMemory
  wants_by s step steps all more (inl here) =
      stays_over setting (reader_after s step) ReadEnd.NoMemory steps (one_wants s step here) all
  wants_by s step steps all more (inr there) = more there

  -- memory was wanted in a call of the end
  pub reader_wants : (s : ReadState) (steps : List ReaderStep)
      → AllFit reader_after (MayRead setting) s steps
      → list_any wanting (flat_map reader_calls steps) ≡ true
      → (fold reader_after s steps).over ≡ Some ReadEnd.NoMemory
  reader_wants s [] all is = absurd (cc)
  reader_wants s (step ∷ steps) all is =
      wants_by s step steps all.1 (reader_wants (reader_after s step) steps all.1)
      (or_cases (list_any wanting (reader_calls step))
      (list_any wanting (flat_map reader_calls steps))
      (sym (list_any-append wanting (reader_calls step) (flat_map reader_calls steps)) ∙ is))

-- ---- the calls of the shelf

added_none : (parcels : List Parcel) → list_any shelf_wanting (map added_call parcels) ≡ false
added_none [] = refl
added_none (parcel ∷ parcels) = added_none parcels

counted_none : (count : Option Count) → list_any shelf_wanting (counted count) ≡ false
counted_none None = refl
counted_none (Some count) = refl

-- where memory was wanted for a parcel, fewer than all were added
adding_short : (parcels : List Parcel) (added : ℕ) (b : Bool)
    → ltb added (length parcels) ≡ b
    → list_any shelf_wanting (adding parcels added) ≡ true
    → b ≡ true
adding_short parcels added true is wanted = refl
adding_short parcels added false is wanted =
    let past = ltb-false added (length parcels) is in
    let rest : drop added parcels ≡ [] = drop_all added parcels past in
    let none : list_any shelf_wanting (adding parcels added) ≡ false =
    none_append shelf_wanting (map added_call (take added parcels))
    (map wanting_call (take 1 (drop added parcels))) (added_none (take added parcels))
    (ap (λ (l : List Parcel). list_any shelf_wanting (map wanting_call (take 1 l))) rest) in
    sym none ∙ wanted

counted_or : (parcels : List Parcel) (added : ℕ) (count : Option Count)
    → ((list_any shelf_wanting (counted count) ≡ true)
    ⊎ (list_any shelf_wanting (adding parcels added) ≡ true))
    → ltb added (length parcels) ≡ true
counted_or parcels added count (inl never) =
    let none = counted_none count in absurd (cc)
counted_or parcels added count (inr here) =
    adding_short parcels added (ltb added (length parcels)) refl here

cut_short : (parcels : List Parcel) (added : ℕ) (count : Option Count)
    → list_any shelf_wanting (counted count ++ adding parcels added) ≡ true
    → ltb added (length parcels) ≡ true
cut_short parcels added count is =
    counted_or parcels added count
    (or_cases (list_any shelf_wanting (counted count))
    (list_any shelf_wanting (adding parcels added))
    (sym (list_any-append shelf_wanting (counted count) (adding parcels added)) ∙ is))

released_short : (parcels : List Parcel) (added : ℕ) (count : Option Count)
    → list_any shelf_wanting (counted count ++ adding parcels added) ≡ true
    → added_end parcels added ≡ Some ReadEnd.NoMemory
released_short parcels added count is =
    ap (λ (b : Bool). if b then Some ReadEnd.NoMemory else None)
    (cut_short parcels added count is)

nothing_short : (added : ℕ) (count : Option Count)
    → list_any shelf_wanting (counted count ++ adding [] added) ≡ true
    → ⊥
nothing_short added count is =
    let short : ltb added 0 ≡ true = cut_short [] added count is in
    let below : added < 0 = ltb-true added 0 short in
    omega arith

one_shelf_wants : (s : ReadState) (step : ReaderStep)
    → list_any shelf_wanting (reader_shelf_calls step) ≡ true
    → (reader_after s step).over ≡ Some ReadEnd.NoMemory
one_shelf_wants s (gets bytes (hears now count incoming (Heard.Released items) added)) is =
    released_short (arrived items false) added count is
one_shelf_wants s (gets bytes (hears now count incoming (Heard.Finished items) added)) is =
    released_short (arrived items true) added count is
one_shelf_wants s (gets bytes (hears now count incoming (Heard.NoMemory other) added)) is = refl
one_shelf_wants s (gets bytes (hears now count incoming heard added)) is =
    absurd (nothing_short added count is)
one_shelf_wants s (gets bytes (full incoming count)) is =
    let none = counted_none count in absurd (cc)
one_shelf_wants s (dials opening reply (opens now token)) is = absurd (cc)
one_shelf_wants s step is = absurd (cc)

module _ (setting : LinkSetting) where
  shelf_wants_by : (s : ReadState) (step : ReaderStep) (steps : List ReaderStep)
      → AllFit reader_after (MayRead setting) (reader_after s step) steps
      → (list_any shelf_wanting (flat_map reader_shelf_calls steps) ≡ true
      → (fold reader_after (reader_after s step) steps).over ≡ Some ReadEnd.NoMemory)
      → ((list_any shelf_wanting (reader_shelf_calls step) ≡ true)
      ⊎ (list_any shelf_wanting (flat_map reader_shelf_calls steps) ≡ true))
      → (fold reader_after (reader_after s step) steps).over ≡ Some ReadEnd.NoMemory
  shelf_wants_by s step steps all more (inl here) =
      stays_over setting (reader_after s step) ReadEnd.NoMemory steps
      (one_shelf_wants s step here) all
  shelf_wants_by s step steps all more (inr there) = more there

  -- memory was wanted in a call of the shelf
  pub reader_shelf_wants : (s : ReadState) (steps : List ReaderStep)
      → AllFit reader_after (MayRead setting) s steps
      → list_any shelf_wanting (flat_map reader_shelf_calls steps) ≡ true
      → (fold reader_after s steps).over ≡ Some ReadEnd.NoMemory
  reader_shelf_wants s [] all is = absurd (cc)
  reader_shelf_wants s (step ∷ steps) all is =
      shelf_wants_by s step steps all.1 (reader_shelf_wants (reader_after s step) steps all.1)
      (or_cases (list_any shelf_wanting (reader_shelf_calls step))
      (list_any shelf_wanting (flat_map reader_shelf_calls steps))
      (sym
      (list_any-append shelf_wanting (reader_shelf_calls step)
      (flat_map reader_shelf_calls steps))
      ∙ is))

-- ---- the link writer

module _ (side : Side) where
  stays_starved : (p : Progress) (turns : List WriterTurn)
      → p.over ≡ true
      → p.starved ≡ true
      → AllFit (progress side) (MayTurn side) p turns
      → (fold (progress side) p turns).starved ≡ true
  stays_starved p [] over starved all = starved
  stays_starved p (turn ∷ turns) over starved all =
      let on : p.over ≡ false = all.0.0 in absurd (cc)

  turn_wants : (p : Progress) (turn : WriterTurn) → list_any wanting (end_calls turn) ≡ true
      → ((progress side p turn).over ≡ true) × ((progress side p turn).starved ≡ true)
  turn_wants p (starves now) is = (refl, refl)
  turn_wants p turn is = absurd (cc)

  turns_want_by : (p : Progress) (turn : WriterTurn) (turns : List WriterTurn)
      → AllFit (progress side) (MayTurn side) (progress side p turn) turns
      → (list_any wanting (flat_map end_calls turns) ≡ true
      → (fold (progress side) (progress side p turn) turns).starved ≡ true)
      → ((list_any wanting (end_calls turn) ≡ true)
      ⊎ (list_any wanting (flat_map end_calls turns) ≡ true))
      → (fold (progress side) (progress side p turn) turns).starved ≡ true
  turns_want_by p turn turns all more (inl here) =
      let ends = turn_wants p turn here in
      stays_starved (progress side p turn) turns ends.0 ends.1 all
  turns_want_by p turn turns all more (inr there) = more there

  -- memory was wanted in a call of the end
  pub writer_wants : (p : Progress) (turns : List WriterTurn)
      → AllFit (progress side) (MayTurn side) p turns
      → list_any wanting (flat_map end_calls turns) ≡ true
      → (fold (progress side) p turns).starved ≡ true
  writer_wants p [] all is = absurd (cc)
  writer_wants p (turn ∷ turns) all is =
      turns_want_by p turn turns all.1 (writer_wants (progress side p turn) turns all.1)
      (or_cases (list_any wanting (end_calls turn))
      (list_any wanting (flat_map end_calls turns))
      (sym (list_any-append wanting (end_calls turn) (flat_map end_calls turns)) ∙ is))

again_none : (count : Option Count) → list_any shelf_wanting (counting_again count) ≡ false
again_none None = refl
again_none (Some count) = refl

shelf_none : (turn : WriterTurn) → list_any shelf_wanting (shelf_calls turn) ≡ false
shelf_none (emits now out sent) = refl
shelf_none (idles now i) = again_none i.again
shelf_none (starves now) = refl

-- a link writer only counts the shelf
pub writer_shelf_none : (turns : List WriterTurn)
    → list_any shelf_wanting (flat_map shelf_calls turns) ≡ false
writer_shelf_none turns = none_each shelf_wanting shelf_calls turns shelf_none

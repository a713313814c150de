-- A run's end gave up the number that a tick of the resend worker gave up.
use Rattle.std.proofs.Common.{◌≡◌, ◌⊎◌, inl, inr, ℕ, Bool, true, false, eq-eqb, Option, Some, None, List, [], ◌∷◌, ◌++◌, refl, ◌∙◌}
use Rattle.std.specs.List.{flat_map, fold, list_any}
use Rattle.std.proofs.lemmas.List.Folds.{list_any-append}
use Rattle.channel_core.specs.declared.answer.Tick.{Tick}
use Rattle.channel_core.specs.declared.call.EndAnswer.{EndAnswer}
use Rattle.channel_core.specs.declared.call.EndCall.{EndCall}
use Rattle.channel_core.specs.Numbers.{or_else}
use Rattle.turn_lock.specs.declared.view.Entry.{Entry}
use Rattle.session_workers.specs.ReaderRuns.{reader_closing}
use Rattle.session_workers.specs.Reading.{ReaderStep, dials, gets, hears, opens, reader_calls}
use Rattle.session_workers.specs.ResendRuns.{Resent, none_resent, resent_after}
use Rattle.session_workers.specs.Resends.{ResendTurn, gave_up, resend_calls}
use Rattle.session_workers.specs.Writing.{WriterTurn, emits, end_calls, idles, starves}
use Rattle.session_end.specs.Causes.{GaveUp, gives_up, is_giving_up}
use Rattle.session_end.specs.Deeds.{Deeds, early_closes, end_parts, read_end, served_calls}
use Rattle.session_end.specs.WorkerParts.{resent_by}
use Rattle.session_end.specs.Parts.{IsMadeOf, entries_in}
use Rattle.session_end.specs.Ran.{closing_of}
use Rattle.session_end.specs.Starts.{closing}
use Rattle.session_end.proofs.CloseLemmas.{early_none, reader_none, writer_none}
use Rattle.session_end.proofs.DeliveryLemmas.{served_none_at_all}
use Rattle.session_end.proofs.HistoryLemmas.{later_in, none_append, none_each, none_in, none_in_both, none_in_four, or_left, or_none, or_right, same_any, some_in}

abbrev pub gives : ℕ → EndCall × EndAnswer → Bool
gives n c = gives_up n c.1

abbrev pub giving : EndCall × EndAnswer → Bool
giving c = is_giving_up c.1

-- ---- the resend worker

tick_none : (tick : Tick) → gave_up tick ≡ None
    → is_giving_up (EndAnswer.Tick tick) ≡ false
tick_none (Tick.GaveUp n) is = absurd (cc)
tick_none Tick.Nothing is = refl
tick_none (Tick.Due n) is = refl

both_none : (one other : Option ℕ) → or_else one other ≡ None → (one ≡ None) × (other ≡ None)
both_none (Some n) other is = absurd (cc)
both_none None other is = (refl, is)

ticks_none : (s : Resent) (ticks : List ResendTurn)
    → (fold resent_after s ticks).gave_up ≡ None
    → (s.gave_up ≡ None) × (list_any giving (flat_map resend_calls ticks) ≡ false)
ticks_none s [] is = (is, refl)
ticks_none s (t ∷ ticks) is =
    let rest = ticks_none (resent_after s t) ticks is in
    let both = both_none s.gave_up (gave_up t.tick) rest.0 in (
      both.0,
      none_append giving (resend_calls t) (flat_map resend_calls ticks)
          (or_none (is_giving_up (EndAnswer.Tick t.tick)) false
          (tick_none t.tick both.1) refl)
          rest.1,
    )

tick_some : (tick : Tick) (n : ℕ) → gave_up tick ≡ Some n
    → gives_up n (EndAnswer.Tick tick) ≡ true
tick_some (Tick.GaveUp m) n is = let same : m ≡ n = cc in eq-eqb m n same
tick_some Tick.Nothing n is = absurd (cc)
tick_some (Tick.Due m) n is = absurd (cc)

one_some : (one other : Option ℕ) (n : ℕ) → or_else one other ≡ Some n
    → (one ≡ Some n) ⊎ (other ≡ Some n)
one_some (Some m) other n is = inl is
one_some None other n is = inr is

-- the number was given up before these ticks, or by one of them
abbrev GivenIn : Resent → List ResendTurn → ℕ → Type 0
GivenIn s ticks n =
    (s.gave_up ≡ Some n) ⊎ (list_any (gives n) (flat_map resend_calls ticks) ≡ true)

given_first : (s : Resent) (t : ResendTurn) (ticks : List ResendTurn) (n : ℕ)
    → ((s.gave_up ≡ Some n) ⊎ (gave_up t.tick ≡ Some n))
    → GivenIn s (t ∷ ticks) n
given_first s t ticks n (inl before) = inl before
given_first s t ticks n (inr here) =
    inr
    (list_any-append (gives n) (resend_calls t) (flat_map resend_calls ticks)
    ∙ or_left (list_any (gives n) (resend_calls t))
    (list_any (gives n) (flat_map resend_calls ticks))
    (or_left (gives_up n (EndAnswer.Tick t.tick)) false (tick_some t.tick n here)))

given_later : (s : Resent) (t : ResendTurn) (ticks : List ResendTurn) (n : ℕ)
    → GivenIn (resent_after s t) ticks n
    → GivenIn s (t ∷ ticks) n
given_later s t ticks n (inl here) =
    given_first s t ticks n (one_some s.gave_up (gave_up t.tick) n here)
given_later s t ticks n (inr there) =
    inr
    (list_any-append (gives n) (resend_calls t) (flat_map resend_calls ticks)
    ∙ or_right (list_any (gives n) (resend_calls t))
    (list_any (gives n) (flat_map resend_calls ticks)) there)

ticks_some : (s : Resent) (ticks : List ResendTurn) (n : ℕ)
    → (fold resent_after s ticks).gave_up ≡ Some n
    → GivenIn s ticks n
ticks_some s [] n is = inl is
ticks_some s (t ∷ ticks) n is =
    given_later s t ticks n (ticks_some (resent_after s t) ticks n is)

-- ---- the others give up nothing

step_none : (step : ReaderStep) → list_any giving (reader_calls step) ≡ false
step_none (dials opening reply (opens now token)) = refl
step_none (gets bytes (hears now count incoming heard added)) = refl
step_none step = refl

turn_none : (turn : WriterTurn) → list_any giving (end_calls turn) ≡ false
turn_none (emits now out sent) = refl
turn_none (idles now i) = refl
turn_none (starves now) = refl

abbrev given_entry : Entry EndCall EndAnswer → Bool
given_entry e = is_giving_up e.answer

abbrev gives_entry : ℕ → Entry EndCall EndAnswer → Bool
gives_entry n e = gives_up n e.answer

module _ (token : List ℕ) (d : Deeds) where
  -- no entry gives up a number where no tick did
  parts_none : (resent_by d.ticks).gave_up ≡ None
      → list_any given_entry (entries_in (end_parts token d)) ≡ false
  parts_none is =
      none_in_four given_entry d.main d.reader d.writer d.resender
      (early_closes d.written (resent_by d.ticks).over (read_end token d) d.delivery.ended)
      (flat_map reader_calls d.steps ++ reader_closing (read_end token d))
      (flat_map end_calls d.turns ++ closing_of d.written)
      (flat_map resend_calls d.ticks)
      (served_calls d ++ (d.main, closing ∷ []) ∷ [])
      (early_none giving refl d.written (resent_by d.ticks).over (read_end token d)
      d.delivery.ended)
      (none_append giving (flat_map reader_calls d.steps) (reader_closing (read_end token d))
      (none_each giving reader_calls d.steps step_none)
      (reader_none giving refl (read_end token d)))
      (none_append giving (flat_map end_calls d.turns) (closing_of d.written)
      (none_each giving end_calls d.turns turn_none) (writer_none giving refl d.written))
      (ticks_none none_resent d.ticks is).1
      (none_in_both given_entry (served_calls d) ((d.main, closing ∷ []) ∷ [])
      (served_none_at_all giving (λ last item id now put. refl) (λ look. refl) refl d)
      (none_in given_entry d.main (closing ∷ []) [] refl refl))

  some_from : (n : ℕ) → GivenIn none_resent d.ticks n
      → list_any (gives_entry n) (entries_in (end_parts token d)) ≡ true
  some_from n (inl never) = absurd (cc)
  some_from n (inr some) =
      let early : List (EndCall × EndAnswer) =
      early_closes d.written (resent_by d.ticks).over (read_end token d) d.delivery.ended in
      let of_reader : List (EndCall × EndAnswer) =
      flat_map reader_calls d.steps ++ reader_closing (read_end token d) in
      let of_writer : List (EndCall × EndAnswer) =
      flat_map end_calls d.turns ++ closing_of d.written in
      let ticks : List (EndCall × EndAnswer) = flat_map resend_calls d.ticks in
      let others : List (ℕ × List (EndCall × EndAnswer)) =
      served_calls d ++ (d.main, closing ∷ []) ∷ [] in
      later_in (gives_entry n) d.main early
      ((d.reader, of_reader) ∷ (d.writer, of_writer) ∷ (d.resender, ticks) ∷ others)
      (later_in (gives_entry n) d.reader of_reader
      ((d.writer, of_writer) ∷ (d.resender, ticks) ∷ others)
      (later_in (gives_entry n) d.writer of_writer ((d.resender, ticks) ∷ others)
      (some_in (gives_entry n) d.resender ticks others some)))

  -- the end gave up what the ticks come to
  pub GaveUp-of : (h : List (Entry EndCall EndAnswer)) (g : Option ℕ)
      → IsMadeOf h (end_parts token d)
      → (resent_by d.ticks).gave_up ≡ g
      → GaveUp g h
  GaveUp-of h None made is =
      same_any given_entry h (entries_in (end_parts token d)) made ∙ parts_none is
  GaveUp-of h (Some n) made is =
      same_any (gives_entry n) h (entries_in (end_parts token d)) made
      ∙ some_from n (ticks_some none_resent d.ticks n is)

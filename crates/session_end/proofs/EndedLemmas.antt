-- Where no worker was refused, the closing of the other end was heard.
use Rattle.std.proofs.Common.{◌≡◌, ◌⊎◌, inl, inr, ℕ, Bool, true, false, Some, List, [], ◌∷◌, ◌++◌, map, refl, sym, ap, ◌∙◌, subst}
use Rattle.std.specs.Prelude.{◌||◌}
use Rattle.std.specs.List.{flat_map, list_any}
use Rattle.std.proofs.lemmas.List.{map-append}
use Rattle.std.proofs.lemmas.List.Folds.{list_any-append}
use Rattle.channel_core.specs.declared.answer.Heard.{Heard}
use Rattle.channel_core.specs.declared.answer.Tick.{Tick}
use Rattle.channel_core.specs.declared.call.EndAnswer.{EndAnswer}
use Rattle.channel_core.specs.declared.call.EndCall.{EndCall}
use Rattle.channel_core.specs.Call.{Entry as CoreEntry}
use Rattle.channel_core.specs.History.{closes, is_closed}
use Rattle.channel_core.specs.Legal.{IsLegal}
use Rattle.channel_core.proofs.LegalLemmas.{IsLegal-pushed}
use Rattle.turn_lock.specs.Histories.{calls_of, entry}
use Rattle.turn_lock.specs.declared.view.Entry.{Entry}
use Rattle.session_run.specs.Held.{IsLegalFor, end_entry}
use Rattle.session_workers.specs.declared.read_state.ReadEnd.{ReadEnd}
use Rattle.session_workers.specs.declared.worker_end.WorkerEnd.{WorkerEnd}
use Rattle.session_workers.specs.ReaderRuns.{reader_closing}
use Rattle.session_workers.specs.Reading.{ReaderStep, dials, gets, hears, opens, reader_calls}
use Rattle.session_workers.specs.Resends.{ResendTurn, resend_calls}
use Rattle.session_workers.specs.Writing.{WriterTurn, emits, end_calls, idles, starves}
use Rattle.chan_values.specs.declared.item.Item.{Item}
use Rattle.channel_core.specs.declared.answer.Look.{Look}
use Rattle.channel_core.specs.declared.answer.Put.{Put}
use Rattle.session_feeds.specs.Puts.{put_call}
use Rattle.session_crews.specs.FeedTurns.{FeedPart, looking}
use Rattle.session_delivery.specs.Delivering.{closing_deliverer}
use Rattle.session_delivery.specs.declared.deliver_end.DeliverEnd.{DeliverEnd}
use Rattle.session_end.specs.Causes.{is_ended, is_giving_up}
use Rattle.session_end.specs.Deeds.{Deeds, early_closes, end_parts, read_end, served_calls}
use Rattle.session_end.specs.WorkerParts.{resent_by}
use Rattle.session_end.specs.Parts.{IsMadeOf, entries_in}
use Rattle.session_end.specs.Ran.{closing_of}
use Rattle.session_end.proofs.ClosedLemmas.{none_tells, tells_closed}
use Rattle.session_end.proofs.DeliveryLemmas.{NoneCloses, served_none}
use Rattle.session_end.proofs.FeederEndLemmas.{AreUnrefused, unrefused_closing}
use Rattle.session_end.proofs.HistoryLemmas.{later_in, made_before, none_append, none_each, none_in_four, none_or, not_true, or_none, same_any, some_in}
use Rattle.session_end.proofs.ReaderEndLemmas.{closed_is_told, tells}

abbrev History : Type 0
History = List (Entry EndCall EndAnswer)

-- whether a call is a close
abbrev is_close : EndCall → Bool
is_close EndCall.Close = true
is_close call = false

abbrev closing_call : EndCall × EndAnswer → Bool
closing_call c = is_close c.0

abbrev close_entry : Entry EndCall EndAnswer → Bool
close_entry e = is_close e.call

abbrev ended_entry : Entry EndCall EndAnswer → Bool
ended_entry e = is_ended e.answer

abbrev given_entry : Entry EndCall EndAnswer → Bool
given_entry e = is_giving_up e.answer

-- what closes an end
closes_cases : (answer : EndAnswer) (call : EndCall) → closes answer call ≡ true
    → (is_close call ≡ true) ⊎ ((is_ended answer ≡ true) ⊎ (is_giving_up answer ≡ true))
closes_cases answer EndCall.Close is = inl refl
closes_cases (EndAnswer.Heard Heard.Ended) call is = inr (inl refl)
closes_cases (EndAnswer.Tick (Tick.GaveUp n)) call is = inr (inr refl)
closes_cases answer call is = absurd (cc)

closes_never : (answer : EndAnswer) (call : EndCall) → is_close call ≡ false
    → is_ended answer ≡ false
    → is_giving_up answer ≡ false
    → ((is_close call ≡ true) ⊎ ((is_ended answer ≡ true) ⊎ (is_giving_up answer ≡ true)))
    → ⊥
closes_never answer call no_close not_ended none_given (inl a) = absurd (cc)
closes_never answer call no_close not_ended none_given (inr (inl b)) = absurd (cc)
closes_never answer call no_close not_ended none_given (inr (inr c)) = absurd (cc)

closes_none : (answer : EndAnswer) (call : EndCall) → is_close call ≡ false
    → is_ended answer ≡ false
    → is_giving_up answer ≡ false
    → closes answer call ≡ false
closes_none answer call no_close not_ended none_given =
    not_true (closes answer call)
    (λ yes.
    closes_never answer call no_close not_ended none_given (closes_cases answer call yes))

-- what is not false is true
not_false : (b : Bool) → (b ≡ false → ⊥) → b ≡ true
not_false true never = refl
not_false false never = absurd (never refl)

-- an end is open where nothing closed it
is_open : (h : History) → list_any close_entry h ≡ false → list_any ended_entry h ≡ false
    → list_any given_entry h ≡ false
    → is_closed (map end_entry (calls_of h)) ≡ false
unfolding is_closed
is_open [] a b c = refl
is_open (e ∷ h) a b c =
    let x = none_or (close_entry e) (list_any close_entry h) a in
    let y = none_or (ended_entry e) (list_any ended_entry h) b in
    let z = none_or (given_entry e) (list_any given_entry h) c in
    or_none (closes e.answer e.call)
    (list_any (λ (x : CoreEntry). closes x.answer x.call) (map end_entry (calls_of h)))
    (closes_none e.answer e.call x.0 y.0 z.0) (is_open h x.1 y.1 z.1)

-- answers, in the history of the end and in that of its lock
any_answer : (t : EndAnswer → Bool) (h : History)
    → list_any (λ (e : CoreEntry). t e.answer) (map end_entry (calls_of h))
    ≡ list_any (λ (e : Entry EndCall EndAnswer). t e.answer) h
any_answer t [] = refl
any_answer t (e ∷ h) = ap (λ (b : Bool). t e.answer || b) (any_answer t h)

abbrev told_entry : Entry EndCall EndAnswer → Bool
told_entry e = is_ended e.answer || tells_closed e.answer

none_told : (h : History) → list_any ended_entry h ≡ false
    → list_any (λ (e : Entry EndCall EndAnswer). tells_closed e.answer) h ≡ false
    → list_any told_entry h ≡ false
none_told [] a b = refl
none_told (e ∷ h) a b =
    let x = none_or (ended_entry e) (list_any ended_entry h) a in
    let y =
    none_or (tells_closed e.answer)
    (list_any (λ (x : Entry EndCall EndAnswer). tells_closed x.answer) h) b in
    or_none (told_entry e) (list_any told_entry h)
    (or_none (ended_entry e) (tells_closed e.answer) x.0 y.0) (none_told h x.1 y.1)

-- ---- the workers close nothing where they were not refused

step_none : (step : ReaderStep) → list_any closing_call (reader_calls step) ≡ false
step_none (dials opening reply (opens now token)) = refl
step_none (gets bytes (hears now count incoming heard added)) = refl
step_none step = refl

turn_none : (turn : WriterTurn) → list_any closing_call (end_calls turn) ≡ false
turn_none (emits now out sent) = refl
turn_none (idles now i) = refl
turn_none (starves now) = refl

tick_none : (turn : ResendTurn) → list_any closing_call (resend_calls turn) ≡ false
tick_none turn = refl

put_none : (last : Bool) (item : Item) (id : List ℕ) (now : ℕ) (put : Put)
    → closing_call (put_call last item id now, EndAnswer.Put put) ≡ false
put_none true item id now put = refl
put_none false item id now put = refl

look_none : (look : Look) → closing_call (looking look) ≡ false
look_none look = refl

feeders_none : (fs : List FeedPart) → AreUnrefused fs
    → NoneCloses closing_call put_none look_none fs
feeders_none [] none = tt
feeders_none (f ∷ fs) none = (
  ap (list_any closing_call) (unrefused_closing f.ended none.0 none.1 none.2),
  feeders_none fs none.3,
)

module _ (token : List ℕ) (d : Deeds) (w : ℕ) (h earlier : History)
    (is : h ≡ earlier ++ entry d.main EndCall.Close EndAnswer.Done ∷ [])
    (legal : IsLegalFor w (calls_of h)) (made : IsMadeOf h (end_parts token d))
    (written : d.written ≡ Some WorkerEnd.Closed)
    (read : read_end token d ≡ Some ReadEnd.Closed)
    (resent : (resent_by d.ticks).over ≡ true)
    (delivered : d.delivery.ended ≡ Some DeliverEnd.Closed)
    (unrefused : AreUnrefused d.delivery.feeders)
    (none_given : list_any given_entry h ≡ false) where
  abbrev early : List (EndCall × EndAnswer)
  early =
      early_closes d.written (resent_by d.ticks).over (read_end token d) d.delivery.ended

  abbrev reader_part : List (EndCall × EndAnswer)
  reader_part = flat_map reader_calls d.steps ++ reader_closing (read_end token d)

  abbrev writer_part : List (EndCall × EndAnswer)
  writer_part = flat_map end_calls d.turns ++ closing_of d.written

  -- the parts without the last close
  abbrev parts_before : List (ℕ × List (EndCall × EndAnswer))
  parts_before =
      (d.main, early)
      ∷ (d.reader, reader_part)
      ∷ (d.writer, writer_part)
      ∷ (d.resender, flat_map resend_calls d.ticks)
      ∷ served_calls d

  earlier_made : IsMadeOf earlier parts_before
  earlier_made =
      made_before earlier d.main EndCall.Close EndAnswer.Done parts_before
      (subst (λ (l : History). IsMadeOf l (end_parts token d)) is made)

  none_closed : list_any close_entry earlier ≡ false
  none_closed =
      same_any close_entry earlier (entries_in parts_before) earlier_made
      ∙ none_in_four close_entry d.main d.reader d.writer d.resender early reader_part
      writer_part (flat_map resend_calls d.ticks) (served_calls d)
      (λ i. list_any closing_call
      (early_closes (written i) (resent i) (read i) (delivered i)))
      (none_append closing_call (flat_map reader_calls d.steps)
      (reader_closing (read_end token d))
      (none_each closing_call reader_calls d.steps step_none)
      (λ i. list_any closing_call (reader_closing (read i))))
      (none_append closing_call (flat_map end_calls d.turns) (closing_of d.written)
      (none_each closing_call end_calls d.turns turn_none)
      (λ i. list_any closing_call (closing_of (written i))))
      (none_each closing_call resend_calls d.ticks tick_none)
      (served_none closing_call put_none look_none d
      (λ i. list_any closing_call (closing_deliverer (delivered i)))
      (feeders_none d.delivery.feeders unrefused))

  -- an entry tells the reader that the end is closed
  some_told : list_any told_entry earlier ≡ true
  some_told =
      same_any told_entry earlier (entries_in parts_before) earlier_made
      ∙ later_in told_entry d.main early
      ((d.reader, reader_part) ∷ (d.writer, writer_part)
      ∷ (d.resender, flat_map resend_calls d.ticks) ∷ served_calls d)
      (some_in told_entry d.reader reader_part
      ((d.writer, writer_part) ∷ (d.resender, flat_map resend_calls d.ticks)
      ∷ served_calls d)
      (list_any-append tells (flat_map reader_calls d.steps)
      (reader_closing (read_end token d))
      ∙ ap (λ (b : Bool). b || list_any tells (reader_closing (read_end token d)))
      (closed_is_told token d.steps read)))

  legal_before : IsLegal w (map end_entry (calls_of earlier))
  legal_before =
      let last : Entry EndCall EndAnswer = entry d.main EndCall.Close EndAnswer.Done in
      let all : calls_of h ≡ calls_of earlier ++ (EndCall.Close, EndAnswer.Done) ∷ [] =
      ap calls_of is
      ∙ map-append (λ (e : Entry EndCall EndAnswer). (e.call, e.answer)) earlier (last ∷ []) in
      let entries : map end_entry (calls_of h)
      ≡ map end_entry (calls_of earlier)
      ++ end_entry (EndCall.Close, EndAnswer.Done) ∷ [] =
      ap (map end_entry) all
      ∙ map-append end_entry (calls_of earlier) ((EndCall.Close, EndAnswer.Done) ∷ []) in
      (IsLegal-pushed w (map end_entry (calls_of earlier))
      (end_entry (EndCall.Close, EndAnswer.Done)) (subst (IsLegal w) entries legal.0)).0

  before : (p : Entry EndCall EndAnswer → Bool) → list_any p h ≡ false
      → list_any p earlier ≡ false
  before p none =
      let last : Entry EndCall EndAnswer = entry d.main EndCall.Close EndAnswer.Done in
      (none_or (list_any p earlier) (list_any p (last ∷ []))
      (sym (list_any-append p earlier (last ∷ [])) ∙ ap (list_any p) (sym is) ∙ none)).0

  not_open : list_any ended_entry h ≡ false → ⊥
  not_open none =
      let not_ended = before ended_entry none in
      let unclosed = is_open earlier none_closed not_ended (before given_entry none_given) in
      let quiet = none_tells w (map end_entry (calls_of earlier)) legal_before unclosed in
      let silent = none_told earlier not_ended (sym (any_answer tells_closed earlier) ∙ quiet) in
      let loud = some_told in
      absurd (cc)

  -- so the closing was heard
  pub ended_is_heard : list_any ended_entry h ≡ true
  ended_is_heard = not_false (list_any ended_entry h) not_open

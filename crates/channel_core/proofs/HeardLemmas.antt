-- Stream messages that are heard: from what an end keeps to the entry that follows.
use Rattle.std.proofs.Common.{◌≡◌, ℕ, ◌+◌, ◌<◌, ◌≤◌, Bool, true, false, cond, ◌||◌, Option, None, List, [], ◌∷◌, inl, inr, ⊎_elim, refl, sym, ap, subst, ◌∙◌, arith, eqb, ltb, Some}
use Rattle.std.proofs.lemmas.Bool.{cases_Bool}
use Rattle.chan_values.specs.declared.item.Item.{Item}
use Rattle.channel_core.specs.declared.call.EndAnswer.{EndAnswer}
use Rattle.channel_core.specs.declared.call.EndCall.{EndCall}
use Rattle.channel_core.specs.declared.answer.Heard.{Heard}
use Rattle.channel_core.specs.declared.message.Incoming.{Incoming}
use Rattle.channel_core.specs.Call.{Entry}
use Rattle.channel_core.specs.History.{is_closed, next_in_order, owed_with, taken_items, taken_messages}
use Rattle.channel_core.specs.Legal.{IsLegal, NeedsMemory, answer_to, answer_to_heard, answer_to_incoming}
use Rattle.channel_core.specs.Numbers.{has_number, numbers_of}
use Rattle.channel_core.specs.Stands.{EndState, Stands}
use Rattle.channel_core.proofs.EarlyLemmas.{early_known}
use Rattle.channel_core.proofs.StandsLemmas.{Goes, nothing_goes, or-false, still_goes, still}
use Rattle.std.specs.Option.{is_some}
use Rattle.std.proofs.lemmas.Bool.{le-leb, lt-leb}
use Rattle.receive_window.specs.Window.{is_taken, item_with}
use Rattle.channel_core.specs.Legal.{answer_to_stream, ends_with, items_released_by, past_end, taken_answer}
use Rattle.channel_core.proofs.LegalLemmas.{message}
use Rattle.channel_core.proofs.OpenedLemmas.{or-true}

-- a message that is heard
abbrev pub stream_call : ℕ → ℕ → List ℕ → Item → Bool → EndCall
stream_call now n id item last = EndCall.Heard now (Incoming.Stream n id item last)

-- a number has an item where it is among the numbers
pub is_some-item_with : (items : List (ℕ × Item)) (n : ℕ)
    → is_some (item_with items n) ≡ has_number (numbers_of items) n
is_some-item_with [] n = refl
is_some-item_with (p ∷ items) n =
    ⊎_elim
    (λ (here : eqb n p.0 ≡ true). rw here refl)
    (λ (later : eqb n p.0 ≡ false). rw later (is_some-item_with items n))
    (cases_Bool (eqb n p.0))

-- what an end knows of a number is what the history tells
pub is_taken-is : (w : ℕ) (h : List Entry) (old : EndState) (n : ℕ)
    → IsLegal w h
    → Stands w old h
    → is_taken old.received n ≡
    (ltb n (next_in_order h) || has_number (numbers_of (taken_items h)) n)
is_taken-is w h old n legal s =
    ap (λ (k : ℕ). ltb n k || is_some (item_with old.received.early n)) s.expected
    ∙ ap (λ (o : Option Item). ltb n (next_in_order h) || is_some o) (early_known w h old legal s n)
    ∙ at (ltb n (next_in_order h))
  where
    at : (b : Bool)
        → (b || is_some (cond b None (item_with (taken_items h) n))) ≡
        (b || has_number (numbers_of (taken_items h)) n)
    at true = refl
    at false = is_some-item_with (taken_items h) n

late_is : (w : ℕ) (h : List Entry) (n : ℕ) (item : Item) (last : Bool)
    → (ltb n (next_in_order h) || has_number (numbers_of (taken_items h)) n) ≡ true
    → answer_to_stream w h n item last ≡ Heard.Late
unfolding answer_to_stream
late_is w h n item last known = rw known refl

beyond_is : (w : ℕ) (h : List Entry) (n : ℕ) (item : Item) (last : Bool)
    → (ltb n (next_in_order h) || has_number (numbers_of (taken_items h)) n) ≡ false
    → next_in_order h + w ≤ n
    → answer_to_stream w h n item last ≡ Heard.Beyond
unfolding answer_to_stream
beyond_is w h n item last new far = rw (new, le-leb (next_in_order h + w) n far) refl

past_is : (w : ℕ) (h : List Entry) (n m : ℕ) (item : Item) (last : Bool)
    → (ltb n (next_in_order h) || has_number (numbers_of (taken_items h)) n) ≡ false
    → n < next_in_order h + w
    → past_end (taken_messages h) n last ≡ Some m
    → answer_to_stream w h n item last ≡ Heard.PastEnd m
unfolding answer_to_stream
past_is w h n m item last new near past =
    rw (new, lt-leb (next_in_order h + w) n near, past) refl

pub taken_is : (w : ℕ) (h : List Entry) (n : ℕ) (item : Item) (last : Bool)
    → (ltb n (next_in_order h) || has_number (numbers_of (taken_items h)) n) ≡ false
    → n < next_in_order h + w
    → past_end (taken_messages h) n last ≡ None
    → answer_to_stream w h n item last
    ≡ taken_answer
    (ends_with (taken_messages h) (message n item last)) (items_released_by (taken_items h) n item)
unfolding answer_to_stream
taken_is w h n item last new near within =
    rw (new, lt-leb (next_in_order h + w) n near, within) refl

pub open_heard : (w : ℕ) (h : List Entry) (incoming : Incoming)
    → is_closed h ≡ false
    → answer_to_heard w h incoming ≡ answer_to_incoming w h incoming
open_heard w h incoming unclosed = rw unclosed refl

pub late_goes : (w : ℕ) (h : List Entry) (now n : ℕ) (id : List ℕ) (item : Item) (last : Bool)
    (old new : EndState)
    → IsLegal w h
    → Stands w old h
    → old.closed ≡ false
    → is_taken old.received n ≡ true
    → new ≡ record old { owed = owed_with old.received.window old.owed n id }
    → Goes w h new (stream_call now n id item last) (EndAnswer.Heard Heard.Late)
late_goes w h now n id item last old new legal s unclosed taken is =
    let known : (ltb n (next_in_order h) || has_number (numbers_of (taken_items h)) n) ≡ true
    = sym (is_taken-is w h old n legal s) ∙ taken in
    still_goes w h old new (stream_call now n id item last) (EndAnswer.Heard Heard.Late) legal s
    (inl (ap (λ (a : Heard). EndAnswer.Heard a)
    (sym (open_heard w h (Incoming.Stream n id item last) (sym s.closed ∙ unclosed)
    ∙ late_is w h n item last known))))
    (search still)
    (rw is refl) (rw is refl) (rw is refl)
    (rw is (ap (λ (k : ℕ). owed_with k old.owed n id) s.window)) (rw is refl) (rw is refl)
    (rw is (sym (or-false old.closed)))

pub beyond_goes : (w : ℕ) (h : List Entry) (now n : ℕ) (id : List ℕ) (item : Item) (last : Bool)
    (old new : EndState)
    → IsLegal w h
    → Stands w old h
    → old.closed ≡ false
    → is_taken old.received n ≡ false → old.received.expected + old.received.window ≤ n → new ≡ old
    → Goes w h new (stream_call now n id item last) (EndAnswer.Heard Heard.Beyond)
beyond_goes w h now n id item last old new legal s unclosed untaken far is =
    let new_number : (ltb n (next_in_order h) || has_number (numbers_of (taken_items h)) n) ≡ false
    = sym (is_taken-is w h old n legal s) ∙ untaken in
    let beyond : next_in_order h + w ≤ n = let a = s.expected in let b = s.window in omega arith in
    nothing_goes w h old new (stream_call now n id item last) (EndAnswer.Heard Heard.Beyond) legal s is
    (inl (ap (λ (a : Heard). EndAnswer.Heard a)
    (sym (open_heard w h (Incoming.Stream n id item last) (sym s.closed ∙ unclosed)
    ∙ beyond_is w h n item last new_number beyond))))
    (search still) (λ l. refl) (λ b. refl) (λ b. refl) refl

-- a message past the end changes nothing
pub past_goes : (w : ℕ) (h : List Entry) (now n m : ℕ) (id : List ℕ) (item : Item) (last : Bool)
    (old new : EndState)
    → IsLegal w h
    → Stands w old h
    → old.closed ≡ false
    → is_taken old.received n ≡ false
    → n < old.received.expected + old.received.window
    → past_end (taken_messages h) n last ≡ Some m
    → new ≡ old
    → Goes w h new (stream_call now n id item last) (EndAnswer.Heard (Heard.PastEnd m))
past_goes w h now n m id item last old new legal s unclosed untaken near past is =
    let new_number : (ltb n (next_in_order h) || has_number (numbers_of (taken_items h)) n) ≡ false
    = sym (is_taken-is w h old n legal s) ∙ untaken in
    let within : n < next_in_order h + w = let a = s.expected in let b = s.window in omega arith in
    nothing_goes w h old new (stream_call now n id item last) (EndAnswer.Heard (Heard.PastEnd m))
    legal s is
    (inl (ap (λ (a : Heard). EndAnswer.Heard a)
    (sym (open_heard w h (Incoming.Stream n id item last) (sym s.closed ∙ unclosed)
    ∙ past_is w h n m item last new_number within past))))
    (search still) (λ l. refl) (λ b. refl) (λ b. refl) refl

-- a message for which there is no memory is one that would be taken
pub no_memory_goes : (w : ℕ) (h : List Entry) (now n : ℕ) (id : List ℕ) (item : Item) (last : Bool)
    (old new : EndState)
    → IsLegal w h
    → Stands w old h
    → old.closed ≡ false
    → is_taken old.received n ≡ false
    → n < old.received.expected + old.received.window
    → past_end (taken_messages h) n last ≡ None
    → new ≡ old
    → Goes w h new (stream_call now n id item last)
    (EndAnswer.Heard (Heard.NoMemory (Incoming.Stream n id item last)))
no_memory_goes w h now n id item last old new legal s unclosed untaken near open_end is =
    let call = stream_call now n id item last in
    let new_number : (ltb n (next_in_order h) || has_number (numbers_of (taken_items h)) n) ≡ false
    = sym (is_taken-is w h old n legal s) ∙ untaken in
    let within : n < next_in_order h + w = let a = s.expected in let b = s.window in omega arith in
    let items = items_released_by (taken_items h) n item in
    let ends = ends_with (taken_messages h) (message n item last) in
    let due : answer_to w h call ≡ EndAnswer.Heard (taken_answer ends items)
    = ap (λ (a : Heard). EndAnswer.Heard a)
    (open_heard w h (Incoming.Stream n id item last) (sym s.closed ∙ unclosed)
    ∙ taken_is w h n item last new_number within open_end) in
    nothing_goes w h old new call
    (EndAnswer.Heard (Heard.NoMemory (Incoming.Stream n id item last)))
    legal s is (inr (refl, subst NeedsMemory (sym due) (needs ends items)))
    (search still) (λ l. refl) (λ b. refl) (λ b. refl) refl
  where
    needs : (ends : Bool) (items : List Item)
        → NeedsMemory (EndAnswer.Heard (taken_answer ends items))
    needs true items = tt
    needs false items = tt

pub after_close_goes : (w : ℕ) (h : List Entry) (now : ℕ) (incoming : Incoming) (old new : EndState)
    → IsLegal w h
    → Stands w old h
    → old.closed ≡ true
    → new ≡ old
    → Goes w h new (EndCall.Heard now incoming) (EndAnswer.Heard Heard.AfterClose)
after_close_goes w h now incoming old new legal s closed is =
    let given : answer_to_heard w h incoming ≡ Heard.AfterClose = rw (sym s.closed ∙ closed) refl in
    nothing_goes w h old new (EndCall.Heard now incoming)
    (EndAnswer.Heard Heard.AfterClose) legal s is
    (inl (ap (λ (a : Heard). EndAnswer.Heard a) (sym given))) (search still)
    (λ l. refl) (λ b. refl) (λ b. refl) refl

pub pause_goes : (w : ℕ) (h : List Entry) (now : ℕ) (old new : EndState)
    → IsLegal w h
    → Stands w old h
    → old.closed ≡ false
    → new ≡ record old { paused = true }
    → Goes w h new (EndCall.Heard now Incoming.Pause) (EndAnswer.Heard Heard.Paused)
pause_goes w h now old new legal s unclosed is =
    still_goes w h old new (EndCall.Heard now Incoming.Pause) (EndAnswer.Heard Heard.Paused) legal s
    (inl (ap (λ (a : Heard). EndAnswer.Heard a)
    (sym (open_heard w h Incoming.Pause (sym s.closed ∙ unclosed))))) (search still)
    (rw is refl) (rw is refl) (rw is refl) (rw is refl) (rw is refl) (rw is refl)
    (rw is (sym (or-false old.closed)))

pub start_goes : (w : ℕ) (h : List Entry) (now : ℕ) (old new : EndState)
    → IsLegal w h
    → Stands w old h
    → old.closed ≡ false
    → new ≡ record old { paused = false }
    → Goes w h new (EndCall.Heard now Incoming.Start) (EndAnswer.Heard Heard.Started)
start_goes w h now old new legal s unclosed is =
    still_goes w h old new (EndCall.Heard now Incoming.Start)
    (EndAnswer.Heard Heard.Started) legal s
    (inl (ap (λ (a : Heard). EndAnswer.Heard a)
    (sym (open_heard w h Incoming.Start (sym s.closed ∙ unclosed))))) (search still)
    (rw is refl) (rw is refl) (rw is refl) (rw is refl) (rw is refl) (rw is refl)
    (rw is (sym (or-false old.closed)))

pub closing_goes : (w : ℕ) (h : List Entry) (now : ℕ) (output : List ℕ) (old new : EndState)
    → IsLegal w h
    → Stands w old h
    → old.closed ≡ false
    → new ≡ record old { closed = true }
    → Goes w h new (EndCall.Heard now (Incoming.Closing output)) (EndAnswer.Heard Heard.Ended)
closing_goes w h now output old new legal s unclosed is =
    still_goes w h old new (EndCall.Heard now (Incoming.Closing output))
    (EndAnswer.Heard Heard.Ended) legal s
    (inl (ap (λ (a : Heard). EndAnswer.Heard a)
    (sym (open_heard w h (Incoming.Closing output) (sym s.closed ∙ unclosed)))))
    (search still)
    (rw is refl) (rw is refl) (rw is refl) (rw is refl) (rw is refl) (rw is refl)
    (rw is (sym (or-true old.closed)))

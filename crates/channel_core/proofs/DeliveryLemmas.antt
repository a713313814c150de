-- What an end put in, and what has become of it at the other: the laws without an exchange.
use Rattle.std.proofs.Common.{◌≡◌, ◌≢◌, ℕ, ◌+◌, ◌<◌, ◌≤◌, zero, suc, Bool, true, false, Some, List, [], ◌∷◌, ◌++◌, ⊎_elim, sym, ap, subst, ◌∙◌, arith, drop, length, ltb, slice_get, take, ◌-◌}
use Rattle.std.specs.List.{All, Contains, filter, slice_index_or}
use Rattle.std.proofs.lemmas.Bool.{both_ways, cases_Bool, lt-ltb, cond_both}
use Rattle.std.proofs.lemmas.List.{take-append-drop}
use Rattle.std.proofs.lemmas.List.Elements.{All-nil, All-push, Contains-append_right, recursion_from_All, All-contains}
use Rattle.chan_values.specs.declared.side.Side.{Side}
use Rattle.chan_values.specs.Sides.{other}
use Rattle.chan_values.specs.declared.item.Item.{Item}
use Rattle.receive_window.specs.Window.{item_with}
use Rattle.channel_core.specs.declared.call.EndAnswer.{EndAnswer}
use Rattle.channel_core.specs.declared.call.EndCall.{EndCall}
use Rattle.channel_core.specs.declared.answer.Heard.{Heard}
use Rattle.channel_core.specs.declared.message.Incoming.{Incoming}
use Rattle.channel_core.specs.Call.{Entry}
use Rattle.channel_core.specs.History.{acked_numbers, emissions, next_in_order, put_items, released_items, taken_items, is_closed, lowest_unacked}
use Rattle.channel_core.specs.Laws.{AcknowledgedHasArrived, EachNumberIsTakenOnce, HasArrived, NothingIsBeyond, ReleasedIsInOrder, ReleasedIsPrefix, WindowBoundsMessages}
use Rattle.channel_core.specs.Legal.{IsAnswered, IsNoMemory, answer_to, answer_to_heard, answer_to_incoming}
use Rattle.channel_core.specs.Numbers.{has_number, numbers_of}
use Rattle.channel_core.specs.World.{Event, IsHonest, IsLegalWorld, WasEmitted, history_of}
use Rattle.channel_core.proofs.AgreementLemmas.{Agree, IsHeardOf, IsPutAs, IsSentFrom, put_lasts}
use Rattle.channel_core.proofs.ReceiverLemmas.{agree}
use Rattle.channel_core.proofs.HistoryLemmas.{by_pushes}
use Rattle.channel_core.proofs.ItemLemmas.{item_with-contains, item_with-meets, item_with-there, filter_map-reads}
use Rattle.channel_core.proofs.NumberLemmas.{least_absent-is, least_absent-le}
use Rattle.channel_core.proofs.SoundLemmas.{IsConsistent, sound}
use Rattle.channel_core.proofs.WindowLemmas.{within_window}
use Rattle.channel_core.proofs.WorldLemmas.{IsHonest-pushed, IsLegalWorld-pushed, other-other}
use Rattle.channel_core.specs.declared.message.Outgoing.{Outgoing}
use Rattle.channel_core.proofs.LegalLemmas.{ack_cases, answered_cases, stream_cases}

-- what the receiver released is the front of what the sender put in
pub released_items-front : (w : ℕ) (s r : List Entry)
    → Agree w s r
    → IsConsistent w r
    → released_items r ≡ take (next_in_order r) (put_items s)
released_items-front w s r agree sound =
    let next = next_in_order r in
    let items = put_items s in
    sound.in_order
    ∙ filter_map-reads (item_with (taken_items r)) items 0 (next - 0) (λ k low high.
    let there = (least_absent-is (numbers_of (taken_items r))).1 k (omega arith) in
    let item = item_with-there (taken_items r) k there in
    let all = recursion_from_All (IsPutAs items) (taken_items r) agree.taken in
    (item.0, item.1, item_with-meets (IsPutAs items) (taken_items r) k item.0 all item.1))
    ∙ ap (λ (n : ℕ). take n items) (omega arith)

-- the sender's lowest unacknowledged number is at most the receiver's next
lowest_unacked-le : (w : ℕ) (s r : List Entry) → Agree w s r → lowest_unacked s ≤ next_in_order r
lowest_unacked-le w s r agree =
    let next = next_in_order r in
    let absent = (least_absent-is (numbers_of (taken_items r))).0 in
    ⊎_elim
    (λ (there : has_number (acked_numbers s) next ≡ true).
    absurd (both_ways (has_number (numbers_of (taken_items r)) next) absent
    (agree.acked next there)))
    (λ (gone : has_number (acked_numbers s) next ≡ false). least_absent-le
    (acked_numbers s) next gone)
    (cases_Bool (has_number (acked_numbers s) next))

-- what an end hears of the other is not beyond its window
pub not_beyond : (w now : ℕ) (s r : List Entry) (incoming : Incoming)
    → Agree w s r
    → WasEmitted (emissions s) (EndCall.Heard now incoming)
    → answer_to_heard w r incoming ≢ Heard.Beyond
not_beyond w now s r incoming agree emitted =
    cond_both (is_closed r) Heard.AfterClose (answer_to_incoming w r incoming)
    (λ heard. heard ≢ Heard.Beyond)
    (λ _ is. cc)
    (λ _. inside incoming emitted)
  where
    inside : (incoming : Incoming)
        → WasEmitted (emissions s) (EndCall.Heard now incoming)
        → answer_to_incoming w r incoming ≢ Heard.Beyond
    inside (Incoming.Stream n id item last) emitted =
        let out = Outgoing.Stream
        (record { seq = n; id = id; date = emitted.0; item = item; last = last }) in
        let bound = lowest_unacked s + w in
        let sent = All-contains (IsSentFrom (put_items s) (put_lasts s) bound)
        (emissions s) out agree.sent emitted.1 in
        let low = lowest_unacked-le w s r agree in
        stream_cases w r n item last (λ heard. heard ≢ Heard.Beyond)
        (λ there is. cc)
        (λ far is. omega (arith, sent.1))
        (λ m new past is. cc)
        (λ new so is. cc)
        (λ new so is. cc)
    inside (Incoming.Ack n) emitted =
        ack_cases r n (λ heard. heard ≢ Heard.Beyond) (λ out before is. cc) (λ is. cc)
    inside Incoming.Pause emitted = λ is. cc
    inside Incoming.Start emitted = λ is. cc
    inside (Incoming.Closing output) emitted = λ is. cc

pub each_number_is_taken_once : EachNumberIsTakenOnce
each_number_is_taken_once w h legal = (sound w h legal).once

pub released_is_in_order : ReleasedIsInOrder
released_is_in_order w h legal = (sound w h legal).in_order

pub window_bounds_messages : WindowBoundsMessages
window_bounds_messages w h legal = within_window w h (sound w h legal)

-- the sender is the other end
pub agree_from : (w : ℕ) (world : List Event) (side : Side)
    → IsLegalWorld w world
    → IsHonest world
    → Agree w (history_of (other side) world) (history_of side world)
agree_from w world side legal honest =
    subst
    (λ z. Agree w (history_of (other side) world) (history_of z world))
    (other-other side)
    (agree w world legal honest (other side))

pub released_is_prefix : ReleasedIsPrefix
released_is_prefix w world side legal honest =
    let s = history_of (other side) world in
    let r = history_of side world in
    let next = next_in_order r in
    let rest = drop next (put_items s) in
    let ends = agree_from w world side legal honest in
    let front = released_items-front w s r ends (sound w r (legal side)) in
    (rest, ap (λ (l : List Item). l ++ rest) front ∙ take-append-drop next (put_items s))

-- an element below the cut is in the front of a list
slice_get-take : {X : Type 0} (xs : List X) (n k : ℕ) (x : X)
    → k < n
    → slice_get xs k ≡ Some x
    → slice_get (take n xs) k ≡ Some x
slice_get-take xs zero k x below is = absurd (omega arith)
slice_get-take [] (suc n) k x below is = cc
slice_get-take (y ∷ xs) (suc n) zero x below is = is
slice_get-take (y ∷ xs) (suc n) (suc k) x below is = slice_get-take xs n k x (omega arith) is

-- an element that passes a test is in what the test keeps
Contains-filter : {X : Type 0} (test : X → Bool) (xs : List X) (k : ℕ) (x : X)
    → k < length xs
    → slice_index_or xs k x ≡ x
    → test x ≡ true
    → Contains (filter test xs) x
Contains-filter test [] k x within is passes = absurd (omega arith)
Contains-filter {X} test (y ∷ xs) zero x within is passes =
    let kept : test y ≡ true = subst (λ z. test z ≡ true) (sym is) passes in
    rw kept (0, omega arith, is)
Contains-filter {X} test (y ∷ xs) (suc k) x within is passes =
    let rest = Contains-filter test xs k x (omega arith) is passes in
    ⊎_elim
    (λ (kept : test y ≡ true). rw kept (Contains-append_right (y ∷ []) (filter test xs) x rest))
    (λ (dropped : test y ≡ false). rw dropped rest)
    (cases_Bool (test y))

-- a number that was taken has arrived
pub has_arrived : (w : ℕ) (s r : List Entry) (n : ℕ)
    → Agree w s r
    → IsConsistent w r
    → has_number (numbers_of (taken_items r)) n ≡ true
    → HasArrived s r n
has_arrived w s r n agree sound there =
    let found = item_with-there (taken_items r) n there in
    let item = found.0 in
    let put = item_with-meets
    (IsPutAs (put_items s)) (taken_items r) n item
    (recursion_from_All (IsPutAs (put_items s)) (taken_items r) agree.taken) found.1 in
    let contains = item_with-contains (taken_items r) n item found.1 in
    let front = released_items-front w s r agree sound in
    record {
      item = item;
      put = put;
      taken = contains;
      released = λ below.
          ap (λ (l : List Item). slice_get l n) front
          ∙ slice_get-take (put_items s) (next_in_order r) n item below put;
      early = λ above. Contains-filter
          (λ p. ltb (next_in_order r) p.0) (taken_items r) contains.0
          (n, item) contains.1 contains.2
          (lt-ltb (next_in_order r) n (ahead above));
    }
  where
    ahead : next_in_order r ≤ n → next_in_order r < n
    ahead above =
        let apart : next_in_order r ≢ n = λ same.
        both_ways
        (has_number (numbers_of (taken_items r)) (next_in_order r))
        (least_absent-is (numbers_of (taken_items r))).0
        (rw same there) in
        omega (arith, apart, above)

pub acknowledged_has_arrived : AcknowledgedHasArrived
acknowledged_has_arrived w world side n legal honest acked =
    let ends = agree w world legal honest side in
    has_arrived w (history_of side world) (history_of (other side) world) n ends
    (sound w (history_of (other side) world) (legal (other side))) (ends.acked n acked)

-- the answer to what was emitted is not that it is beyond the window
pub answer_not_beyond : (w : ℕ) (s r : List Entry) (call : EndCall) (answer : EndAnswer)
    → Agree w s r
    → IsHeardOf (emissions s) call answer
    → IsAnswered w r call answer
    → answer ≢ EndAnswer.Heard Heard.Beyond
answer_not_beyond w s r call answer agree emitted answered beyond =
    let none : IsNoMemory call answer → ⊥
    = λ wants. no call (subst (IsNoMemory call) beyond wants) in
    let was : WasEmitted (emissions s) call = emitted none in
    answered_cases w r call answer answered (λ is. at call was (sym beyond ∙ is)) none
  where
    -- no call tells want of memory so
    no : (call : EndCall) → IsNoMemory call (EndAnswer.Heard Heard.Beyond) → ⊥
    no (EndCall.Heard now incoming) is = cc
    no (EndCall.Pull now) is = cc
    no call never = never

    at : (call : EndCall)
        → WasEmitted (emissions s) call
        → EndAnswer.Heard Heard.Beyond ≡ answer_to w r call
        → ⊥
    at (EndCall.Heard now incoming) was is =
        let heard : answer_to_heard w r incoming ≡ Heard.Beyond = cc in
        not_beyond w now s r incoming agree was heard
    at (EndCall.Put item id now) was is = cc
    at (EndCall.PutLast item id now) was is = cc
    at (EndCall.Tick now) was is = cc
    at (EndCall.Pull now) was is = cc
    at EndCall.Lost was is = cc
    at (EndCall.Opened now) was is = cc
    at EndCall.Close was is = cc
    at EndCall.Look was is = cc

-- the last event is not beyond the window
pub event_not_beyond : (w : ℕ) (world : List Event) (x : Event)
    → IsLegalWorld w (world ++ x ∷ [])
    → IsHonest (world ++ x ∷ [])
    → x.entry.answer ≢ EndAnswer.Heard Heard.Beyond
event_not_beyond w world x legal honest =
    let legal_parts = IsLegalWorld-pushed w world x legal in
    let honest_parts = IsHonest-pushed world x honest in
    answer_not_beyond w (history_of (other x.side) world) (history_of x.side world)
    x.entry.call x.entry.answer
    (agree_from w world x.side legal_parts.0 honest_parts.0) honest_parts.1 legal_parts.1

pub nothing_is_beyond : NothingIsBeyond
nothing_is_beyond w world =
    let Inside : Event → Type 0 = λ x. x.entry.answer ≢ EndAnswer.Heard Heard.Beyond in
    by_pushes
    (λ world. IsLegalWorld w world → IsHonest world → All Inside world)
    (λ legal honest. All-nil Inside)
    (λ world x before legal honest.
    All-push Inside world x
    (before (IsLegalWorld-pushed w world x legal).0 (IsHonest-pushed world x honest).0)
    (event_not_beyond w world x legal honest))
    world

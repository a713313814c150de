-- What an end tells of itself is how much was put in and released.
use Rattle.std.proofs.Common.{◌≡◌, ℕ, ◌+◌, ◌-◌, ◌<◌, ◌≤◌, zero, suc, Option, Some, List, length, refl, sym, ap, ◌∙◌, arith}
use Rattle.std.specs.List.{filter_map, range_with_len}
use Rattle.std.proofs.lemmas.List.{length-map}
use Rattle.chan_values.specs.declared.item.Item.{Item}
use Rattle.channel_core.specs.declared.call.EndAnswer.{EndAnswer}
use Rattle.channel_core.specs.declared.call.EndCall.{EndCall}
use Rattle.channel_core.specs.declared.answer.Look.{Look}
use Rattle.channel_core.specs.Call.{Entry}
use Rattle.channel_core.specs.History.{next_in_order, put_items, put_messages, released_items, taken_items}
use Rattle.channel_core.specs.Legal.{IsLegal, look_at}
use Rattle.channel_core.specs.Numbers.{numbers_of}
use Rattle.channel_core.specs.Stands.{EndState, Follows, Stands}
use Rattle.channel_core.proofs.DeliveryLemmas.{released_is_in_order}
use Rattle.channel_core.proofs.ItemLemmas.{item_with-there}
use Rattle.channel_core.proofs.LegalLemmas.{IsLegal-pushed, answered_cases}
use Rattle.channel_core.proofs.NumberLemmas.{least_absent-is}

-- a function that gives something at each number of a range gives as much as the range is long
length-each : {Y : Type 0} (f : ℕ → Option Y) (from n : ℕ)
    → ((k : ℕ) → from ≤ k → k < from + n → (y : Y) × (f k ≡ Some y))
    → length (filter_map f (range_with_len from n)) ≡ n
length-each f from zero there = refl
length-each f from (suc n) there =
    let first = there from (omega arith) (omega arith) in
    rw first.1
    (ap (λ (k : ℕ). suc k)
    (length-each f (from + 1) n (λ k low high. there k (omega arith) (omega arith))))

-- as many items are released as numbers were taken without a gap
length-released : (w : ℕ) (h : List Entry) → IsLegal w h
    → length (released_items h) ≡ next_in_order h
length-released w h legal =
    let taken = taken_items h in
    let next = next_in_order h in
    ap (λ (xs : List Item). length xs) (released_is_in_order w h legal)
    ∙ length-each _ 0 (next - 0)
    (λ k low high.
    let below : k < next = omega (arith, high) in
    item_with-there taken k ((least_absent-is (numbers_of taken)).1 k below))
    ∙ omega arith

-- an end answers a look with what its history tells
looked : (w : ℕ) (h : List Entry) (end : EndState) (look : Look)
    → IsLegal w h
    → Stands w end h
    → Follows end end EndCall.Look (EndAnswer.Look look)
    → look ≡ look_at w h
looked w h end look legal stands follows =
    let entry : Entry = record { call = EndCall.Look; answer = EndAnswer.Look look } in
    let answered = (IsLegal-pushed w h entry (follows w h legal stands).0).1 in
    answered_cases w h EndCall.Look (EndAnswer.Look look) answered
    (λ (is : EndAnswer.Look look ≡ EndAnswer.Look (look_at w h)). cc)
    (λ no. absurd no)

-- how much was put in
pub put_by : (w : ℕ) (h : List Entry) (end : EndState) (look : Look)
    → IsLegal w h
    → Stands w end h
    → Follows end end EndCall.Look (EndAnswer.Look look)
    → look.next ≡ length (put_items h)
unfolding look_at
put_by w h end look legal stands follows =
    ap (λ (l : Look). l.next) (looked w h end look legal stands follows)
    ∙ sym (length-map (put_messages h) (λ m. m.item))

-- how much was released
pub released_by : (w : ℕ) (h : List Entry) (end : EndState) (look : Look)
    → IsLegal w h
    → Stands w end h
    → Follows end end EndCall.Look (EndAnswer.Look look)
    → look.expected ≡ length (released_items h)
unfolding look_at
released_by w h end look legal stands follows =
    ap (λ (l : Look). l.expected) (looked w h end look legal stands follows)
    ∙ sym (length-released w h legal)

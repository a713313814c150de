-- What one entry more changes in what is read off a history.
use Rattle.std.proofs.Common.{◌≡◌, ℕ, ◌+◌, Bool, false, cond, ◌||◌, Option, Some, None, List, [], ◌∷◌, ◌++◌, map, refl, sym, ap, subst, ◌∙◌, append_assoc, arith}
use Rattle.std.specs.List.{cons_option, filter_map, flat_map}
use Rattle.std.specs.Option.{option_map}
use Rattle.std.proofs.lemmas.Grind.{flat_map-append, fold-append}
use Rattle.std.proofs.lemmas.List.{append-nil, map-append}
use Rattle.std.proofs.lemmas.List.Elements.{filter_map-append}
use Rattle.std.proofs.lemmas.List.Folds.{list_any-append}
use Rattle.std.proofs.lemmas.List.Sums.{sum_by-append}
use Rattle.chan_values.specs.declared.item.Item.{Item}
use Rattle.channel_core.specs.declared.call.EndAnswer.{EndAnswer}
use Rattle.channel_core.specs.declared.call.EndCall.{EndCall}
use Rattle.channel_core.specs.Call.{Entry, earlier_from, with_earlier}
use Rattle.channel_core.specs.History.{PutMessage, TakenMessage, acked_numbers, closes, emissions, is_closed, is_paused, is_up, finished_count, is_finished, items_of, items_released, message_emitted, message_put, message_taken, number_acked, owed_acks, owed_after, paused_after, put_items, put_messages, released_items, taken_items, taken_messages, up_after}
use Rattle.channel_core.specs.Resending.{marked_after, marked_due, number_transmitted, round_trip_samples, sample_of, sent_after, sent_since_opened, transmissions}

-- what holds of the empty list, and of one element more, holds of each list
pub by_pushes : {X : Type 0} (P : List X → Type 0)
    → P []
    → ((xs : List X) (x : X) → P xs → P (xs ++ x ∷ []))
    → (xs : List X)
    → P xs
by_pushes {X} P none more xs = after [] xs none
  where
    after : (front xs : List X) → P front → P (front ++ xs)
    after front [] p = subst P (sym (append-nil front)) p
    after front (x ∷ xs) p =
        subst P (append_assoc front (x ∷ []) xs) (after (front ++ x ∷ []) xs (more front x p))

-- one element more is the last, and all others are before it
earlier_from-push : {X : Type 0} (before xs : List X) (x : X)
    → earlier_from before (xs ++ x ∷ []) ≡ earlier_from before xs ++ (before ++ xs, x) ∷ []
earlier_from-push {X} before [] x =
    ap (λ (l : List X). (l, x) ∷ []) (sym (append-nil before))
earlier_from-push {X} before (y ∷ xs) x =
    ap
    (λ (l : List (List X × X)). (before, y) ∷ l)
    (earlier_from-push (before ++ y ∷ []) xs x
    ∙ ap
    (λ (l : List X). earlier_from (before ++ y ∷ []) xs ++ (l, x) ∷ [])
    (append_assoc before (y ∷ []) xs))

pub with_earlier-push : {X : Type 0} (xs : List X) (x : X)
    → with_earlier (xs ++ x ∷ []) ≡ with_earlier xs ++ (xs, x) ∷ []
unfolding with_earlier
with_earlier-push xs x = earlier_from-push [] xs x

pub put_messages-push : (h : List Entry) (e : Entry)
    → put_messages (h ++ e ∷ []) ≡ put_messages h ++ cons_option (message_put e.answer e.call) []
unfolding put_messages
put_messages-push h e = filter_map-append (λ (x : Entry). message_put x.answer x.call) h (e ∷ [])

pub put_items-push : (h : List Entry) (e : Entry)
    → put_items (h ++ e ∷ [])
    ≡ put_items h ++ map (λ m. m.item) (cons_option (message_put e.answer e.call) [])
put_items-push h e =
    ap (map (λ (m : PutMessage). m.item)) (put_messages-push h e)
    ∙ map-append
    (λ (m : PutMessage). m.item) (put_messages h) (cons_option (message_put e.answer e.call) [])

pub acked_numbers-push : (h : List Entry) (e : Entry)
    → acked_numbers (h ++ e ∷ []) ≡ acked_numbers h ++ cons_option (number_acked e.answer) []
unfolding acked_numbers
acked_numbers-push h e = filter_map-append (λ (x : Entry). number_acked x.answer) h (e ∷ [])

pub taken_messages-push : (h : List Entry) (e : Entry)
    → taken_messages (h ++ e ∷ [])
    ≡ taken_messages h ++ cons_option (message_taken e.answer e.call) []
unfolding taken_messages
taken_messages-push h e =
    filter_map-append (λ (x : Entry). message_taken x.answer x.call) h (e ∷ [])

-- the number and the item of a message
abbrev pub item_of : TakenMessage → ℕ × Item
item_of m = (m.seq, m.item)

-- those of the stream message that this call took
abbrev pub item_taken : EndAnswer → EndCall → Option (ℕ × Item)
item_taken answer call = option_map item_of (message_taken answer call)

pub taken_items-push : (h : List Entry) (e : Entry)
    → taken_items (h ++ e ∷ []) ≡ taken_items h ++ cons_option (item_taken e.answer e.call) []
unfolding taken_items
taken_items-push h e =
    ap items_of (taken_messages-push h e)
    ∙ map-append item_of (taken_messages h) (cons_option (message_taken e.answer e.call) [])
    ∙ ap (λ (l : List (ℕ × Item)). taken_items h ++ l) (at (message_taken e.answer e.call))
  where
    at : (o : Option TakenMessage)
        → map item_of (cons_option o []) ≡ cons_option (option_map item_of o) []
    at None = refl
    at (Some m) = refl

-- what was taken has numbers and items
pub taken_items-is : (h : List Entry) → taken_items h ≡ items_of (taken_messages h)
unfolding taken_items
taken_items-is h = refl

pub finished_count-push : (h : List Entry) (e : Entry)
    → finished_count (h ++ e ∷ []) ≡ finished_count h + cond (is_finished e.answer) 1 0
unfolding finished_count
finished_count-push h e =
    sum_by-append (λ (x : Entry). cond (is_finished x.answer) 1 0) h (e ∷ [])
    ∙ (let one : 0 + cond (is_finished e.answer) 1 0 ≡ cond (is_finished e.answer) 1 0
    = omega arith in ap (λ (k : ℕ). finished_count h + k) one)

pub released_items-push : (h : List Entry) (e : Entry)
    → released_items (h ++ e ∷ []) ≡ released_items h ++ items_released e.answer
unfolding released_items
released_items-push h e =
    flat_map-append (λ (x : Entry). items_released x.answer) h (e ∷ [])
    ∙ ap
    (λ (l : List Item). flat_map (λ (x : Entry). items_released x.answer) h ++ l)
    (append-nil (items_released e.answer))

pub emissions-push : (h : List Entry) (e : Entry)
    → emissions (h ++ e ∷ []) ≡ emissions h ++ cons_option (message_emitted e.answer) []
unfolding emissions
emissions-push h e = filter_map-append (λ (x : Entry). message_emitted x.answer) h (e ∷ [])

pub owed_acks-push : (w : ℕ) (h : List Entry) (e : Entry)
    → owed_acks w (h ++ e ∷ []) ≡ owed_after w (owed_acks w h) e.answer e.call
unfolding owed_acks
owed_acks-push w h e =
    fold-append
    (λ (owed : List (ℕ × List ℕ)) (x : Entry). owed_after w owed x.answer x.call) [] h (e ∷ [])

pub is_up-push : (h : List Entry) (e : Entry) → is_up (h ++ e ∷ []) ≡ up_after (is_up h) e.call
unfolding is_up
is_up-push h e = fold-append (λ (up : Bool) (x : Entry). up_after up x.call) false h (e ∷ [])

pub is_paused-push : (h : List Entry) (e : Entry)
    → is_paused (h ++ e ∷ []) ≡ paused_after (is_paused h) e.answer e.call
unfolding is_paused
is_paused-push h e =
    fold-append
    (λ (paused : Bool) (x : Entry). paused_after paused x.answer x.call) false h (e ∷ [])

pub is_closed-push : (h : List Entry) (e : Entry)
    → is_closed (h ++ e ∷ []) ≡ (is_closed h || (closes e.answer e.call || false))
unfolding is_closed
is_closed-push h e = list_any-append (λ (x : Entry). closes x.answer x.call) h (e ∷ [])

pub sent_since_opened-push : (h : List Entry) (e : Entry)
    → sent_since_opened (h ++ e ∷ []) ≡ sent_after (sent_since_opened h) e.answer e.call
unfolding sent_since_opened
sent_since_opened-push h e =
    fold-append (λ (sent : List ℕ) (x : Entry). sent_after sent x.answer x.call) [] h (e ∷ [])

pub marked_due-push : (h : List Entry) (e : Entry)
    → marked_due (h ++ e ∷ []) ≡ marked_after (marked_due h) e.answer
unfolding marked_due
marked_due-push h e =
    fold-append (λ (marked : List ℕ) (x : Entry). marked_after marked x.answer) [] h (e ∷ [])

pub transmissions-push : (h : List Entry) (e : Entry)
    → transmissions (h ++ e ∷ [])
    ≡ transmissions h ++ cons_option (number_transmitted e.answer e.call) []
unfolding transmissions
transmissions-push h e =
    filter_map-append (λ (x : Entry). number_transmitted x.answer x.call) h (e ∷ [])

pub round_trip_samples-push : (h : List Entry) (e : Entry)
    → round_trip_samples (h ++ e ∷ [])
    ≡ round_trip_samples h ++ cons_option (sample_of h e.answer e.call) []
unfolding round_trip_samples
round_trip_samples-push h e =
    let sample : List Entry × Entry → Option ℕ = λ p. sample_of p.0 p.1.answer p.1.call in
    ap (filter_map sample) (with_earlier-push h e)
    ∙ filter_map-append sample (with_earlier h) ((h, e) ∷ [])

-- An end has answered Finished exactly where it has released all that an ended end put in.
use Rattle.std.proofs.Common.{◌≡◌, ℕ, ◌<◌, ◌≤◌, zero, suc, Bool, true, false, cond, Some, None, List, [], ◌∷◌, ⊎_elim, refl, sym, ap, subst, ◌∙◌, arith, length, ltb, map, slice_get, take}
use Rattle.std.specs.List.{list_any}
use Rattle.std.proofs.lemmas.Bool.{cases_Bool, lt-ltb, ltb-true, or_right}
use Rattle.std.proofs.lemmas.List.{length-map, length-take}
use Rattle.std.proofs.lemmas.List.Elements.{All-contains}
use Rattle.chan_values.specs.declared.item.Item.{Item}
use Rattle.chan_values.specs.Sides.{other}
use Rattle.receive_window.specs.Window.{is_below}
use Rattle.channel_core.specs.Call.{Entry}
use Rattle.channel_core.specs.History.{PutMessage, has_ended, next_in_order, put_items, put_messages, released_items, taken_messages}
use Rattle.channel_core.specs.Laws.{FinishedIsWhole}
use Rattle.channel_core.specs.Numbers.{least_absent, numbers_of}
use Rattle.channel_core.specs.World.{history_of}
use Rattle.channel_core.proofs.AgreementLemmas.{Agree, EndsAs, put_lasts}
use Rattle.channel_core.proofs.DeliveryLemmas.{agree_from, released_items-front}
use Rattle.channel_core.proofs.EndLemmas.{last_of, last_of-is, last_of-some, message_with, seqs_of}
use Rattle.channel_core.proofs.FinishLemmas.{IsEnded, ended}
use Rattle.channel_core.proofs.HistoryLemmas.{taken_items-is}
use Rattle.channel_core.proofs.NumberLemmas.{cases_option, least_absent-is}
use Rattle.channel_core.proofs.SoundLemmas.{IsConsistent, sound}

-- where some place was put in as the last, an item was
some_ended : (puts : List PutMessage) (k : ℕ)
    → slice_get (map (λ p. p.last) puts) k ≡ Some true
    → list_any (λ p. p.last) puts ≡ true
some_ended [] k is = cc
some_ended (p ∷ puts) zero is =
    let first : Some p.last ≡ Some true = is in
    let last : p.last ≡ true = cc in
    rw last refl
some_ended (p ∷ puts) (suc k) is =
    or_right p.last (list_any (λ (q : PutMessage). q.last) puts) (some_ended puts k is)

-- and some place was where an item was
ended_place : (puts : List PutMessage)
    → list_any (λ p. p.last) puts ≡ true
    → (k : ℕ) × (slice_get (map (λ p. p.last) puts) k ≡ Some true)
ended_place [] is = cc
ended_place (p ∷ puts) is =
    ⊎_elim
    (λ (last : p.last ≡ true). (0, ap (λ (b : Bool). Some b) last))
    (λ (not_last : p.last ≡ false).
    let rest = ended_place puts (rw not_last at is) in
    (suc rest.0, rest.1))
    (cases_Bool p.last)

-- a list cut behind its end, and one that a cut leaves whole
take-whole : {X : Type 0} (xs : List X) (n : ℕ) → length xs ≤ n → take n xs ≡ xs
take-whole [] zero long = refl
take-whole [] (suc n) long = refl
take-whole (x ∷ xs) zero long = absurd (omega arith)
take-whole {X} (x ∷ xs) (suc n) long =
    ap (λ (l : List X). x ∷ l) (take-whole xs n (omega arith))

whole-take : {X : Type 0} (xs : List X) (n : ℕ) → take n xs ≡ xs → length xs ≤ n
whole-take xs n is =
    let cut = length-take n xs in
    let same : length (take n xs) ≡ length xs = ap length is in
    omega arith

-- the last message is released
abbrev IsReleased : List Entry → Type 0
IsReleased r =
    is_below (last_of (taken_messages r)) (least_absent (seqs_of (taken_messages r))) ≡ true

-- how often it is, where it is counted once at most
counted : (b : Bool) → cond {A = ℕ} b 1 0 ≡ 1 → b ≡ true
counted true is = refl
counted false is = absurd (omega arith)

next-is : (r : List Entry) → next_in_order r ≡ least_absent (seqs_of (taken_messages r))
next-is r = ap (λ (l : List (ℕ × Item)). least_absent (numbers_of l)) (taken_items-is r)

-- where it is released, the sender has ended, and all is released
whole_after : (w : ℕ) (s r : List Entry)
    → Agree w s r
    → IsConsistent w r
    → IsReleased r
    → (has_ended s ≡ true) × (released_items r ≡ put_items s)
whole_after w s r agree sound released =
    ⊎_elim
    (λ (none : last_of (taken_messages r) ≡ None).
    let never : is_below None (least_absent (seqs_of (taken_messages r))) ≡ true
    = rw none at released in absurd (unlike never))
    (λ (found : (n : ℕ) × (last_of (taken_messages r) ≡ Some n)).
    let message = last_of-some (taken_messages r) found.0 found.1 in
    let t = message.0 in
    let as_put = All-contains (EndsAs (put_lasts s)) (taken_messages r) t agree.ends message.1 in
    let is_last : slice_get (put_lasts s) t.seq ≡ Some true
    = subst (λ (b : Bool). slice_get (put_lasts s) t.seq ≡ Some b) message.2 as_put in
    let end = agree.ended t.seq is_last in
    let number = message.3 in
    let test : ltb found.0 (least_absent (seqs_of (taken_messages r))) ≡ true
    = rw found.1 at released in
    let below = ltb-true found.0 (least_absent (seqs_of (taken_messages r))) test in
    let next = next-is r in
    let lasts = length-map (put_messages s) (λ (p : PutMessage). p.last) in
    let items = length-map (put_messages s) (λ (p : PutMessage). p.item) in (
      some_ended (put_messages s) t.seq is_last,
      released_items-front w s r agree sound
          ∙ take-whole (put_items s) (next_in_order r) (omega arith),
    ))
    (cases_option (last_of (taken_messages r)))
  where
    unlike : false ≡ true → ⊥
    unlike is = cc

-- and where all of an ended sender is released, the last message is
released_whole : (w : ℕ) (s r : List Entry)
    → Agree w s r
    → IsConsistent w r
    → IsEnded r
    → has_ended s ≡ true
    → released_items r ≡ put_items s
    → IsReleased r
released_whole w s r agree sound ended over all =
    let place = ended_place (put_messages s) over in
    let k = place.0 in
    let end = agree.ended k place.1 in
    let cut : take (next_in_order r) (put_items s) ≡ put_items s
    = sym (released_items-front w s r agree sound) ∙ all in
    let long = whole-take (put_items s) (next_in_order r) cut in
    let lasts = length-map (put_messages s) (λ (p : PutMessage). p.last) in
    let items = length-map (put_messages s) (λ (p : PutMessage). p.item) in
    let next = next-is r in
    let reach = least_absent (seqs_of (taken_messages r)) in
    let below : k < reach = omega arith in
    let there = (least_absent-is (seqs_of (taken_messages r))).1 k below in
    let found = message_with (taken_messages r) k there in
    let t = found.0 in
    let as_put = All-contains (EndsAs (put_lasts s)) (taken_messages r) t agree.ends found.1 in
    let told : Some t.last ≡ Some true
    = sym as_put ∙ ap (λ (n : ℕ). slice_get (put_lasts s) n) found.2 ∙ place.1 in
    let last : t.last ≡ true = cc in
    let is = last_of-is (taken_messages r) t ended.topmost found.1 last in
    rw is (rw found.2 (lt-ltb k reach below))

pub finished_is_whole : FinishedIsWhole
finished_is_whole w world end legal honest =
    let s = history_of (other end) world in
    let r = history_of end world in
    let ends = agree_from w world end legal honest in
    let consistent = sound w r (legal end) in
    let over = ended w r (legal end) in
    let test = is_below (last_of (taken_messages r)) (least_absent (seqs_of (taken_messages r))) in (
      λ once. whole_after w s r ends consistent (counted test (sym over.finished ∙ once)),
      λ whole.
          over.finished
          ∙ ap (λ (b : Bool). cond b 1 0)
          (released_whole w s r ends consistent over whole.0 whole.1),
    )

-- The unacknowledged messages, as a list made from what is read off a history.
use Rattle.std.proofs.Common.{◌≡◌, ◌≢◌, ℕ, ◌+◌, ◌<◌, ◌≤◌, zero, suc, Bool, true, false, not, cond, Option, Some, None, List, [], ◌∷◌, ◌++◌, ⊎_elim, refl, ap, arith, length, map, filter, slice_get}
use Rattle.std.specs.List.{filter_map, cons_option, range_with_len}
use Rattle.std.specs.Option.{option_map}
use Rattle.std.proofs.lemmas.Bool.{cases_Bool}
use Rattle.resend_queue.specs.Queue.{Pending}
use Rattle.channel_core.specs.History.{PutMessage}
use Rattle.channel_core.specs.Numbers.{has_number}
use Rattle.channel_core.specs.Resending.{last_moment}
use Rattle.channel_core.proofs.ItemLemmas.{filter_map-agree}

-- what a history tells of the messages that were put in
pub record Sending : Type 0 where
  pub put : List PutMessage
  pub acked : List ℕ
  pub emitted : List ℕ
  pub moments : List (ℕ × ℕ)
  pub sent : List ℕ
  pub due : List ℕ

-- what is kept of a message
abbrev pub message_of : Sending → ℕ → PutMessage → Pending
message_of s n m =
    record {
      seq = n;
      id = m.id;
      date = m.date;
      item = m.item;
      last = m.last;
      emitted = cond (has_number s.emitted n) (Some (last_moment s.moments n)) None;
      sent = has_number s.sent n;
      due = has_number s.due n;
    }

-- the message with a number
abbrev pub message_at : Sending → ℕ → Option Pending
message_at s n = option_map (message_of s n) (slice_get s.put n)

-- what is kept of a number
abbrev pub kept_at : Sending → ℕ → Option Pending
kept_at s n = cond (has_number s.acked n) None (message_at s n)

-- the unacknowledged messages, by number
abbrev pub kept_all : Sending → List Pending
kept_all s = filter_map (kept_at s) (range_with_len 0 (length s.put))

-- ---- lists

-- a list without some elements, looked up
filter_map-filter : {X Y : Type 0} (f : X → Option Y) (out : X → Bool) (xs : List X)
    → filter_map f (filter (λ x. not (out x)) xs) ≡ filter_map (λ x. cond (out x) None (f x)) xs
filter_map-filter f out [] = refl
filter_map-filter {X} {Y} f out (x ∷ xs) =
    ⊎_elim
    (λ (gone : out x ≡ true). rw gone (filter_map-filter f out xs))
    (λ (stays : out x ≡ false). rw stays (ap (cons_option (f x)) (filter_map-filter f out xs)))
    (cases_Bool (out x))

-- the messages with the unacknowledged numbers
pub kept_all-unacked : (s : Sending)
    → filter_map (message_at s)
    (filter (λ n. not (has_number s.acked n)) (range_with_len 0 (length s.put))) ≡ kept_all s
kept_all-unacked s = filter_map-filter (message_at s) (has_number s.acked)
    (range_with_len 0 (length s.put))

-- a change of each element found
pub map-filter_map : {X Y : Type 0} (g : Y → Y) (f : X → Option Y) (xs : List X)
    → map g (filter_map f xs) ≡ filter_map (λ x. option_map g (f x)) xs
map-filter_map g f [] = refl
map-filter_map {X} {Y} g f (x ∷ xs) = at (f x) (map-filter_map g f xs)
  where
    at : (o : Option Y) → map g (filter_map f xs) ≡ filter_map (λ x. option_map g (f x)) xs
        → map g (cons_option o (filter_map f xs)) ≡ cons_option (option_map g o)
        (filter_map (λ x. option_map g (f x)) xs)
    at None rest = rest
    at (Some y) rest = ap (λ (l : List Y). g y ∷ l) rest

-- a value where it passes
abbrev pub where_passes : {Y : Type 0} → (Y → Bool) → Option Y → Option Y
where_passes test None = None
where_passes test (Some y) = cond (test y) (Some y) None

-- the elements found that pass
pub filter-filter_map : {X Y : Type 0} (test : Y → Bool) (f : X → Option Y) (xs : List X)
    → filter test (filter_map f xs) ≡ filter_map (λ x. where_passes test (f x)) xs
filter-filter_map test f [] = refl
filter-filter_map {X} {Y} test f (x ∷ xs) = at (f x) (filter-filter_map test f xs)
  where
    at : (o : Option Y)
        → filter test (filter_map f xs) ≡ filter_map (λ x. where_passes test (f x)) xs
        → filter test (cons_option o (filter_map f xs)) ≡ cons_option (where_passes test o)
        (filter_map (λ x. where_passes test (f x)) xs)
    at None rest = rest
    at (Some y) rest =
        ⊎_elim
        (λ (yes : test y ≡ true). rw yes (ap (λ (l : List Y). y ∷ l) rest))
        (λ (no : test y ≡ false). rw no rest)
        (cases_Bool (test y))

-- two functions that agree everywhere
pub same_over : {Y : Type 0} (f g : ℕ → Option Y) (len : ℕ)
    → ((k : ℕ) → f k ≡ g k)
    → filter_map f (range_with_len 0 len) ≡ filter_map g (range_with_len 0 len)
same_over f g len same = filter_map-agree f g 0 len (λ k low high. same k)

-- a function that finds nothing in a range
pub none_over : {Y : Type 0} (f : ℕ → Option Y) (from len : ℕ)
    → ((k : ℕ) → from ≤ k → k < from + len → f k ≡ None)
    → filter_map f (range_with_len from len) ≡ []
none_over f from zero none = refl
none_over f from (suc len) none =
    rw (none from (omega arith) (omega arith))
    (none_over f (from + 1) len (λ k low high. none k (omega arith) (omega arith)))

-- reading a list that grew at its end
pub slice_get-front : {X : Type 0} (xs : List X) (x : X) (n : ℕ)
    → n ≢ length xs
    → slice_get (xs ++ x ∷ []) n ≡ slice_get xs n
slice_get-front [] x zero apart = absurd (apart refl)
slice_get-front [] x (suc n) apart = refl
slice_get-front (y ∷ xs) x zero apart = refl
slice_get-front (y ∷ xs) x (suc n) apart = slice_get-front xs x n (λ e. apart (ap suc e))

-- and its end
pub slice_get-last : {X : Type 0} (xs : List X) (x : X)
    → slice_get (xs ++ x ∷ []) (length xs) ≡ Some x
slice_get-last [] x = refl
slice_get-last (y ∷ xs) x = slice_get-last xs x

-- nothing stands past the end
pub slice_get-past : {X : Type 0} (xs : List X) (n : ℕ) → length xs ≤ n → slice_get xs n ≡ None
slice_get-past [] n past = refl
slice_get-past (x ∷ xs) zero past = absurd (omega arith)
slice_get-past (x ∷ xs) (suc n) past = slice_get-past xs n (omega arith)

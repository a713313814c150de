-- Seats and the locks on which they are, in order.
use Rattle.std.proofs.Common.{◌≡◌, ℕ, ◌+◌, ◌<◌, List, [], ◌∷◌, ◌++◌, map, take, length, refl, sym, ap, ◌∙◌, subst, slice_set, drop, ◌-◌, ◌≤◌, arith}
use Rattle.std.proofs.Math.ListN.{get_or}
use Rattle.std.proofs.lemmas.List.{get_or-map, append-nil, drop_all, length-map, length-append, map-append, take_all}
use Rattle.std.proofs.Math.Seq.{map-set_same}
use Rattle.std.proofs.lemmas.Grind.{take_at_read}
use Rattle.atomic_table.specs.Seated.{TableId}
use Rattle.turn_lock.specs.declared.seat.TurnLock.{TurnLock}
use Rattle.relay_accept.specs.declared.relay_seats.SessionSeat.{SessionSeat}
use Rattle.relay_accept.specs.Seats.{locks_in, locks_of}

-- the lock of a seat
abbrev pub lock_of : SessionSeat → TableId
lock_of s = s.seat.inner.table_id

-- two lists that end alike
snoc_same : {X : Type 0} (xs ys : List X) (t u : X)
    → xs ++ t ∷ [] ≡ ys ++ u ∷ []
    → (xs ≡ ys) × (t ≡ u)
snoc_same [] [] t u e = (refl, ap (λ l. get_or l 0 t) e)
snoc_same [] (y ∷ ys) t u e =
    let n = ap length e in let m = length-append ys (u ∷ []) in absurd (omega arith)
snoc_same (x ∷ xs) [] t u e =
    let n = ap length e in let m = length-append xs (t ∷ []) in absurd (omega arith)
snoc_same (x ∷ xs) (y ∷ ys) t u e =
    let rest = snoc_same xs ys t u (ap (drop 1) e) in
    (λ i. ap (λ l. get_or l 0 x) e i ∷ rest.0 i, rest.1)

module _ {V C A T : Type 0} where
  -- as many seats as locks
  pub as_many : (seats : List SessionSeat) (locks : List (TurnLock V C A T))
      → locks_of seats ≡ locks_in locks
      → length seats ≡ length locks
  as_many seats locks same =
      sym (length-map seats _) ∙ ap length same ∙ length-map locks _

  -- the seat in a place is one of the lock in that place
  pub seat_in_place : (seats : List SessionSeat) (locks : List (TurnLock V C A T)) (i : ℕ)
      (s : SessionSeat) (l : TurnLock V C A T)
      → i < length locks
      → locks_of seats ≡ locks_in locks
      → l ≡ get_or locks i l
      → (get_or seats i s).seat.inner.table_id ≡ l.table.shared.table_id
  seat_in_place seats locks i s l within same has =
      let g : TurnLock V C A T → TableId = λ l. l.table.shared.table_id in
      sym (get_or-map lock_of seats i s (g l)
      (subst (λ n. i < n) (sym (as_many seats locks same)) within))
      ∙ ap (λ xs. get_or xs i (g l)) same
      ∙ get_or-map g locks i l (g l) within
      ∙ sym (ap g has)

  -- the place of the next lock
  pub next_lock : (locks : List (TurnLock V C A T)) (i : ℕ) (l : TurnLock V C A T)
      → i < length locks
      → l ≡ get_or locks i l
      → take (i + 1) (locks_in locks) ≡ take i (locks_in locks) ++ l.table.shared.table_id ∷ []
  next_lock locks i l within has =
      let g : TurnLock V C A T → TableId = λ l. l.table.shared.table_id in
      (take_at_read (map g locks) i (g l) (subst (λ n. i < n) (sym (length-map locks g)) within)).1
      ∙ ap (λ x. take i (map g locks) ++ x ∷ []) (get_or-map g locks i l (g l) within ∙ sym (ap g has))

  -- the latest of the seats is one of the latest lock
  pub last_seat : (seats : List SessionSeat) (t : SessionSeat) (locks : List (TurnLock V C A T))
      (n : ℕ) (l : TurnLock V C A T)
      → 0 < n
      → n ≤ length locks
      → locks_of (seats ++ t ∷ []) ≡ take n (locks_in locks)
      → l ≡ get_or locks (n - 1) l
      → (locks_of seats ≡ take (n - 1) (locks_in locks))
      × (t.seat.inner.table_id ≡ l.table.shared.table_id)
  last_seat seats t locks n l some within same has =
      let back : n - 1 + 1 ≡ n = omega arith in
      snoc_same (locks_of seats) (take (n - 1) (locks_in locks)) (lock_of t)
      l.table.shared.table_id
      (sym (map-append lock_of seats (t ∷ []))
      ∙ same
      ∙ ap (λ k. take k (locks_in locks)) (sym back)
      ∙ next_lock locks (n - 1) l (omega arith) has)

-- a seat was replaced by one on the same lock
pub same_locks_set : (seats : List SessionSeat) (i : ℕ) (s t : SessionSeat)
    → t.seat.inner.table_id ≡ (get_or seats i s).seat.inner.table_id
    → locks_of (slice_set seats i t) ≡ locks_of seats
same_locks_set seats i s t same = map-set_same lock_of seats i t s same

-- one seat more
pub one_more : (seats : List SessionSeat) (t : SessionSeat)
    → locks_of (seats ++ t ∷ []) ≡ locks_of seats ++ t.seat.inner.table_id ∷ []
one_more seats t = map-append lock_of seats (t ∷ [])

-- all of a list was written anew through its slice
pub written_back : {X : Type 0} (new old : List X) (n : ℕ)
    → length old ≡ n
    → length new ≡ length old
    → take n (new ++ drop (length new) old) ≡ new
written_back new old n is many =
    ap (λ l. take n (new ++ l)) (drop_all (length new) old (subst (λ k. length old ≤ k) (sym many) (omega arith)))
    ∙ ap (take n) (append-nil new)
    ∙ take_all n new (subst (λ k. length new ≤ k) (many ∙ is) (omega arith))

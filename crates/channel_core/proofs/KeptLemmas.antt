-- What an end keeps of its messages after one entry more.
use Rattle.std.proofs.Common.{◌≡◌, ◌≢◌, ℕ, ◌+◌, Bool, true, false, not, cond, Option, Some, None, List, [], ◌∷◌, ◌++◌, ⊎_elim, refl, sym, ap, ◌∙◌, arith, length, map, filter, eqb, slice_get}
use Rattle.std.specs.List.{filter_map, cons_option, range_with_len}
use Rattle.std.specs.Option.{option_map}
use Rattle.std.proofs.lemmas.Grind.{fold-append}
use Rattle.std.proofs.lemmas.Bool.{cases_eq, eq-eqb, ne_eqb}
use Rattle.std.proofs.lemmas.List.{length_push}
use Rattle.std.proofs.lemmas.List.Elements.{filter_map-append}
use Rattle.resend_queue.specs.Queue.{Pending, changed_at, marked, new_message, transmitted, unsent}
use Rattle.channel_core.specs.History.{PutMessage}
use Rattle.channel_core.specs.Numbers.{has_number}
use Rattle.channel_core.specs.Resending.{last_moment}
use Rattle.channel_core.proofs.NumberLemmas.{has_number-kept, has_number-last, has_number-other, has_number-without}
use Rattle.channel_core.proofs.ItemLemmas.{filter_map-agree, range_with_len-add}
use Rattle.channel_core.proofs.PendingLemmas.{Sending, message_of, kept_at, kept_all, map-filter_map, where_passes, filter-filter_map, same_over, slice_get-front, slice_get-last}

-- ---- one entry more

-- the moment of the last transmission, once there is one more
pub last_moment-same : (moments : List (ℕ × ℕ)) (n now : ℕ)
    → last_moment (moments ++ (n, now) ∷ []) n ≡ now
last_moment-same moments n now =
    fold-append (λ (last : ℕ) (p : ℕ × ℕ). cond (eqb n p.0) p.1 last) 0 moments ((n, now) ∷ [])
    ∙ rw (eq-eqb n n refl) refl

pub last_moment-other : (moments : List (ℕ × ℕ)) (n k now : ℕ)
    → k ≢ n
    → last_moment (moments ++ (n, now) ∷ []) k ≡ last_moment moments k
last_moment-other moments n k now apart =
    fold-append (λ (last : ℕ) (p : ℕ × ℕ). cond (eqb k p.0) p.1 last) 0 moments ((n, now) ∷ [])
    ∙ rw (ne_eqb k n apart) refl

-- a put
pub kept_all-put : (s : Sending) (m : PutMessage)
    → has_number s.acked (length s.put) ≡ false
    → has_number s.emitted (length s.put) ≡ false
    → has_number s.sent (length s.put) ≡ false
    → has_number s.due (length s.put) ≡ false
    → kept_all (record s { put = s.put ++ m ∷ [] }) ≡ kept_all s ++ new_message
    (length s.put) m.item m.id m.date m.last ∷ []
kept_all-put s m acked emitted sent due =
    let len = length s.put in
    let after : Sending = record s { put = s.put ++ m ∷ [] } in
    let longer : length (s.put ++ m ∷ []) ≡ len + 1 = length_push s.put m in
    let last : kept_at after (0 + len) ≡ Some (new_message len m.item m.id m.date m.last)
    = let at : 0 + len ≡ len = omega arith in
    rw (at, acked, slice_get-last s.put m, emitted, sent, due) refl in
    ap (λ (n : ℕ). filter_map (kept_at after) (range_with_len 0 n)) longer
    ∙ ap (filter_map (kept_at after)) (range_with_len-add 0 len 1)
    ∙ filter_map-append (kept_at after) (range_with_len 0 len) (range_with_len (0 + len) 1)
    ∙ ap (λ (o : Option Pending). filter_map (kept_at after) (range_with_len 0 len)
    ++ cons_option o []) last
    ∙ ap (λ (l : List Pending). l ++ new_message len m.item m.id m.date m.last ∷ [])
    (filter_map-agree (kept_at after) (kept_at s) 0 len
    (λ k low high. ap
    (λ (o : Option PutMessage). cond (has_number s.acked k) None (option_map (message_of s k) o))
    (slice_get-front s.put m k (λ e. omega arith))))

-- each kept message has its number
pub kept_at-seq : (s : Sending) (n : ℕ) (p : Pending) → kept_at s n ≡ Some p → p.seq ≡ n
kept_at-seq s n p is = at (has_number s.acked n) (slice_get s.put n) is
  where
    at : (b : Bool) (o : Option PutMessage)
        → cond b None (option_map (message_of s n) o) ≡ Some p
        → p.seq ≡ n
    at true o is = cc
    at false None is = cc
    at false (Some m) is = let same : message_of s n m ≡ p = cc in
        sym (ap (λ (q : Pending). q.seq) same)

-- an acknowledgement
pub kept_all-acked : (s : Sending) (n : ℕ)
    → kept_all (record s { acked = s.acked ++ n ∷ [] }) ≡ filter (λ p. not (eqb p.seq n))
    (kept_all s)
kept_all-acked s n =
    let after : Sending = record s { acked = s.acked ++ n ∷ [] } in
    let other : Pending → Bool = λ p. not (eqb p.seq n) in
    same_over (kept_at after) (λ k. where_passes other (kept_at s k)) (length s.put)
    (λ k. ⊎_elim
    (λ (same : k ≡ n). rw (same, has_number-last s.acked n)
    (sym (gone n (kept_at s n) refl (λ p is. kept_at-seq s n p is))))
    (λ (apart : k ≢ n). rw (has_number-other s.acked n k apart)
    (sym (stays k apart (kept_at s k) (λ p is. kept_at-seq s k p is))))
    (cases_eq k n))
    ∙ sym (filter-filter_map other (kept_at s) (range_with_len 0 (length s.put)))
  where
    gone : (k : ℕ) (o : Option Pending)
        → k ≡ n
        → ((p : Pending) → o ≡ Some p → p.seq ≡ k)
        → where_passes (λ p. not (eqb p.seq n)) o ≡ None
    gone k None same number = refl
    gone k (Some p) same number = rw (eq-eqb p.seq n (number p refl ∙ same)) refl

    stays : (k : ℕ)
        → k ≢ n
        → (o : Option Pending)
        → ((p : Pending) → o ≡ Some p → p.seq ≡ k)
        → where_passes (λ p. not (eqb p.seq n)) o ≡ o
    stays k apart None number = refl
    stays k apart (Some p) number = rw (ne_eqb p.seq n (λ e. apart (sym (number p refl) ∙ e))) refl

-- a change at one number: what is kept of it changes so, and of the others stays
changed : (s after : Sending) (n : ℕ) (change : Pending → Pending) → after.put ≡ s.put
    → ((k : ℕ) → kept_at after k ≡ option_map (λ (p : Pending). cond (eqb p.seq n) (change p) p)
    (kept_at s k))
    → kept_all after ≡ changed_at n change (kept_all s)
changed s after n change put each =
    ap (λ (ms : List PutMessage). filter_map (kept_at after) (range_with_len 0 (length ms))) put
    ∙ same_over (kept_at after)
    (λ k. option_map (λ (p : Pending). cond (eqb p.seq n) (change p) p) (kept_at s k))
    (length s.put) each
    ∙ sym (map-filter_map (λ (p : Pending). cond (eqb p.seq n) (change p) p) (kept_at s)
    (range_with_len 0 (length s.put)))

-- what is kept of a number, through a change of what is told of it
changed_kept : (s after : Sending) (n k : ℕ) (change : Pending → Pending)
    → has_number after.acked k ≡ has_number s.acked k
    → slice_get after.put k ≡ slice_get s.put k
    → ((m : PutMessage) → message_of after k m ≡ cond (eqb k n) (change (message_of s k m))
    (message_of s k m))
    → kept_at after k ≡ option_map (λ (p : Pending). cond (eqb p.seq n) (change p) p) (kept_at s k)
changed_kept s after n k change acked put each =
    rw (acked, put) (at (has_number s.acked k) (slice_get s.put k))
  where
    at : (b : Bool) (o : Option PutMessage)
        → cond b None (option_map (message_of after k) o) ≡ option_map
        (λ (p : Pending). cond (eqb p.seq n) (change p) p)
        (cond b None (option_map (message_of s k) o))
    at true o = refl
    at false None = refl
    at false (Some m) = ap (λ (p : Pending). Some p) (each m)

-- a transmission
pub kept_all-emitted : (s : Sending) (n now : ℕ)
    → kept_all
    (record s {
      emitted = s.emitted ++ n ∷ [];
      moments = s.moments ++ (n, now) ∷ [];
      sent = s.sent ++ n ∷ [];
      due = filter (λ k. not (eqb k n)) s.due;
    })
    ≡ changed_at n (transmitted now) (kept_all s)
kept_all-emitted s n now =
    let after : Sending
    = record s {
      emitted = s.emitted ++ n ∷ [];
      moments = s.moments ++ (n, now) ∷ [];
      sent = s.sent ++ n ∷ [];
      due = filter (λ k. not (eqb k n)) s.due;
    } in
    changed s after n (transmitted now) refl
    (λ k. changed_kept s after n k (transmitted now) refl refl (λ m. ⊎_elim
    (λ (same : k ≡ n). rw (
      same,
      eq-eqb n n refl,
      has_number-last s.emitted n,
      has_number-last s.sent n,
      has_number-without s.due n,
      last_moment-same s.moments n now,
    ) refl)
    (λ (apart : k ≢ n). rw (
      ne_eqb k n apart,
      has_number-other s.emitted n k apart,
      has_number-other s.sent n k apart,
      has_number-kept s.due n k apart,
      last_moment-other s.moments n k now apart,
    ) refl)
    (cases_eq k n)))

-- a mark
pub kept_all-marked : (s : Sending) (n : ℕ)
    → kept_all (record s { due = s.due ++ n ∷ [] }) ≡ changed_at n marked (kept_all s)
kept_all-marked s n =
    let after : Sending = record s { due = s.due ++ n ∷ [] } in
    changed s after n marked refl (λ k. changed_kept s after n k marked refl refl (λ m. ⊎_elim
    (λ (same : k ≡ n). rw (same, eq-eqb n n refl, has_number-last s.due n) refl)
    (λ (apart : k ≢ n). rw (ne_eqb k n apart, has_number-other s.due n k apart) refl)
    (cases_eq k n)))

-- an opening
pub kept_all-unsent : (s : Sending) → kept_all (record s { sent = [] }) ≡ map unsent (kept_all s)
kept_all-unsent s =
    let after : Sending = record s { sent = [] } in
    same_over (kept_at after) (λ k. option_map unsent (kept_at s k)) (length s.put)
    (λ k. at k (has_number s.acked k) (slice_get s.put k))
    ∙ sym (map-filter_map unsent (kept_at s) (range_with_len 0 (length s.put)))
  where
    at : (k : ℕ) (b : Bool) (o : Option PutMessage)
        → cond b None (option_map (message_of (record s { sent = [] }) k) o) ≡ option_map unsent
        (cond b None (option_map (message_of s k) o))
    at k true o = refl
    at k false None = refl
    at k false (Some m) = refl

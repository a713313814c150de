-- Two replays of a journal that halt have done the same records.
use Rattle.std.proofs.Common.{ℕ, ◌≡◌, suc, List, [], ◌∷◌, ◌++◌, ◌⊎◌, inl, inr, ⊎_elim, refl, sym, ap, subst, ◌∙◌, arith, length}
use Rattle.std.specs.List.{All, AllZip}
use Rattle.std.proofs.lemmas.List.{append-nil, append_cancel_left}
use Rattle.std.proofs.lemmas.List.Elements.{All-head, All-tail}
use Rattle.chan_values.specs.declared.side.Side.{Side}
use Rattle.channel_core.specs.Laws.{IsPrefixOf}
use Rattle.session_audit.specs.declared.act.Act.{Act}
use Rattle.session_audit.specs.Journal.{IsRecordOf, records_at}
use Rattle.session_audit.specs.Laws.{IsStuck}
use Rattle.session_audit.specs.Moves.{CanMove, Move, acts_at, move_of}
use Rattle.session_audit.specs.Verdict.{IsHalted, SaysOne}
use Rattle.session_audit.proofs.OrderLemmas.{order_is_free, prefix_both}

-- ---- two fronts of one list of records, with the acts that they say

-- the acts of the first front go on to those of the second, and so do the records
record GoesOn (side : Side) (acts more : List Act) (left : List (List ℕ)) : Type 0 where
  rest : List Act
  acts_are : acts ++ rest ≡ more
  shown : (act : Act) (behind : List Act)
      → rest ≡ act ∷ behind
      → (r : List ℕ) × (tail : List (List ℕ)) × (left ≡ r ∷ tail) × IsRecordOf side act r

-- the acts behind a front are said by the records behind it
next_record : (side : Side) (rest : List Act) (mid tail left : List (List ℕ))
    → mid ++ tail ≡ left
    → AllZip (IsRecordOf side) rest mid
    → (act : Act) (behind : List Act)
    → rest ≡ act ∷ behind
    → (r : List ℕ) × (more : List (List ℕ)) × (left ≡ r ∷ more) × IsRecordOf side act r
next_record side [] [] tail left is all act behind e = cc
next_record side [] (r ∷ mid) tail left is all act behind e = absurd all
next_record side (a ∷ rest) [] tail left is all act behind e = absurd all
next_record side (a ∷ rest) (r ∷ mid) tail left is all act behind e =
    let same : a ≡ act = cc in
    (r, mid ++ tail, sym is, subst (λ (x : Act). IsRecordOf side x r) same all.0)

fronts : (side : Side) (acts others : List Act) (done left too rest : List (List ℕ))
    → All (SaysOne side) (done ++ left)
    → done ++ left ≡ too ++ rest
    → AllZip (IsRecordOf side) acts done
    → AllZip (IsRecordOf side) others too
    → GoesOn side acts others left ⊎ GoesOn side others acts rest
fronts side [] others [] left too rest one same all some =
    inl (record {
      rest = others;
      acts_are = refl;
      shown = next_record side others too rest left (sym same) some;
    })
fronts side (a ∷ acts) others [] left too rest one same all some = absurd all
fronts side [] others (r ∷ done) left too rest one same all some = absurd all
fronts side (a ∷ acts) [] (r ∷ done) left [] rest one same all some =
    inr (record {
      rest = a ∷ acts;
      acts_are = refl;
      shown = next_record side (a ∷ acts) (r ∷ done) left rest same all;
    })
fronts side (a ∷ acts) (b ∷ others) (r ∷ done) left [] rest one same all some = absurd some
fronts side (a ∷ acts) [] (r ∷ done) left (q ∷ too) rest one same all some = absurd some
fronts side (a ∷ acts) (b ∷ others) (r ∷ done) left (q ∷ too) rest one same all some =
    let first : r ≡ q = cc in
    let tail : done ++ left ≡ too ++ rest = cc in
    let equal : a ≡ b
    = All-head (SaysOne side) r (done ++ left) one a b all.0
    (subst (IsRecordOf side b) (sym first) some.0) in
    ⊎_elim
    (λ (x : GoesOn side acts others left).
    inl (record {
      rest = x.rest;
      acts_are = ap (λ (y : Act). y ∷ (acts ++ x.rest)) equal ∙ ap (λ (l : List Act). b ∷ l) x.acts_are;
      shown = x.shown;
    }))
    (λ (x : GoesOn side others acts rest).
    inr (record {
      rest = x.rest;
      acts_are = ap (λ (y : Act). y ∷ (others ++ x.rest)) (sym equal)
          ∙ ap (λ (l : List Act). a ∷ l) x.acts_are;
      shown = x.shown;
    }))
    (fronts side acts others done left too rest
    (All-tail (SaysOne side) r (done ++ left) one) tail all.1 some.1)

-- lists that zip are as long as each other
length-zip : (side : Side) (acts : List Act) (done : List (List ℕ))
    → AllZip (IsRecordOf side) acts done
    → length acts ≡ length done
length-zip side [] [] all = refl
length-zip side [] (r ∷ done) all = absurd all
length-zip side (a ∷ acts) [] all = absurd all
length-zip side (a ∷ acts) (r ∷ done) all = ap suc (length-zip side acts done all.1)

-- two fronts of the same length are the same
pub same_front : {X : Type 0} (xs ys more rest : List X)
    → xs ++ more ≡ ys ++ rest
    → length xs ≡ length ys
    → xs ≡ ys
same_front [] [] more rest is long = refl
same_front [] (y ∷ ys) more rest is long = absurd (omega arith)
same_front (x ∷ xs) [] more rest is long = absurd (omega arith)
same_front {X} (x ∷ xs) (y ∷ ys) more rest is long =
    let first : x ≡ y = cc in
    let tail : xs ++ more ≡ ys ++ rest = cc in
    ap (λ (z : X). z ∷ xs) first
    ∙ ap (λ (l : List X). y ∷ l) (same_front xs ys more rest tail (omega arith))

-- ---- two halts have done the same

-- one of two halts has come no further than the other
no_further : (w : ℕ) (records : List (List ℕ)) (moves others : List Move)
    → ((side : Side) → All (SaysOne side) (records_at side records))
    → (halt : IsHalted w records moves)
    → (too : IsHalted w records others)
    → (side : Side)
    → IsPrefixOf (acts_at side others) (acts_at side moves)
no_further w records moves others one halt too =
    order_is_free w acts moves others
    (record { run = halt.run; front = λ s. mine s (both s) })
    stuck
    (record { run = too.run; front = λ s. theirs s (both s) })
  where
    Both : Side → Type 0
    Both s =
        GoesOn s (acts_at s moves) (acts_at s others) (halt.left s)
        ⊎ GoesOn s (acts_at s others) (acts_at s moves) (too.left s)

    both : (s : Side) → Both s
    both s =
        fronts s (acts_at s moves) (acts_at s others)
        (halt.done s) (halt.left s) (too.done s) (too.left s)
        (subst (All (SaysOne s)) (sym (halt.split s)) (one s))
        (halt.split s ∙ sym (too.split s))
        (halt.shown s)
        (too.shown s)

    longer : (s : Side) → Both s → List Act
    longer s (inl x) = acts_at s others
    longer s (inr x) = acts_at s moves

    acts : Side → List Act
    acts s = longer s (both s)

    mine : (s : Side) (b : Both s) → IsPrefixOf (acts_at s moves) (longer s b)
    mine s (inl x) = (x.rest, x.acts_are)
    mine s (inr x) = ([], append-nil (acts_at s moves))

    theirs : (s : Side) (b : Both s) → IsPrefixOf (acts_at s others) (longer s b)
    theirs s (inl x) = ([], append-nil (acts_at s others))
    theirs s (inr x) = (x.rest, x.acts_are)

    stuck_at : (s : Side) (b : Both s) (act : Act) (rest : List Act)
        → acts_at s moves ++ act ∷ rest ≡ longer s b
        → CanMove w moves (move_of s act)
        → ⊥
    stuck_at s (inl x) act rest is can =
        let behind : x.rest ≡ act ∷ rest
        = append_cancel_left (acts_at s moves) x.rest (act ∷ rest) (x.acts_are ∙ sym is) in
        let next = x.shown act rest behind in
        halt.stuck s act next.0 next.1 next.2 next.3 can
    stuck_at s (inr x) act rest is can =
        let never : act ∷ rest ≡ []
        = append_cancel_left (acts_at s moves) (act ∷ rest) []
        (is ∙ sym (append-nil (acts_at s moves))) in
        absurd (cc)

    stuck : IsStuck w acts moves
    stuck s act rest is can = stuck_at s (both s) act rest is can

-- two halts have done the same records
pub halts_agree : (w : ℕ) (records : List (List ℕ)) (moves others : List Move)
    → ((side : Side) → All (SaysOne side) (records_at side records))
    → (halt : IsHalted w records moves)
    → (too : IsHalted w records others)
    → (side : Side)
    → halt.done side ≡ too.done side
halts_agree w records moves others one halt too side =
    let same : acts_at side others ≡ acts_at side moves
    = prefix_both (acts_at side others) (acts_at side moves)
    (no_further w records moves others one halt too side)
    (no_further w records others moves one too halt side) in
    let long = length-zip side (acts_at side moves) (halt.done side) (halt.shown side) in
    let long_too = length-zip side (acts_at side others) (too.done side) (too.shown side) in
    same_front (halt.done side) (too.done side) (halt.left side) (too.left side)
    (halt.split side ∙ sym (too.split side))
    (sym long ∙ ap (λ (l : List Act). length l) (sym same) ∙ long_too)

-- What a seat gathers while others are split off from it and joined again.
use Rattle.std.proofs.Common.{◌≡◌, List, [], ◌∷◌, ◌++◌, refl, sym, ap, ◌∙◌, subst, append_assoc}
use Rattle.std.proofs.lemmas.List.{append-nil}
use Rattle.turn_lock.specs.declared.value.Turn.{Ghosts}
use Rattle.turn_lock.specs.declared.seat.Seat.{Seat}
use Rattle.turn_lock.specs.declared.view.Entry.{Entry}
use Rattle.turn_lock.specs.declared.view.Share.{Share}
use Rattle.turn_lock.specs.Seats.{GetsHalf, KeepsHalf, TakesIn, mine_of, number_of, share_of}
use Rattle.turn_lock.specs.Views.{SameShare, half_of}
use Rattle.session_run.specs.Adds.{AddsCalls, entries_by}
use Rattle.session_crews.specs.Gathers.{Gathers, gathered}
use Rattle.session_run.proofs.AddsLemmas.{entries_by-append}
use Rattle.session_crews.proofs.ShareLemmas.{SameShare-refl, gathered-join, gathered-split}

module _ {V C A T : Type 0} {g : Ghosts V C A T} where
  -- nothing yet
  pub Gathers-none : (a : Seat V C A T g) → Gathers a [] [] a
  Gathers-none a = record {
    same_lock = refl;
    same_number = refl;
    same_setting = refl;
    mine = sym (append-nil (mine_of a));
    share = SameShare-refl (share_of a);
  }

  -- calls of its own
  pub Gathers-calls : (a b c : Seat V C A T g) (xs ys : List (C × A)) (out : List Share)
      → Gathers a (entries_by (number_of a) xs) out b → AddsCalls b ys c
      → Gathers a (entries_by (number_of a) (xs ++ ys)) out c
  Gathers-calls a b c xs ys out so adds = record {
    same_lock = adds.same_seat.same_lock ∙ so.same_lock;
    same_number = adds.same_seat.same_number ∙ so.same_number;
    same_setting = adds.same_seat.same_setting ∙ so.same_setting;
    mine =
        adds.mine
        ∙ ap (λ n. mine_of b ++ entries_by n ys) so.same_number
        ∙ ap (λ l. l ++ entries_by (number_of a) ys) so.mine
        ∙ append_assoc (mine_of a) (entries_by (number_of a) xs) (entries_by (number_of a) ys)
        ∙ ap (λ l. mine_of a ++ l) (sym (entries_by-append (number_of a) xs ys));
    share =
        subst (λ s. SameShare (share_of a) (gathered s out)) (sym adds.same_seat.same_share)
        so.share;
  }

  -- a seat was split off
  pub Gathers-split : (a b c d : Seat V C A T g) (entries : List (Entry C A)) (out : List Share)
      → Gathers a entries out b → KeepsHalf b c → GetsHalf b d
      → Gathers a entries (out ++ share_of d ∷ []) c
  Gathers-split a b c d entries out so kept given = record {
    same_lock = kept.same_lock ∙ so.same_lock;
    same_number = kept.same_number ∙ so.same_number;
    same_setting = kept.same_setting ∙ so.same_setting;
    mine = kept.same_mine ∙ so.mine;
    share =
        subst (λ s. SameShare (share_of a) (gathered s (out ++ share_of d ∷ [])))
        (sym kept.half_share)
        (subst (λ s. SameShare (share_of a) (gathered (half_of (share_of b)) (out ++ s ∷ [])))
        (sym given.half_share)
        (gathered-split (share_of a) (share_of b) out so.share));
  }

  -- what became of the latest that was split off was joined
  pub Gathers-join : (a b c first last : Seat V C A T g) (xs ys : List (Entry C A))
      (out : List Share)
      → Gathers a xs (out ++ share_of first ∷ []) b
      → mine_of first ≡ []
      → Gathers first ys [] last
      → TakesIn b last c
      → Gathers a (xs ++ ys) out c
  Gathers-join a b c first last xs ys out so none its joined = record {
    same_lock = joined.same_lock ∙ so.same_lock;
    same_number = joined.same_number ∙ so.same_number;
    same_setting = joined.same_setting ∙ so.same_setting;
    mine =
        joined.mine
        ∙ ap (λ l. mine_of b ++ l) (its.mine ∙ ap (λ l. l ++ ys) none)
        ∙ ap (λ l. l ++ ys) so.mine
        ∙ append_assoc (mine_of a) xs ys;
    share =
        subst (λ s. SameShare (share_of a) (gathered s out)) (sym joined.share)
        (gathered-join (share_of a) (share_of b) out (share_of first) (share_of last) so.share
        its.share);
  }

-- What a seat gathers while others are split off from it and joined again.
use Rattle.std.proofs.Common.{◌≡◌, List, [], ◌∷◌, ◌++◌, refl, sym, ap, ◌∙◌, subst, append_assoc}
use Rattle.std.proofs.lemmas.List.{append-nil}
use Rattle.turn_lock.specs.declared.value.Turn.{Ghosts}
use Rattle.turn_lock.specs.declared.seat.Seat.{Seat}
use Rattle.turn_lock.specs.declared.view.Entry.{Entry}
use Rattle.turn_lock.specs.declared.view.Share.{Share}
use Rattle.turn_lock.specs.Seats.{GetsHalf, KeepsHalf, TakesIn, mine_of, number_of, share_of}
use Rattle.turn_lock.specs.Views.{SameShare, half_of}
use Rattle.session_run.specs.Adds.{AddsCalls, entries_by}
use Rattle.relay_accept.specs.Gathers.{Gathers, gathered}
use Rattle.relay_accept.proofs.ShareLemmas.{SameShare-refl, gathered-join, gathered-split}

module _ {V C A T : Type 0} {g : Ghosts V C A T} where
  -- nothing yet
  pub Gathers-none : (a : Seat V C A T g) → Gathers a [] [] a
  Gathers-none a = record {
    same_lock = refl;
    same_number = refl;
    same_setting = refl;
    mine = sym (append-nil (mine_of a));
    share = SameShare-refl (share_of a);
  }

  -- calls of its own
  pub Gathers-calls : (a b c : Seat V C A T g) (entries : List (Entry C A)) (calls : List (C × A))
      (out : List Share)
      → Gathers a entries out b → AddsCalls b calls c
      → Gathers a (entries ++ entries_by (number_of a) calls) out c
  Gathers-calls a b c entries calls out so adds = record {
    same_lock = adds.same_seat.same_lock ∙ so.same_lock;
    same_number = adds.same_seat.same_number ∙ so.same_number;
    same_setting = adds.same_seat.same_setting ∙ so.same_setting;
    mine =
        adds.mine
        ∙ ap (λ n. mine_of b ++ entries_by n calls) so.same_number
        ∙ ap (λ l. l ++ entries_by (number_of a) calls) so.mine
        ∙ append_assoc (mine_of a) entries (entries_by (number_of a) calls);
    share =
        subst (λ s. SameShare (share_of a) (gathered s out)) (sym adds.same_seat.same_share)
        so.share;
  }

  -- a seat was split off
  pub Gathers-split : (a b c d : Seat V C A T g) (entries : List (Entry C A)) (out : List Share)
      → Gathers a entries out b → KeepsHalf b c → GetsHalf b d
      → Gathers a entries (out ++ share_of d ∷ []) c
  Gathers-split a b c d entries out so kept given = record {
    same_lock = kept.same_lock ∙ so.same_lock;
    same_number = kept.same_number ∙ so.same_number;
    same_setting = kept.same_setting ∙ so.same_setting;
    mine = kept.same_mine ∙ so.mine;
    share =
        subst (λ s. SameShare (share_of a) (gathered s (out ++ share_of d ∷ [])))
        (sym kept.half_share)
        (subst (λ s. SameShare (share_of a) (gathered (half_of (share_of b)) (out ++ s ∷ [])))
        (sym given.half_share)
        (gathered-split (share_of a) (share_of b) out so.share));
  }

  -- what became of one that was split off was joined: it made these calls alone
  pub Gathers-join : (a b c first last : Seat V C A T g) (entries : List (Entry C A))
      (calls : List (C × A)) (before behind : List Share)
      → Gathers a entries (before ++ share_of first ∷ behind) b
      → mine_of first ≡ []
      → AddsCalls first calls last
      → TakesIn b last c
      → Gathers a (entries ++ entries_by (number_of first) calls) (before ++ behind) c
  Gathers-join a b c first last entries calls before behind so none its joined = record {
    same_lock = joined.same_lock ∙ so.same_lock;
    same_number = joined.same_number ∙ so.same_number;
    same_setting = joined.same_setting ∙ so.same_setting;
    mine =
        joined.mine
        ∙ ap (λ l. mine_of b ++ l)
        (its.mine ∙ ap (λ l. l ++ entries_by (number_of first) calls) none)
        ∙ ap (λ l. l ++ entries_by (number_of first) calls) so.mine
        ∙ append_assoc (mine_of a) entries (entries_by (number_of first) calls);
    share =
        subst (λ s. SameShare (share_of a) (gathered s (before ++ behind))) (sym joined.share)
        (gathered-join (share_of a) (share_of b) before behind (share_of first) (share_of last)
        so.share
        (subst (SameShare (share_of first)) (sym its.same_seat.same_share)
        (SameShare-refl (share_of first))));
  }

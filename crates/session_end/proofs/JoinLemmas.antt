-- What is known of the seat into which those of the workers were joined.
use Rattle.std.proofs.Common.{◌≡◌, ℕ, List, [], ◌∷◌, ◌++◌, refl, sym, ap, ◌∙◌, subst, append_assoc}
use Rattle.turn_lock.specs.declared.value.Turn.{Ghosts}
use Rattle.turn_lock.specs.declared.seat.Seat.{Seat}
use Rattle.turn_lock.specs.declared.view.Entry.{Entry}
use Rattle.turn_lock.specs.Seats.{HasWholeShare, mine_of, number_of, setting_of, share_of}
use Rattle.turn_lock.specs.Views.{IsWhole, SameShare, sum_of}
use Rattle.session_run.specs.Adds.{AddsCalls, entries_by}
use Rattle.session_run.proofs.AddsLemmas.{first_entries, more_entries}
use Rattle.session_crews.specs.Gathers.{Gathers}
use Rattle.session_end.specs.Parts.{entries_in}
use Rattle.session_end.specs.Seats.{IsJoinOfFive, IsJoinOfFour, IsSplitInFive, IsSplitInFour}
use Rattle.session_end.proofs.HistoryLemmas.{entries_in-push}
use Rattle.session_end.proofs.ShareLemmas.{whole_five_same, whole_four_same}

module _ {V C A T : Type 0} {g : Ghosts V C A T} where
  -- calls of a seat that has gathered those of these parts
  pub Gathers-then : (a b c : Seat V C A T g) (parts : List (ℕ × List (C × A))) (n : ℕ)
      (calls : List (C × A))
      → n ≡ number_of a
      → Gathers a (entries_in parts) [] b
      → AddsCalls b calls c
      → Gathers a (entries_in (parts ++ (n, calls) ∷ [])) [] c
  Gathers-then a b c parts n calls is so adds = record {
    same_lock = adds.same_seat.same_lock ∙ so.same_lock;
    same_number = adds.same_seat.same_number ∙ so.same_number;
    same_setting = adds.same_seat.same_setting ∙ so.same_setting;
    mine =
        adds.mine
        ∙ ap (λ m. mine_of b ++ entries_by m calls) (so.same_number ∙ sym is)
        ∙ ap (λ l. l ++ entries_by n calls) so.mine
        ∙ append_assoc (mine_of a) (entries_in parts) (entries_by n calls)
        ∙ ap (λ l. mine_of a ++ l) (sym (entries_in-push parts n calls));
    share =
        subst (λ s. SameShare (share_of a) s) (sym adds.same_seat.same_share) so.share;
  }

module _ {V C A T : Type 0} {g : Ghosts V C A T}
    (old main one two three four m a b d s : Seat V C A T g)
    (cm ca cb cd : List (C × A)) (parts : List (ℕ × List (C × A)))
    (split : IsSplitInFive old main one two three four)
    (adds_m : AddsCalls main cm m) (adds_a : AddsCalls one ca a)
    (adds_b : AddsCalls two cb b) (adds_d : AddsCalls three cd d)
    (gathers : Gathers four (entries_in parts) [] s) where
  -- the shares of the seats make up the whole
  pub five_whole : HasWholeShare old
      → IsWhole
      (sum_of (share_of m)
      (sum_of (share_of a) (sum_of (share_of b) (sum_of (share_of d) (share_of s)))))
  five_whole whole =
      whole_five_same (share_of m) (share_of a) (share_of b) (share_of d) (share_of four)
      (share_of s) gathers.share
      (subst IsWhole
      (λ i. sum_of (sym adds_m.same_seat.same_share i)
      (sum_of (sym adds_a.same_seat.same_share i)
      (sum_of (sym adds_b.same_seat.same_share i)
      (sum_of (sym adds_d.same_seat.same_share i) (share_of four)))))
      (split.whole whole))

  module _ (all closed : Seat V C A T g) (last : List (C × A))
      (joined : IsJoinOfFive m a b d s all) (adds : AddsCalls all last closed) where
    pub five_number : number_of all ≡ number_of old
    five_number = joined.same_number ∙ adds_m.same_seat.same_number ∙ split.kept.same_number

    pub five_setting : setting_of closed ≡ setting_of old
    five_setting =
        adds.same_seat.same_setting
        ∙ joined.same_setting
        ∙ adds_m.same_seat.same_setting
        ∙ split.kept.same_setting

    pub five_mine : mine_of old ≡ []
        → mine_of closed
        ≡ entries_in ((number_of old, cm) ∷ (number_of one, ca) ∷ (number_of two, cb)
        ∷ (number_of three, cd) ∷ (parts ++ (number_of old, last) ∷ []))
    five_mine none =
        let M : List (Entry C A) = entries_by (number_of old) cm in
        let X : List (Entry C A) = entries_by (number_of one) ca in
        let Y : List (Entry C A) = entries_by (number_of two) cb in
        let Z : List (Entry C A) = entries_by (number_of three) cd in
        let P : List (Entry C A) = entries_in parts in
        let E : List (Entry C A) = entries_by (number_of old) last in
        let is_m : mine_of m ≡ M =
        first_entries main m (number_of old) cm (split.kept.same_mine ∙ none)
        split.kept.same_number adds_m in
        let is_a : mine_of a ≡ X =
        first_entries one a (number_of one) ca split.first_above.none_made refl adds_a in
        let is_b : mine_of b ≡ Y =
        first_entries two b (number_of two) cb split.second_above.none_made refl adds_b in
        let is_d : mine_of d ≡ Z =
        first_entries three d (number_of three) cd split.third_above.none_made refl adds_d in
        let is_s : mine_of s ≡ P =
        gathers.mine ∙ ap (λ l. l ++ P) split.fourth_above.none_made in
        let is_all : mine_of all ≡ M ++ (X ++ (Y ++ (Z ++ P))) =
        joined.mine ∙ (λ i. is_m i ++ (is_a i ++ (is_b i ++ (is_d i ++ is_s i)))) in
        more_entries all closed (number_of old) last five_number adds
        ∙ ap (λ l. l ++ E) is_all
        ∙ append_assoc M (X ++ (Y ++ (Z ++ P))) E
        ∙ ap (λ l. M ++ l) (append_assoc X (Y ++ (Z ++ P)) E)
        ∙ ap (λ l. M ++ (X ++ l)) (append_assoc Y (Z ++ P) E)
        ∙ ap (λ l. M ++ (X ++ (Y ++ l))) (append_assoc Z P E)
        ∙ ap (λ l. M ++ (X ++ (Y ++ (Z ++ l))))
        (sym (entries_in-push parts (number_of old) last))

module _ {V C A T : Type 0} {g : Ghosts V C A T}
    (old main one two three a b s : Seat V C A T g)
    (ca cb : List (C × A)) (parts : List (ℕ × List (C × A)))
    (split : IsSplitInFour old main one two three)
    (adds_a : AddsCalls one ca a) (adds_b : AddsCalls two cb b)
    (gathers : Gathers three (entries_in parts) [] s) where
  pub four_whole : HasWholeShare old
      → IsWhole
      (sum_of (share_of main) (sum_of (share_of a) (sum_of (share_of b) (share_of s))))
  four_whole whole =
      whole_four_same (share_of main) (share_of a) (share_of b) (share_of three) (share_of s)
      gathers.share
      (subst IsWhole
      (λ i. sum_of (share_of main)
      (sum_of (sym adds_a.same_seat.same_share i)
      (sum_of (sym adds_b.same_seat.same_share i) (share_of three))))
      (split.whole whole))

  pub four_mine : (all : Seat V C A T g) → IsJoinOfFour main a b s all → mine_of old ≡ []
      → mine_of all
      ≡ entries_in ((number_of one, ca) ∷ (number_of two, cb) ∷ parts)
  four_mine all joined none =
      let X : List (Entry C A) = entries_by (number_of one) ca in
      let Y : List (Entry C A) = entries_by (number_of two) cb in
      let P : List (Entry C A) = entries_in parts in
      let is_m : mine_of main ≡ [] = split.kept.same_mine ∙ none in
      let is_a : mine_of a ≡ X =
      first_entries one a (number_of one) ca split.first_above.none_made refl adds_a in
      let is_b : mine_of b ≡ Y =
      first_entries two b (number_of two) cb split.second_above.none_made refl adds_b in
      let is_s : mine_of s ≡ P =
      gathers.mine ∙ ap (λ l. l ++ P) split.third_above.none_made in
      joined.mine ∙ (λ i. is_m i ++ (is_a i ++ (is_b i ++ is_s i)))

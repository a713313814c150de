-- The table of a new lock keeps the rule, and what is known of one that is closed.
use Rattle.std.proofs.Common.{◌≡◌, ℕ, subst, ◌-◌, ◌^◌, ◌≤◌, false, List, [], ◌∷◌, length, sym, refl, ap, ◌∙◌, ⊎_elim, arith, Some}
use mathlib.Core.Option.{some}
use mathlib.Core.Option as maybe
use lib.ListN.{get_elem?}
use Rattle.atomic_table.specs.Table.{opening, Final, Seen}
use Rattle.turn_lock.specs.declared.value.Turn.{Ghosts}
use Rattle.turn_lock.specs.declared.view.Entry.{Entry}
use Rattle.turn_lock.specs.declared.view.Stage.TheVariants.{Waits}
use Rattle.turn_lock.specs.declared.view.View.{View}
use Rattle.turn_lock.specs.declared.view.Locked.{Locked}
use Rattle.turn_lock.specs.Histories.{calls_of}
use Rattle.turn_lock.specs.Stages.{is_serving, is_spent}
use Rattle.turn_lock.specs.Views.{IsWhole, HasAll, first_view}
use Rattle.turn_lock.specs.Rule.{Slot, IsLive, StandsFor}
use Rattle.turn_lock.specs.Steps.{MayClose}
use Rattle.turn_lock.proofs.PlaceLemmas.{At, same_there, at_only}
use Rattle.turn_lock.proofs.PrefixLemmas.{prefix_length, prefix_whole}
use Rattle.turn_lock.proofs.StageLemmas.{serving_lives}
use Rattle.turn_lock.proofs.RuleLemmas.{St, Rule, NoTurn, free_turn, sole, all_seen, has_all, bool_cases}
use Rattle.turn_lock.proofs.RuleLemmas.{stage_at}

module _ {V C A T : Type 0} (t : Ghosts V C A T) (made_with : T) where
  abbrev K : St t made_with → Type 0
  K s = Rule t made_with s

  pub opens : (x : Locked V C A) → t.legal made_with [] → t.stands x.value [] → t.setting x.value ≡ made_with
      → K (opening (0 ∷ 0 ∷ []) (Some x ∷ []) (first_view made_with))
  opens x lawful fresh same = let v : View C A T = first_view made_with in record {
    log = [];
    owner = λ q. q;
    two_words = refl;
    one_slot = refl;
    served = refl;
    drawn = refl;
    fits = omega arith;
    is_legal = lawful;
    home = λ _. (x, refl, record { value_stands = fresh; value_set = same });
    each = λ j u e _.
        let o = at_only v u j e in
        subst (λ (z : ℕ × View C A T). IsLive made_with [] (λ (q : ℕ). q) 0 z.0 z.1)
        (λ i. (sym o.0 i, o.1 i)) record {
          has_setting = refl;
          has_seen = ([], refl);
          has_share = omega arith;
          owns_own = refl;
          made_own = λ q _. refl;
          no_others = λ q _. refl;
          seen_own = λ q _. refl;
          in_stage = refl;
        };
    gone = λ j u e sp.
        let is : is_spent u.stage ≡ false =
        ap (λ (z : View C A T). is_spent z.stage) (sym (at_only v u j e).1) in absurd (cc);
    apart = λ i j u u' k e e' _ _. (at_only v u i e).0 ∙ sym (at_only v u' j e').0;
    given = λ q lt. let is : q ≡ 0 = omega arith in (v, ap (get_elem? (v ∷ [])) is, refl);
    not_given = λ q _. (refl, refl);
    whole = (0, v, refl, refl, refl);
    shares = λ d _.
        let none_less : d - 0 ≡ d = omega arith in
        let is : 2 ^ (d - 0) ≡ 2 ^ d = ap (λ (z : ℕ). 2 ^ z) none_less in omega arith;
  }

  -- what lies in the slots where the lock may be closed, and that the history is legal
  abbrev Rests : List (maybe.Option (Slot V C A)) → T → List (Entry C A) → Type 0
  Rests homes setting h = t.legal setting (calls_of h)
      × ((x : Locked V C A) × At homes 0 (some (Some x)) × StandsFor t.legal t.stands t.setting setting h x)

  may_lives : (v : View C A T) → MayClose v → is_spent v.stage ≡ false
  may_lives v may = ⊎_elim (λ a. ap is_spent a.0) (λ b. ap is_spent b) may

  rests : (s : St t made_with) (r : K s) (id : ℕ) (v : View C A T) → At s.views id v → MayClose v
      → Rests s.homes v.setting v.seen
  rests s r id v at may =
      let live = r.each id v at (may_lives v may) in
      let so : v.seen ≡ r.log → NoTurn t made_with s.views → Rests s.homes v.setting v.seen = λ seen none_out.
      subst (λ (z : T × List (Entry C A)). Rests s.homes z.0 z.1)
      (λ i. (sym live.has_setting i, sym seen i)) (r.is_legal, r.home none_out) in
      ⊎_elim
      (λ a. so (all_seen t made_with s r id v at a.1) (λ j u e. bool_cases (is_serving u.stage)
      (λ on.
      let same = sole t made_with s r id v at a.1 j u e (serving_lives u.stage on) in
      ap (λ (z : View C A T). is_serving z.stage) (same_there s.views j id u v same e at) ∙ ap is_serving a.0)
      (λ off. off)))
      (λ b.
      let le : length r.log ≤ length v.seen =
      (stage_at t made_with s r id v (Waits (length v.seen)) at (may_lives v may) b).1 in
      let short = prefix_length v.seen r.log live.has_seen in
      so (prefix_whole v.seen r.log live.has_seen le)
      (free_turn t made_with s r id v (length v.seen) at b (omega arith)))
      may

  pub closes : (id : ℕ) (v : View C A T) (ws : List ℕ) (xs : List (Slot V C A)) → MayClose v
      → Final (Seen K id v) ws xs
      → t.legal v.setting (calls_of v.seen)
      × ((x : Locked V C A) × At xs 0 (Some x) × StandsFor t.legal t.stands t.setting v.setting v.seen x)
      × (IsWhole v.share → HasAll v)
  closes id v ws xs may f =
      let rest = rests f.0 f.1.0 id v f.1.1 may in
      let all = has_all t made_with f.0 f.1.0 id v f.1.1 (may_lives v may) in
      (rest.0, (rest.1.0, f.4 0 (Some rest.1.0) rest.1.1, rest.1.2), all)

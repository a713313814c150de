-- Splitting a seat keeps the rule of the lock.
use Rattle.std.proofs.Common.{◌≡◌, ℕ, subst, ◌+◌, ◌*◌, ◌-◌, ◌^◌, ◌<◌, ◌≤◌, ◌≢◌, ◌⊎◌, true, false, List, [], ◌∷◌, ◌++◌, length, set, sym, refl, ap, ◌∙◌, inl, inr, ⊎_elim, arith, length-append, length-set, Some, None}
use mathlib.Core.Logic.{dite}
use native.Mathlib.Decide.{ℕ_discrete, dec_lt}
use lib.ListN.{get_elem?}
use Rattle.std.specs.List.{sum_by}
use Rattle.std.proofs.lemmas.Nat.{pow-add}
use Rattle.std.proofs.lemmas.List.Sums.{sum_by_push}
use Rattle.atomic_table.specs.Table.{Splits}
use Rattle.atomic_table.proofs.Lists.{at_set, set_here, set_else, at_longer, at_last}
use Rattle.turn_lock.specs.declared.value.Turn.{Ghosts}
use Rattle.turn_lock.specs.declared.view.Stage.{Stage}
use Rattle.turn_lock.specs.declared.view.Stage.TheVariants.{Idle}
use Rattle.turn_lock.specs.declared.view.View.{View}
use Rattle.turn_lock.specs.Stages.{ticket_of, is_serving, is_spent, is_idle}
use Rattle.turn_lock.specs.Views.{parts_at, kept_half, given_half}
use Rattle.turn_lock.specs.Rule.{tickets_out, parts_out, InStage, IsLive}
use Rattle.turn_lock.proofs.PlaceLemmas.{At, same_there, at_below, at_end, sum_by-set_at}
use Rattle.turn_lock.proofs.PrefixLemmas.{none_before}
use Rattle.turn_lock.proofs.StageLemmas.{idle_is, live_as}
use Rattle.turn_lock.proofs.RuleLemmas.{Rule, next_of, ticket_in}

-- the views where that of the seat id becomes l, and a new seat has the view g
module _ {D : Type 0} (views : List D) (id : ℕ) (v l g : D) (at : At views id v) where
  abbrev cut : List D
  cut = set views id l ++ g ∷ []

  -- whose view one is after the cut: that of the seat, of another, or of the new one
  abbrev Found : ℕ → D → Type 0
  Found j u = ((j ≡ id) × (l ≡ u)) ⊎ (((j ≢ id) × At views j u) ⊎ ((j ≡ length views) × (g ≡ u)))

  found : (j : ℕ) (u : D) → At cut j u → Found j u
  found j u e = ⊎_elim
      (λ t. ⊎_elim (λ a. inl a) (λ b. inr (inl b)) (at_set views id j l u t))
      (λ t. inr (inr (t.0 ∙ length-set views id l, t.1)))
      (at_end (set views id l) g u j e)

  at_cut : At cut id l
  at_cut = at_longer (set views id l) (g ∷ []) id l (set_here views id l (at_below views id v at))

  at_rest : (j : ℕ) (u : D) → j ≢ id → At views j u → At cut j u
  at_rest j u other e = at_longer (set views id l) (g ∷ []) j u (set_else views id j l other ∙ e)

  at_new : At cut (length views) g
  at_new = at_last (set views id l) g (length views) (length-set views id l)

  length-cut : length cut ≡ length views + 1
  length-cut = length-append (set views id l) (g ∷ []) ∙ ap (λ (z : ℕ). z + 1) (length-set views id l)

  sum_by-cut : (f : D → ℕ) → sum_by f cut + f v ≡ sum_by f views + f l + f g
  sum_by-cut f =
      let more = sum_by_push f (set views id l) g in
      let one = sum_by-set_at f views id v l at in omega arith

  -- what holds of v, and of each view after the cut, held of each before
  before : (P : D → Type 0) → P v → ((j : ℕ) (u : D) → At cut j u → P u) → (j : ℕ) (u : D) → At views j u
      → P u
  before P here now j u e = dite (ℕ_discrete j id)
      (λ is. subst P (sym (same_there views j id u v is e at)) here)
      (λ other. now j u (at_rest j u other e))

module _ {V C A T : Type 0} (t : Ghosts V C A T) (made_with : T) where
  abbrev D : Type 0
  D = View C A T

  pub splits : (id : ℕ) (v : D) → is_idle v.stage ≡ true
      → Splits (Rule t made_with) id v (kept_half v) (given_half v)
  splits id v idle s r at =
      let l : D = kept_half v in
      let g : D = given_half v in
      let n : ℕ = length s.views in
      let vs : List D = cut s.views id v l g at in
      let st : v.stage ≡ Idle = idle_is v.stage idle in
      let lives : is_spent v.stage ≡ false = ap is_spent st in
      let live = r.each id v at lives in
      let near = at_below s.views id v at in
      let next : ℕ = next_of t made_with s r in
      let next' : ℕ = length r.log + tickets_out vs in
      let sum : tickets_out vs + ticket_in v.stage ≡ tickets_out s.views + ticket_in v.stage + 0 =
      sum_by-cut s.views id v l g at (λ (z : D). ticket_in z.stage) in
      let same : next ≡ next' = omega arith in
      let long : length vs ≡ n + 1 = length-cut s.views id v l g at in
      let number : v.number ≡ id = subst
      (λ (z : Stage C A). InStage made_with r.log r.owner next id v z) st live.in_stage in
      let idle_left = subst (InStage made_with r.log r.owner next id l) (sym st) number in
      let live_left =
      live_as made_with r.log r.owner id v l next next live refl refl refl live.has_seen live.seen_own idle_left in
      let live_right : IsLive made_with r.log r.owner next n g = record {
        has_setting = live.has_setting;
        has_seen = live.has_seen;
        has_share = live.has_share;
        owns_own = (r.not_given n (let le : n ≤ n = omega arith in le)).0;
        made_own = λ q own. dite (dec_lt q n)
            (λ lt. let m = r.given q lt in let below = at_below s.views (r.owner q) m.0 m.1 in
            absurd (omega arith))
            (λ ge. sym (r.not_given q (omega arith)).1);
        no_others = λ q other. refl;
        seen_own = λ q own. dite (dec_lt q n)
            (λ lt. let m = r.given q lt in let below = at_below s.views (r.owner q) m.0 m.1 in
            absurd (omega arith))
            (λ ge. let empty = (r.not_given q (omega arith)).1 in
            none_before q v.seen r.log live.has_seen empty ∙ sym empty);
        in_stage = (subst (λ (z : ℕ). z < n) (sym number) near, refl);
      } in record {
        log = r.log;
        owner = r.owner;
        two_words = r.two_words;
        one_slot = r.one_slot;
        served = r.served;
        drawn = r.drawn ∙ same;
        fits = r.fits;
        is_legal = r.is_legal;
        home = λ none_out. r.home (before s.views id v l g at (λ (z : D). is_serving z.stage ≡ false)
            (ap is_serving st) none_out);
        each = λ j u e sp. subst (λ (z : ℕ). IsLive made_with r.log r.owner z j u) same (⊎_elim
            (λ a. subst (λ (z : ℕ × D). IsLive made_with r.log r.owner next z.0 z.1)
            (λ i. (sym a.0 i, a.1 i)) live_left)
            (λ b. ⊎_elim
            (λ a. r.each j u a.1 sp)
            (λ a. subst (λ (z : ℕ × D). IsLive made_with r.log r.owner next z.0 z.1)
            (λ i. (sym a.0 i, a.1 i)) live_right) b)
            (found s.views id v l g at j u e));
        gone = λ j u e sp. ⊎_elim
            (λ a. let is : is_spent u.stage ≡ false = ap (λ (z : D). is_spent z.stage) (sym a.1)
            ∙ lives in absurd (cc))
            (λ b. ⊎_elim
            (λ a. r.gone j u a.1 sp)
            (λ a. let is : is_spent u.stage ≡ false = ap (λ (z : D). is_spent z.stage) (sym a.1) in
            absurd (cc)) b)
            (found s.views id v l g at j u e);
        apart = λ i j u u' k e e' f f'.
            let none_left : ticket_of l.stage ≡ None = ap ticket_of st in
            let back : (j : ℕ) (u : D) → At vs j u → ticket_of u.stage ≡ Some k
            → At s.views j u = λ j u e f. ⊎_elim
            (λ a. let is : ticket_of u.stage ≡ None = ap (λ (z : D). ticket_of z.stage) (sym a.1)
            ∙ none_left in absurd (cc))
            (λ b. ⊎_elim
            (λ a. a.1)
            (λ a. let is : ticket_of u.stage ≡ None = ap (λ (z : D). ticket_of z.stage) (sym a.1) in
            absurd (cc)) b)
            (found s.views id v l g at j u e) in
            r.apart i j u u' k (back i u e f) (back j u' e' f') f f';
        given = λ q lt. dite (dec_lt q n)
            (λ old. let m = r.given q old in dite (ℕ_discrete (r.owner q) id)
            (λ is. (l, ap (get_elem? vs) is ∙ at_cut s.views id v l g at, lives))
            (λ other. (m.0, at_rest s.views id v l g at (r.owner q) m.0 other m.1, m.2)))
            (λ new.
            let is : r.owner q ≡ n = (r.not_given q (omega arith)).0 ∙ (omega arith) in
            (g, ap (get_elem? vs) is ∙ at_new s.views id v l g at, refl));
        not_given = λ q le. r.not_given q (omega arith);
        whole = let m = r.whole in dite (ℕ_discrete m.0 id)
            (λ is. (
              id,
              l,
              at_cut s.views id v l g at,
              lives,
              ap (λ (z : D). z.seen)
                  (sym (same_there s.views m.0 id m.1 v is m.2 at)) ∙ m.4,
            ))
            (λ other. (m.0, m.1, at_rest s.views id v l g at m.0 m.1 other m.2, m.3, m.4));
        shares = λ d deep.
            let b : v.share.depth + 1 ≤ d = deep id l (at_cut s.views id v l g at) in
            let below : v.share.depth ≤ d = omega arith in
            let old : parts_out d s.views ≡ 2 ^ d =
            r.shares d (before s.views id v l g at (λ (z : D). z.share.depth ≤ d) below deep) in
            let parts : parts_out d vs + parts_at d v.share
            ≡ parts_out d s.views + parts_at d l.share + parts_at d g.share =
            sum_by-cut s.views id v l g at (λ (z : D). parts_at d z.share) in
            let x : ℕ = 2 ^ (d - (v.share.depth + 1)) in
            let twice : 2 ^ (d - v.share.depth) ≡ 2 * x =
            ap (λ (z : ℕ). 2 ^ z) (let h : d - v.share.depth ≡ 1 + (d - (v.share.depth + 1)) =
            omega arith in h) ∙ pow-add 2 1 (d - (v.share.depth + 1)) in
            let y : ℕ = v.share.parts * x in
            let two : parts_at d v.share ≡ 2 * y = ap (λ (z : ℕ). v.share.parts * z) twice ∙ (omega arith) in
            let left : parts_at d l.share ≡ y = refl in
            let right : parts_at d g.share ≡ y = refl in omega arith;
      }

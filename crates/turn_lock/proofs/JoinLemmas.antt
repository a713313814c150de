-- Joining a seat into another keeps the rule of the lock.
use Rattle.std.proofs.Common.{◌≡◌, ℕ, subst, cond, ne_eqb, eq-eqb, eqb, ◌+◌, ◌-◌, ◌^◌, max, ◌<◌, ◌≤◌, ◌≢◌, ◌⊎◌, Bool, true, false, List, [], ◌++◌, length, set, sym, refl, ap, ◌∙◌, inl, inr, ⊎_elim, arith, append-nil, length-set, Some, None}
use mathlib.Core.Logic.{dite}
use native.Mathlib.Decide.{ℕ_discrete}
use native.Mathlib.Nat.{mul-pos, le-max_left, le-max_right}
use lib.ListN.{get_elem?}
use Rattle.std.specs.List.{sum_by}
use Rattle.std.proofs.lemmas.List.Elements.{filter-append}
use Rattle.std.proofs.lemmas.Nat.{pow_pos}
use Rattle.atomic_table.specs.Table.{Joins}
use Rattle.atomic_table.proofs.Lists.{at_set, set_here, set_else}
use Rattle.turn_lock.specs.declared.value.Turn.{Ghosts}
use Rattle.turn_lock.specs.declared.view.Entry.{Entry}
use Rattle.turn_lock.specs.declared.view.Stage.{Stage}
use Rattle.turn_lock.specs.declared.view.Stage.TheVariants.{Idle}
use Rattle.turn_lock.specs.declared.view.View.{View}
use Rattle.turn_lock.specs.Histories.{entries_of, longer_of}
use Rattle.turn_lock.specs.Stages.{ticket_of, is_serving, is_spent, is_idle}
use Rattle.turn_lock.specs.Views.{parts_at, joined_view, spent_view}
use Rattle.turn_lock.specs.Rule.{tickets_out, parts_out, InStage, IsLive}
use Rattle.turn_lock.proofs.PlaceLemmas.{At, same_there, at_below, sum_by-set_at}
use Rattle.turn_lock.proofs.PrefixLemmas.{all_between, longer_prefix, longer_left, longer_right}
use Rattle.turn_lock.proofs.ShareLemmas.{parts_at-sum_of}
use Rattle.turn_lock.proofs.StageLemmas.{idle_is, stage_owner}
use Rattle.turn_lock.proofs.RuleLemmas.{St, Rule, next_of, ticket_in}

entries_of-append : {C A : Type 0} (q : ℕ) (xs ys : List (Entry C A))
    → entries_of q (xs ++ ys) ≡ entries_of q xs ++ entries_of q ys
entries_of-append {C} {A} q xs ys = filter-append (λ (z : Entry C A). eqb z.number q) xs ys

-- the views where that of the seat id becomes b, and that of another seat becomes z
module _ {D : Type 0} (views : List D) (id other : ℕ) (v w b z : D) (at : At views id v)
    (at' : At views other w) (apart : other ≢ id) where
  abbrev both : List D
  both = set (set views id b) other z

  -- whose view one is after the join
  abbrev Found : ℕ → D → Type 0
  Found j u = ((j ≡ other) × (z ≡ u)) ⊎ (((j ≡ id) × (b ≡ u)) ⊎ ((j ≢ other) × (j ≢ id) × At views j u))

  found : (j : ℕ) (u : D) → At both j u → Found j u
  found j u e = ⊎_elim
      (λ t. inl t)
      (λ t. ⊎_elim (λ a. inr (inl a)) (λ a. inr (inr (t.0, a.0, a.1))) (at_set views id j b u t.1))
      (at_set (set views id b) other j z u e)

  at_id : At both id b
  at_id = set_else (set views id b) other id z (λ e. apart (sym e))
      ∙ set_here views id b (at_below views id v at)

  at_rest : (j : ℕ) (u : D) → j ≢ other → j ≢ id → At views j u → At both j u
  at_rest j u n n' e = set_else (set views id b) other j z n ∙ set_else views id j b n' ∙ e

  length-both : length both ≡ length views
  length-both = length-set (set views id b) other z ∙ length-set views id b

  sum_by-both : (f : D → ℕ) → sum_by f both + f v + f w ≡ sum_by f views + f b + f z
  sum_by-both f =
      let one = sum_by-set_at f views id v b at in
      let two = sum_by-set_at f (set views id b) other w z (set_else views id other b apart ∙ at') in
      omega arith

  -- what holds of v and w, and of each view after the join, held of each before
  before : (P : D → Type 0) → P v → P w → ((j : ℕ) (u : D) → At both j u → P u) → (j : ℕ) (u : D)
      → At views j u → P u
  before P pv pw now j u e = dite (ℕ_discrete j id)
      (λ is. subst P (sym (same_there views j id u v is e at)) pv)
      (λ n. dite (ℕ_discrete j other)
      (λ is. subst P (sym (same_there views j other u w is e at')) pw)
      (λ n'. now j u (at_rest j u n' n e)))

-- the owner of each number, where that of the other's is this one from now on
abbrev heir : (ℕ → ℕ) → ℕ → ℕ → ℕ → ℕ
heir o id other q = cond (eqb (o q) other) id (o q)

heir_new : (o : ℕ → ℕ) (id other q : ℕ) → o q ≡ other → heir o id other q ≡ id
heir_new o id other q is = ap (λ (k : Bool). cond k id (o q)) (eq-eqb (o q) other is)

heir_same : (o : ℕ → ℕ) (id other q : ℕ) → o q ≢ other → heir o id other q ≡ o q
heir_same o id other q ne = ap (λ (k : Bool). cond k id (o q)) (ne_eqb (o q) other ne)

module _ {V C A T : Type 0} (t : Ghosts V C A T) (made_with : T) where
  abbrev D : Type 0
  D = View C A T

  -- the seat into which the other was joined knows what is true
  joined_live : (s : St t made_with) (r : Rule t made_with s) (id : ℕ) (v : D) (other : ℕ) (w : D)
      → At s.views id v → At s.views other w
      → other ≢ id → v.stage ≡ Idle → w.stage ≡ Idle
      → IsLive made_with r.log (heir r.owner id other) (next_of t made_with s r) id (joined_view v w)
  joined_live s r id v other w at at' apart st st' =
      let o : ℕ → ℕ = heir r.owner id other in
      let next : ℕ = next_of t made_with s r in
      let mine = r.each id v at (ap is_spent st) in
      let theirs = r.each other w at' (ap is_spent st') in
      let depth : ℕ = max v.share.depth w.share.depth in
      let number : v.number ≡ id = subst
      (λ (g : Stage C A). InStage made_with r.log r.owner next id v g) st mine.in_stage in
      let number' : w.number ≡ other =
      subst (λ (g : Stage C A). InStage made_with r.log r.owner next other w g) st' theirs.in_stage in
      let seen = longer_prefix v.seen w.seen r.log mine.has_seen theirs.has_seen in
      let not_mine : (q : ℕ) → r.owner q ≡ other
      → entries_of q v.mine ≡ [] = λ q is. mine.no_others q (λ f. apart (sym is ∙ f)) in
      let split : (q : ℕ) → entries_of q
      (v.mine ++ w.mine) ≡ entries_of q v.mine ++ entries_of q w.mine =
      λ q. entries_of-append q v.mine w.mine in
      let of_theirs : (q : ℕ) → r.owner q ≡ other
      → entries_of q (v.mine ++ w.mine) ≡ entries_of q w.mine = λ q is. split q
      ∙ ap (λ (l : List (Entry C A)). l ++ entries_of q w.mine) (not_mine q is) in
      let of_mine : (q : ℕ) → r.owner q ≢ other
      → entries_of q (v.mine ++ w.mine) ≡ entries_of q v.mine = λ q ne. split q
      ∙ ap (λ (l : List (Entry C A)). entries_of q v.mine ++ l) (theirs.no_others q ne)
      ∙ append-nil (entries_of q v.mine) in
      record {
        has_setting = mine.has_setting;
        has_seen = seen.0;
        has_share = let more : 0 < parts_at depth v.share =
            mul-pos mine.has_share (pow_pos (depth - v.share.depth)) in omega arith;
        owns_own = heir_same r.owner id other id (λ e. apart (sym e ∙ mine.owns_own)) ∙ mine.owns_own;
        made_own = λ q own. dite (ℕ_discrete (r.owner q) other)
            (λ is. of_theirs q is ∙ theirs.made_own q is)
            (λ ne. of_mine q ne ∙ mine.made_own q (sym (heir_same r.owner id other q ne) ∙ own));
        no_others = λ q not_own. dite (ℕ_discrete (r.owner q) other)
            (λ is. absurd (not_own (heir_new r.owner id other q is)))
            (λ ne. of_mine q ne ∙ mine.no_others q (λ f. not_own (heir_same r.owner id other q ne ∙ f)));
        seen_own = λ q own. dite (ℕ_discrete (r.owner q) other)
            (λ is. all_between q w.seen (longer_of v.seen w.seen) r.log seen.2 seen.0 (theirs.seen_own q is))
            (λ ne. all_between q v.seen (longer_of v.seen w.seen) r.log seen.1 seen.0
            (mine.seen_own q (sym (heir_same r.owner id other q ne) ∙ own)));
        in_stage = (
          number,
          record {
            seen = seen.1;
            other_seen = seen.2;
            numbers = λ e. apart (sym number' ∙ sym e ∙ number);
            owners = λ q some_own. dite (ℕ_discrete (r.owner q) other)
                (λ is. absurd (some_own (not_mine q is)))
                (λ ne. theirs.no_others q ne);
          },
        );
      }

  -- each other seat still knows what is true
  other_live : (s : St t made_with) (r : Rule t made_with s) (id other j : ℕ) (u : D) → j ≢ other → j ≢ id
      → IsLive made_with r.log r.owner (next_of t made_with s r) j u
      → IsLive made_with r.log (heir r.owner id other) (next_of t made_with s r) j u
  other_live s r id other j u ne ne' l = record {
    has_setting = l.has_setting;
    has_seen = l.has_seen;
    has_share = l.has_share;
    owns_own = heir_same r.owner id other j (λ f. ne (sym l.owns_own ∙ f)) ∙ l.owns_own;
    made_own = λ q own. dite (ℕ_discrete (r.owner q) other)
        (λ is. absurd (ne' (sym own ∙ heir_new r.owner id other q is)))
        (λ n. l.made_own q (sym (heir_same r.owner id other q n) ∙ own));
    no_others = λ q not_own. l.no_others q
        (λ is. not_own (heir_same r.owner id other q (λ x. ne (sym is ∙ x)) ∙ is));
    seen_own = λ q own. dite (ℕ_discrete (r.owner q) other)
        (λ is. absurd (ne' (sym own ∙ heir_new r.owner id other q is)))
        (λ n. l.seen_own q (sym (heir_same r.owner id other q n) ∙ own));
    in_stage = stage_owner made_with r.log r.owner j u (heir r.owner id other)
        (next_of t made_with s r) u.stage l.in_stage;
  }

  pub joins : (id : ℕ) (v : D) (other : ℕ) (w : D) (unset : T) → is_idle v.stage ≡ true
      → is_idle w.stage ≡ true
      → Joins (Rule t made_with) id v other w (joined_view v w) (spent_view unset)
  joins id v other w unset idle idle' s r at apart at2 =
      let b : D = joined_view v w in
      let z : D = spent_view unset in
      let at' : At s.views other w = sym (set_else s.views id other b apart) ∙ at2 in
      let st : v.stage ≡ Idle = idle_is v.stage idle in
      let st' : w.stage ≡ Idle = idle_is w.stage idle' in
      let n : ℕ = length s.views in
      let vs : List D = both s.views id other v w b z at at' apart in
      let o : ℕ → ℕ = heir r.owner id other in
      let next : ℕ = next_of t made_with s r in
      let sum : tickets_out vs + ticket_in v.stage + ticket_in w.stage ≡ tickets_out s.views + 0 + 0 =
      sum_by-both s.views id other v w b z at at' apart (λ (u : D). ticket_in u.stage) in
      let none_v : ticket_in v.stage ≡ 0 = ap ticket_in st in
      let none_w : ticket_in w.stage ≡ 0 = ap ticket_in st' in
      let same : next ≡ length r.log + tickets_out vs = omega arith in
      let live_b = joined_live s r id v other w at at' apart st st' in
      let where_is = found s.views id other v w b z at at' apart in
      let at_b : At vs id b = at_id s.views id other v w b z at at' apart in
      let at_u = at_rest s.views id other v w b z at at' apart in
      let old_views = before s.views id other v w b z at at' apart in
      let long : length vs ≡ n = length-both s.views id other v w b z at at' apart in record {
        log = r.log;
        owner = o;
        two_words = r.two_words;
        one_slot = r.one_slot;
        served = r.served;
        drawn = r.drawn ∙ same;
        fits = r.fits;
        is_legal = r.is_legal;
        home = λ none_out. r.home (old_views (λ (u : D). is_serving u.stage ≡ false) (ap is_serving st)
            (ap is_serving st') none_out);
        each = λ j u e sp. subst (λ (k : ℕ). IsLive made_with r.log o k j u) same (⊎_elim
            (λ a. let is : is_spent u.stage ≡ true = ap (λ (x : D). is_spent x.stage) (sym a.1) in
            absurd (cc))
            (λ c. ⊎_elim
            (λ a. subst (λ (x : ℕ × D). IsLive made_with r.log o next x.0 x.1)
            (λ i. (sym a.0 i, a.1 i)) live_b)
            (λ a. other_live s r id other j u a.0 a.1 (r.each j u a.2 sp)) c)
            (where_is j u e));
        gone = λ j u e sp. ⊎_elim
            (λ a. ap (λ (x : D). x.share.parts) (sym a.1))
            (λ c. ⊎_elim
            (λ a. let is : is_spent u.stage ≡ false = ap (λ (x : D). is_spent x.stage) (sym a.1) in
            absurd (cc))
            (λ a. r.gone j u a.2 sp) c)
            (where_is j u e);
        apart = λ i j u u' k e e' f f'.
            let back : (j : ℕ) (u : D) → At vs j u → ticket_of u.stage ≡ Some k → At s.views j u =
            λ j u e f. ⊎_elim
            (λ a. let is : ticket_of u.stage ≡ None = ap (λ (x : D). ticket_of x.stage) (sym a.1) in
            absurd (cc))
            (λ c. ⊎_elim
            (λ a. let is : ticket_of u.stage ≡ None = ap (λ (x : D). ticket_of x.stage) (sym a.1) in
            absurd (cc))
            (λ a. a.2) c)
            (where_is j u e) in
            r.apart i j u u' k (back i u e f) (back j u' e' f') f f';
        given = λ q lt.
            let m = r.given q (subst (λ (k : ℕ). q < k) long lt) in
            let here : o q ≡ id → (u : D) × At vs (o q) u × (is_spent u.stage ≡ false) =
            λ e. (b, ap (get_elem? vs) e ∙ at_b, refl) in
            dite (ℕ_discrete (r.owner q) other) (λ is. here (heir_new r.owner id other q is)) (λ ne.
            let keep = heir_same r.owner id other q ne in
            dite (ℕ_discrete (r.owner q) id) (λ is. here (keep ∙ is))
            (λ ne'. (m.0, ap (get_elem? vs) keep ∙ at_u (r.owner q) m.0 ne ne' m.1, m.2)));
        not_given = λ q le.
            let le' : n ≤ q = subst (λ (k : ℕ). k ≤ q) long le in
            let own = r.not_given q le' in
            let lt = at_below s.views other w at' in (
              heir_same r.owner id other q (λ e. let x : q ≡ other = sym own.0 ∙ e in omega arith)
                  ∙ own.0,
              own.1,
            );
        whole =
            let m = r.whole in
            let here : longer_of v.seen w.seen ≡ r.log
            → (j : ℕ) × (u : D) × At vs j u × (is_spent u.stage ≡ false) × (u.seen ≡ r.log) =
            λ e. (id, b, at_b, refl, e) in
            let seen_by : (k : ℕ) (x : D) → m.0 ≡ k → At s.views k x → x.seen ≡ r.log =
            λ k x is e. ap (λ (y : D). y.seen) (sym (same_there s.views m.0 k m.1 x is m.2 e)) ∙ m.4 in
            dite (ℕ_discrete m.0 id)
            (λ is. here (longer_left v.seen w.seen r.log (seen_by id v is at)
            (r.each other w at' (ap is_spent st')).has_seen))
            (λ ne. dite (ℕ_discrete m.0 other)
            (λ is. here (longer_right v.seen w.seen r.log (r.each id v at (ap is_spent st)).has_seen
            (seen_by other w is at')))
            (λ ne'. (m.0, m.1, at_u m.0 m.1 ne' ne m.2, m.3, m.4)));
        shares = λ d deep.
            let top : max v.share.depth w.share.depth ≤ d = deep id b at_b in
            let dv : v.share.depth ≤ max v.share.depth w.share.depth =
            le-max_left v.share.depth w.share.depth in
            let dw : w.share.depth ≤ max v.share.depth w.share.depth =
            le-max_right v.share.depth w.share.depth in
            let old : parts_out d s.views ≡ 2 ^ d =
            r.shares d (old_views (λ (u : D). u.share.depth ≤ d) (omega arith) (omega arith) deep) in
            let e : parts_out d vs + parts_at d v.share + parts_at d w.share
            ≡ parts_out d s.views + parts_at d b.share + parts_at d z.share =
            sum_by-both s.views id other v w b z at at' apart (λ (u : D). parts_at d u.share) in
            let nothing : parts_at d z.share ≡ 0 = omega arith in
            let more : parts_at d b.share ≡ parts_at d v.share + parts_at d w.share =
            parts_at-sum_of d v.share w.share top in
            let x : ℕ = parts_at d b.share in
            let y : ℕ = parts_at d v.share in
            let y' : ℕ = parts_at d w.share in omega arith;
      }

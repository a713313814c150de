-- Drawing a ticket, and finding it served, keep the rule of the lock.
use Rattle.std.proofs.Common.{◌≡◌, ℕ, subst, ◌+◌, ◌<◌, ◌≤◌, true, false, eqb, List, length, get_or, set, sym, refl, ap, ◌∙◌, arith, length-set, get_or-set_other, get_or-set_same, Some}
use mathlib.Core.Option.{none}
use mathlib.Core.Logic.{dite}
use native.Mathlib.Decide.{ℕ_discrete}
use prog.Atomic.{either}
use Rattle.atomic_table.specs.Table.{step, keeps, takes, Allows}
use Rattle.atomic_table.proofs.Lists.{set_here, set_again, exchanged}
use Rattle.turn_lock.specs.declared.value.Turn.{Ghosts}
use Rattle.turn_lock.specs.declared.view.Stage.TheVariants.{Idle, Waits}
use Rattle.turn_lock.specs.declared.view.View.{View}
use Rattle.turn_lock.specs.Histories.{calls_of}
use Rattle.turn_lock.specs.Stages.{ticket_of, is_serving, is_spent, is_idle}
use Rattle.turn_lock.specs.Views.{at_stage, with_seen, with_turn}
use Rattle.turn_lock.specs.Rule.{tickets_out, InStage, StandsFor}
use Rattle.turn_lock.specs.Steps.{Draws, Watches, Awaits}
use Rattle.turn_lock.proofs.PlaceLemmas.{at_below, at_get}
use Rattle.turn_lock.proofs.PrefixLemmas.{prefix_refl, none_after}
use Rattle.turn_lock.proofs.StageLemmas.{idle_is, ticket_lives, live_as, ticket_below}
use Rattle.turn_lock.proofs.RuleLemmas.{St, M, Rule, table, next_of, ticket_in, tickets_out-set, no_turn, free_turn, whole_same, change, rest_live, loads, looks, stays, all_seen, all_own}
use Rattle.turn_lock.proofs.RuleLemmas.{stage_at, Goes}

module _ {V C A T : Type 0} (t : Ghosts V C A T) (made_with : T) where
  abbrev K : St t made_with → Type 0
  K s = Rule t made_with s

  pub draws : (n id : ℕ) (me : M t made_with) (old : ℕ) → is_idle me.0.stage ≡ true
      → old < 18446744073709551615
      → Allows K n id me 1 (λ y. either (eqb y old) (old + 1) y) (Draws (step n 1 old (old + 1) none) me)
  draws n id me old idle small s r _ at _ =
      let y : ℕ = get_or s.words 1 0 in
      let v : View C A T = me.0 in
      let w : View C A T = at_stage v (Waits y) in
      let st : v.stage ≡ Idle = idle_is v.stage idle in
      let live = r.each id v at (ap is_spent st) in
      let number : v.number ≡ id = stage_at t made_with s r id v Idle at (ap is_spent st) st in
      let sum = tickets_out-set s.views id v w at in
      let none_out : ticket_in v.stage ≡ 0 = ap ticket_in st in
      let here : y ≡ next_of t made_with s r = r.drawn in
      let next' : ℕ = length r.log + tickets_out (set s.views id w) in
      let more : next' ≡ next_of t made_with s r + 1 = omega arith in
      let two : length s.words ≡ 2 = r.two_words in
      exchanged y old (old + 1) (Goes t made_with s 1 id me (Draws (step n 1 old (old + 1) none) me))
      (λ hit.
      let drawn : length r.log ≤ y = omega arith in
      let below : y < next' = omega arith in
      let stage : InStage made_with r.log r.owner next' id w (Waits y) = (number, drawn, below) in
      let words : List ℕ = set s.words 1 (old + 1) in
      let one : get_or words 1 0 ≡ old + 1 = get_or-set_same s.words 1 (old + 1) 0 (omega arith) in (
        w,
        keeps,
        tt,
        change t made_with s r id v w words s.homes r.log at refl refl record {
          two_words = length-set s.words 1 (old + 1) ∙ r.two_words;
          one_slot = r.one_slot;
          served = get_or-set_other s.words 1 0 (old + 1) 0 (λ e. omega arith) ∙ r.served;
          drawn = one ∙ (let g : old + 1 ≡ next' = omega arith in g);
          fits = subst (λ (z : ℕ). z < 18446744073709551616) (sym one) (omega arith);
          is_legal = r.is_legal;
          home = λ none_now. r.home (no_turn t made_with s id v w at (ap is_serving st) none_now);
          live = live_as made_with r.log r.owner id v w
              (next_of t made_with s r) next' live refl refl refl live.has_seen live.seen_own stage;
          others = λ j u _ e sp. rest_live t made_with s r next' (omega arith) j u e sp;
          apart = λ j u k _ e f f'.
              let is : y ≡ k = cc in
              let lt = ticket_below made_with r.log r.owner j u (next_of t made_with s r) u.stage k
              (r.each j u e (ticket_lives u.stage k f)).in_stage f in omega arith;
          not_given = λ q le. (r.not_given q le).1;
          whole = whole_same t made_with s r id v w at refl (λ e. e);
        },
        ((λ _. refl), λ miss. absurd (miss hit)),
      ))
      (λ miss. (
        v,
        keeps,
        tt,
        stays t made_with s r 1 id me (omega arith) at,
        ((λ hit. absurd (miss hit)), λ _. refl),
      ))

  pub awaits : (n id : ℕ) (me : M t made_with) (k : ℕ) → me.0.stage ≡ Waits k
      → Allows K n id me 0 (λ y. y) (Awaits (step n 0 0 0 none) me)
  awaits n id me k st s r _ at _ =
      let y : ℕ = get_or s.words 0 0 in
      let v : View C A T = me.0 in
      let lives : is_spent v.stage ≡ false = ap is_spent st in
      let live = r.each id v at lives in
      let stage = stage_at t made_with s r id v (Waits k) at lives st in
      dite (ℕ_discrete y k)
      (λ hit.
      let is : k ≡ length r.log = sym hit ∙ r.served in
      let w : View C A T = with_seen v r.log in
      let waits = subst (InStage made_with r.log r.owner (next_of t made_with s r) id w) (sym st) stage in
      let live' = live_as made_with r.log r.owner id v w (next_of t made_with s r)
      (next_of t made_with s r) live refl refl refl (prefix_refl r.log) (λ _ _. refl) waits in (
        w,
        keeps,
        tt,
        loads t made_with s r id me.1 w
            (looks t made_with s r id v w at lives (ap is_serving st) refl refl live' (λ _. refl)),
        (λ i f. let ik : k ≡ i = cc in (
          (λ _. (
            r.log,
            refl,
            live.has_seen,
            sym is ∙ ik,
            λ all. (sym (all_seen t made_with s r id v at all), all_own t made_with s r id v at lives all),
          )),
          λ miss. absurd (miss (hit ∙ ik)),
        )),
      ))
      (λ miss. (
        v,
        keeps,
        tt,
        stays t made_with s r 0 id me (omega arith) at,
        (λ i f. let ik : k ≡ i = cc in ((λ hit. absurd (miss (hit ∙ sym ik))), λ _. refl)),
      ))

  pub watches : (n id : ℕ) (me : M t made_with) (k : ℕ) → me.0.stage ≡ Waits k
      → Allows K n id me 0 (λ y. y) (Watches t.legal t.stands t.setting (step n 0 0 0 none) me)
  watches n id me k st s r _ at _ =
      let y : ℕ = get_or s.words 0 0 in
      let v : View C A T = me.0 in
      let lives : is_spent v.stage ≡ false = ap is_spent st in
      let live = r.each id v at lives in
      let stage = stage_at t made_with s r id v (Waits k) at lives st in
      dite (ℕ_discrete y k)
      (λ hit.
      let is : k ≡ length r.log = sym hit ∙ r.served in
      let home = r.home (free_turn t made_with s r id v k at st is) in
      let x = home.0 in
      let w : View C A T = with_turn v r.log k in
      let sum = tickets_out-set s.views id v w at in
      let one_out : ticket_in v.stage ≡ 1 = ap ticket_in st in
      let next' : ℕ = length r.log + tickets_out (set s.views id w) in
      let same : next_of t made_with s r ≡ next' = omega arith in
      let two : length s.words ≡ 2 = r.two_words in
      let words : set s.words 0 y ≡ s.words = set_again s.words 0 y (at_get s.words 0 0 (omega arith)) in
      let below : k < next' = subst (λ (z : ℕ). k < z) same stage.2 in
      let live' = live_as made_with r.log r.owner id v w
      (next_of t made_with s r) next' live refl refl refl (prefix_refl r.log) (λ _ _. refl)
      (stage.0, is, refl, below) in
      let own_seen = live.seen_own v.number (ap r.owner stage.0 ∙ live.owns_own) in
      let at_setting = λ (P : T → Type 0) (p : P made_with). subst P (sym live.has_setting) p in
      let kept : K (table t made_with s.words (set s.homes 0 none) (set s.views id w)) =
      change t made_with s r id v w s.words (set s.homes 0 none) r.log at refl refl record {
        two_words = r.two_words;
        one_slot = length-set s.homes 0 none ∙ r.one_slot;
        served = r.served;
        drawn = r.drawn ∙ same;
        fits = r.fits;
        is_legal = r.is_legal;
        home = λ none_now. let bad = none_now id w (set_here s.views id w (at_below s.views id v at)) in
            absurd (cc);
        live = live';
        others = λ j u _ e sp. rest_live t made_with s r next' (omega arith) j u e sp;
        apart = λ j u i other e f f'. other (r.apart j id u v i e at f (ap ticket_of st ∙ f'));
        not_given = λ q le. (r.not_given q le).1;
        whole = whole_same t made_with s r id v w at refl (λ _. refl);
      } in (
        w,
        takes 0 (Some x),
        home.1,
        subst (λ (ws : List ℕ). K (table t made_with ws (set s.homes 0 none) (set s.views id w)))
            (sym words) kept,
        (λ i f. let ik : k ≡ i = cc in (
          (λ _. (
            r.log,
            ap (with_turn v r.log) ik,
            (
              live.has_seen.0,
              live.has_seen.1,
              none_after v.number v.seen r.log live.has_seen own_seen,
            ),
            at_setting (λ z. t.legal z (calls_of r.log)) r.is_legal,
            (x, refl, at_setting (λ z. StandsFor t.legal t.stands t.setting z r.log x) home.2),
          )),
          λ miss. absurd (miss (hit ∙ ik)),
        )),
      ))
      (λ miss. (
        v,
        keeps,
        tt,
        stays t made_with s r 0 id me (omega arith) at,
        (λ i f. let ik : k ≡ i = cc in ((λ hit. absurd (miss (hit ∙ sym ik))), λ _. refl)),
      ))

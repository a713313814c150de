-- Serving the next ticket, and entering the call, keep the rule of the lock.
use Rattle.std.proofs.Common.{◌≡◌, ℕ, subst, cond, ne_eqb, ◌+◌, ◌%◌, ◌^◌, ◌<◌, ◌≢◌, Bool, false, eqb, List, [], ◌∷◌, ◌++◌, length, get_or, set, sym, refl, ap, ◌∙◌, arith, append-nil, length-append, length-set, get_or-set_other, get_or-set_same, Option, Some}
use mathlib.Core.Option.{none, some}
use Rattle.std.specs.Option.{unwrap_or}
use Rattle.std.proofs.lemmas.List.Elements.{filter-append}
use Rattle.atomic_table.specs.Table.{step, gives, Allows}
use Rattle.atomic_table.proofs.Lists.{set_here}
use Rattle.turn_lock.specs.declared.value.Turn.{Ghosts}
use Rattle.turn_lock.specs.declared.view.Entry.{Entry}
use Rattle.turn_lock.specs.declared.view.Stage.TheVariants.{Serves}
use Rattle.turn_lock.specs.declared.view.View.{View}
use Rattle.turn_lock.specs.declared.view.LastCall.{LastCall}
use Rattle.turn_lock.specs.declared.view.Locked.{Locked}
use Rattle.turn_lock.specs.Histories.{entry, calls_of, entries_of}
use Rattle.turn_lock.specs.Stages.{ticket_of, is_spent}
use Rattle.turn_lock.specs.Views.{with_call}
use Rattle.turn_lock.specs.Rule.{Slot, tickets_out, InStage, StandsFor}
use Rattle.turn_lock.specs.Steps.{Advances}
use Rattle.turn_lock.proofs.PlaceLemmas.{at_below}
use Rattle.turn_lock.proofs.PrefixLemmas.{prefix_push}
use Rattle.turn_lock.proofs.StageLemmas.{stage_on}
use Rattle.turn_lock.proofs.RuleLemmas.{St, M, Rule, table, next_of, ticket_in, tickets_out-set, change, all_own}
use Rattle.turn_lock.proofs.RuleLemmas.{stage_at, Goes}

-- what lies in the slot that was taken last
abbrev held_or : {S : Type 0} → S → List (ℕ × Option S) → S
held_or d [] = d
held_or d (p ∷ ps) = unwrap_or p.1 d

module _ {C A : Type 0} where
  -- the entries with a number, once an entry was made
  entries_of-push : (q : ℕ) (h : List (Entry C A)) (e : Entry C A)
      → entries_of q (h ++ e ∷ []) ≡ entries_of q h ++ entries_of q (e ∷ [])
  entries_of-push q h e = filter-append (λ (z : Entry C A). eqb z.number q) h (e ∷ [])

  -- where it has another number
  entries_of_other : (q : ℕ) (h : List (Entry C A)) (e : Entry C A) → e.number ≢ q
      → entries_of q (h ++ e ∷ []) ≡ entries_of q h
  entries_of_other q h e ne = entries_of-push q h e
      ∙ ap (λ (l : List (Entry C A)). entries_of q h ++ l)
      (ap (λ (b : Bool). cond b (e ∷ []) []) (ne_eqb e.number q ne))
      ∙ append-nil (entries_of q h)

  -- where two lists have the same entries with a number
  entries_of_both : (q : ℕ) (h l : List (Entry C A)) (e : Entry C A) → entries_of q h ≡ entries_of q l
      → entries_of q (h ++ e ∷ []) ≡ entries_of q (l ++ e ∷ [])
  entries_of_both q h l e same = entries_of-push q h e
      ∙ ap (λ (m : List (Entry C A)). m ++ entries_of q (e ∷ [])) same
      ∙ sym (entries_of-push q l e)

module _ {V C A T : Type 0} (t : Ghosts V C A T) (made_with : T) where
  abbrev K : St t made_with → Type 0
  K s = Rule t made_with s

  abbrev Served : ℕ → View C A T → List (ℕ × Slot V C A) → ℕ → M t made_with → Type 0
  Served n v held found new = Advances (step n 0 1 0 none) (v, held) found new

  pub advances : (n id : ℕ) (me : M t made_with) (k : ℕ) (x : Locked V C A) (last : LastCall C A)
      → me.0.stage ≡ Serves k → me.1 ≡ (0, Some x) ∷ [] → x.last ≡ Some last
      → t.legal me.0.setting (calls_of (with_call me.0 last).seen)
      → StandsFor t.legal t.stands t.setting me.0.setting (with_call me.0 last).seen x
      → Allows K n id me 0 (λ y. (y + 1) % 2 ^ 64) (Advances (step n 0 1 0 none) me)
  advances n id me k x last st has said lawful stands s r _ at _ =
      let y : ℕ = get_or s.words 0 0 in
      let v : View C A T = me.0 in
      let lives : is_spent v.stage ≡ false = ap is_spent st in
      let live = r.each id v at lives in
      let e : Entry C A = entry v.number last.call.value last.answer.value in
      let log' : List (Entry C A) = r.log ++ e ∷ [] in
      let w : View C A T = with_call v last in
      let stage = stage_at t made_with s r id v (Serves k) at lives st in
      let number : v.number ≡ id = stage.0 in
      let is : k ≡ length r.log = stage.1 in
      let seen : v.seen ≡ r.log = stage.2 in
      let sum = tickets_out-set s.views id v w at in
      let one_out : ticket_in v.stage ≡ 1 = ap ticket_in st in
      let long : length log' ≡ length r.log + 1 = length-append r.log (e ∷ []) in
      let next' : ℕ = length log' + tickets_out (set s.views id w) in
      let same : next_of t made_with s r ≡ next' = omega arith in
      let y' : ℕ = (y + 1) % 18446744073709551616 in
      let words : List ℕ = set s.words 0 y' in
      let two : length s.words ≡ 2 = r.two_words in
      let one : length s.homes ≡ 1 = r.one_slot in
      let y_is : y ≡ length r.log = r.served in
      let drawn : get_or s.words 1 0 ≡ next_of t made_with s r = r.drawn in
      let fits : get_or s.words 1 0 < 18446744073709551616 = r.fits in
      let up : y' ≡ length log' = omega arith in
      let word : get_or words 1 0 ≡ get_or s.words 1 0 =
      get_or-set_other s.words 0 1 y' 0 (λ f. omega arith) in
      let owned : r.owner id ≡ id = live.owns_own in
      let at_log = λ (P : T → List (Entry C A) → Type 0) (p : P v.setting (v.seen ++ e ∷ [])).
      subst (λ (z : T × List (Entry C A)). P z.0 (z.1 ++ e ∷ [])) (λ i. (live.has_setting i, seen i)) p in
      let not_mine : (q : ℕ) → r.owner q ≢ id → e.number ≢ q =
      λ q other f. other (subst (λ (z : ℕ). r.owner z ≡ id) (sym number ∙ f) owned) in
      let homes = set s.homes 0 (some (Some x)) in
      let kept : K (table t made_with words homes (set s.views id w)) =
      change t made_with s r id v w words homes log' at refl refl record {
        two_words = length-set s.words 0 y' ∙ r.two_words;
        one_slot = length-set s.homes 0 (some (Some x)) ∙ r.one_slot;
        served = get_or-set_same s.words 0 y' 0 (omega arith) ∙ up;
        drawn = word ∙ drawn ∙ same;
        fits = subst (λ (z : ℕ). z < 18446744073709551616) (sym word) fits;
        is_legal = at_log (λ z h. t.legal z (calls_of h)) lawful;
        home = λ _. (
          x,
          set_here s.homes 0 (some (Some x)) (omega arith),
          at_log (λ z h. StandsFor t.legal t.stands t.setting z h x) stands,
        );
        live = record {
          has_setting = live.has_setting;
          has_seen = ([], append-nil w.seen ∙ ap (λ (l : List (Entry C A)). l ++ e ∷ []) seen);
          has_share = live.has_share;
          owns_own = live.owns_own;
          made_own = λ q own. entries_of_both q v.mine r.log e (live.made_own q own);
          no_others = λ q other. entries_of_other q v.mine e (not_mine q other) ∙ live.no_others q other;
          seen_own = λ q _. ap (λ (l : List (Entry C A)). entries_of q (l ++ e ∷ [])) seen;
          in_stage = number;
        };
        others = λ j u other f sp. let theirs = r.each j u f sp in record {
          has_setting = theirs.has_setting;
          has_seen = prefix_push u.seen r.log e theirs.has_seen;
          has_share = theirs.has_share;
          owns_own = theirs.owns_own;
          made_own = λ q own. theirs.made_own q own
              ∙ sym (entries_of_other q r.log e (not_mine q (λ g. other (sym own ∙ g))));
          no_others = theirs.no_others;
          seen_own = λ q own. theirs.seen_own q own
              ∙ sym (entries_of_other q r.log e (not_mine q (λ g. other (sym own ∙ g))));
          in_stage = subst (λ (z : ℕ). InStage made_with log' r.owner z j u u.stage) same
              (stage_on made_with r.log r.owner j u (next_of t made_with s r) e u.stage
              (λ i g ii. other (r.apart j id u v (length r.log) f at (g ∙ ap Some ii)
              (ap ticket_of st ∙ ap Some is)))
              theirs.in_stage);
        };
        apart = λ j u i other f g g'. absurd (cc);
        not_given = λ q le.
            let near = at_below s.views id v at in
            let ne : e.number ≢ q = λ f. omega arith in
            entries_of_other q r.log e ne ∙ (r.not_given q le).1;
        whole = (
          id,
          w,
          set_here s.views id w (at_below s.views id v at),
          refl,
          ap
              (λ (l : List (Entry C A)). l ++ e ∷ []) seen,
        );
      } in
      subst (λ (held : List (ℕ × Slot V C A)). Goes t made_with s 0 id (v, held) (Served n v held) y') (sym has) (
        w,
        gives,
        tt,
        kept,
        (λ x' last' f g.
            let same_x : x ≡ x' = ap (λ (z : List (ℕ × Slot V C A)). held_or x z) f in
            let same_last : last ≡ last' = cc in (
              ap (λ (z : LastCall C A). (with_call v z, [])) same_last,
              entries_of_both v.number v.seen v.mine e
                  (ap (entries_of v.number) seen
                  ∙ sym (live.made_own v.number (ap r.owner number ∙ owned))),
              λ all q. entries_of_both q v.seen v.mine e
                  (ap (entries_of q) seen ∙ all_own t made_with s r id v at lives all q),
            )),
      )

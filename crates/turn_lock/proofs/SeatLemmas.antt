-- What a seat is told after a split or a join.
use Rattle.std.proofs.Common.{◌≡◌, ℕ, subst, false, List, [], set, sym, refl, ap, ◌∙◌, None}
use mathlib.Core.Option.{none}
use Rattle.atomic_table.specs.Table.{step, keeps, Allows}
use Rattle.turn_lock.specs.declared.value.Turn.{Ghosts}
use Rattle.turn_lock.specs.declared.view.Entry.{Entry}
use Rattle.turn_lock.specs.declared.view.Merge.{Merge}
use Rattle.turn_lock.specs.declared.view.Stage.TheVariants.{Fresh, Idle, Joined}
use Rattle.turn_lock.specs.declared.view.View.{View}
use Rattle.turn_lock.specs.Histories.{calls_of, entries_of}
use Rattle.turn_lock.specs.Stages.{ticket_of, is_serving, is_spent}
use Rattle.turn_lock.specs.Views.{at_stage, with_number}
use Rattle.turn_lock.specs.Steps.{Learns, Settles}
use Rattle.turn_lock.proofs.PlaceLemmas.{At}
use Rattle.turn_lock.proofs.PrefixLemmas.{none_before}
use Rattle.turn_lock.proofs.StageLemmas.{live_as}
use Rattle.turn_lock.proofs.RuleLemmas.{St, M, Rule, table, next_of, loads, looks, all_seen, has_all}
use Rattle.turn_lock.proofs.RuleLemmas.{stage_at}

module _ {V C A T : Type 0} (t : Ghosts V C A T) (made_with : T) where
  abbrev K : St t made_with → Type 0
  K s = Rule t made_with s

  -- a seat with no ticket is idle from now on
  becomes_idle : (s : St t made_with) (r : K s) (id : ℕ) (v : View C A T) → At s.views id v
      → is_spent v.stage ≡ false → is_serving v.stage ≡ false → ticket_of v.stage ≡ None
      → (number : ℕ) → number ≡ id
      → K (table t made_with s.words s.homes (set s.views id (with_number v number)))
  becomes_idle s r id v at lives off none_out number is =
      let live = r.each id v at lives in
      let next : ℕ = next_of t made_with s r in
      let live' = live_as made_with r.log r.owner id v
      (with_number v number) next next live refl refl refl live.has_seen live.seen_own is in
      looks t made_with s r id v (with_number v number) at refl off refl (sym none_out) live' (λ e. e)

  pub learns : (n id : ℕ) (me : M t made_with) → me.0.stage ≡ Fresh
      → Allows K n id me 0 (λ y. y) (Learns (step n 0 0 0 none) me)
  learns n id me st s r _ at _ =
      let v : View C A T = me.0 in
      let lives : is_spent v.stage ≡ false = ap is_spent st in
      let live = r.each id v at lives in
      let fresh = stage_at t made_with s r id v Fresh at lives st in
      let none_made : entries_of id r.log ≡ [] =
      sym (live.made_own id live.owns_own) ∙ ap (entries_of id) fresh.1 in
      let none_seen : entries_of id v.seen ≡ [] = none_before id v.seen r.log live.has_seen none_made in (
        with_number v id,
        keeps,
        tt,
        loads t made_with s r id me.1 (with_number v id)
            (becomes_idle s r id v at lives (ap is_serving st) (ap ticket_of st) id refl),
        λ _. (id, refl, fresh.0, none_seen),
      )

  pub settles : (n id : ℕ) (me : M t made_with) (m : Merge C A) → me.0.stage ≡ Joined m
      → Allows K n id me 0 (λ y. y) (Settles t.legal (step n 0 0 0 none) me)
  settles n id me m st s r _ at _ =
      let v : View C A T = me.0 in
      let lives : is_spent v.stage ≡ false = ap is_spent st in
      let live = r.each id v at lives in
      let same : T × List (Entry C A) → Type 0 = λ z. t.legal z.0 (calls_of z.1) in (
        at_stage v Idle,
        keeps,
        tt,
        loads t made_with s r id me.1 (at_stage v Idle)
            (becomes_idle s r id v at lives (ap is_serving st) (ap ticket_of st) v.number
            (stage_at t made_with s r id v (Joined m) at lives st).0),
        λ m' e. (
          refl,
          (stage_at t made_with s r id v (Joined m') at lives e).1,
          λ all. (
            has_all t made_with s r id v at lives all,
            subst same
                (λ i. (sym live.has_setting i, sym (all_seen t made_with s r id v at all) i)) r.is_legal,
          ),
        ),
      )

use Rattle.std.proofs.Common.{◌≡◌, ◌++◌, ◌∷◌, [], ◌∙◌, ◌-◌, take, All, List, inr, refl, subst, sym, ap, append_assoc}
use Rattle.std.proofs.lemmas.List.{append-nil, map-append}
use Rattle.channel_core.proofs.LegalLemmas.{All-pushed}
use Rattle.session_crews.specs.Crews.{IsOut, Joins, promises}
use Rattle.session_crews.proofs.CrewLemmas.{IsStarted-done}
use Rattle.session_crews.proofs.crew.gather.Goals as goal

pub loop-init : goal.loop-init
loop-init g c = (
  c.requires.lock,
  c.requires.shelf_lock,
  c.requires.out,
  refl,
  (λ own parts so. (
    [],
    subst
        (λ l. Joins g.F.Feeder.told g.W.Spawner.faults own (promises c.args.running.items) l
        c.args.done) (sym (append-nil parts)) so,
  )),
)

popped : {X : Type 0} (P : X → Type 0) (all rest : List X) (x : X)
    → all ≡ rest ++ x ∷ []
    → All P all
    → All P rest × P x
popped P all rest x is holds = All-pushed P rest x (subst (All P) is holds)

pub settled-other-requires-after_bounds : goal.settled-other-requires-after_bounds
settled-other-requires-after_bounds g c κs within =
    let m = c.loop.invariant in
    let ctx = c.args.ctx.now in
    let P = IsOut g.F.Feeder.told g.W.Spawner.faults ctx.ends.now ctx.shelf.now in
    let x = (popped P _ _ _ c.in-Some-pop.ensures.items m.2).1 in
    (IsStarted-done _ _ _ _ _ _ _ x.started
    (c.join-joined.ensures x.started.promise x.started.is_call)).joins.end_made.same_lock
    ∙ x.end_lock

pub absorb-requires-clause-other_lock : goal.absorb-requires-clause-other_lock
absorb-requires-clause-other_lock g c κs within =
    let m = c.loop.invariant in
    let ctx = c.args.ctx.now in
    let P = IsOut g.F.Feeder.told g.W.Spawner.faults ctx.ends.now ctx.shelf.now in
    let x = (popped P _ _ _ c.in-Some-pop.ensures.items m.2).1 in
    c.settled-other.ensures.same_lock
    ∙ (IsStarted-done _ _ _ _ _ _ _ x.started
    (c.join-joined.ensures x.started.promise x.started.is_call)).joins.end_made.same_lock
    ∙ x.end_lock

pub absorb-requires-clause-other_shelf_lock : goal.absorb-requires-clause-other_shelf_lock
absorb-requires-clause-other_shelf_lock g c κs within =
    let m = c.loop.invariant in
    let ctx = c.args.ctx.now in
    let P = IsOut g.F.Feeder.told g.W.Spawner.faults ctx.ends.now ctx.shelf.now in
    let x = (popped P _ _ _ c.in-Some-pop.ensures.items m.2).1 in
    c.settled-other.ensures.same_shelf_lock
    ∙ (IsStarted-done _ _ _ _ _ _ _ x.started
    (c.join-joined.ensures x.started.promise x.started.is_call)).joins.shelf_made.same_lock
    ∙ x.shelf_lock

pub loop-preserved : goal.loop-preserved
loop-preserved g c =
    let m = c.loop.invariant in
    let told = g.F.Feeder.told in
    let faults = g.W.Spawner.faults in
    let P = IsOut told faults c.args.ctx.now.ends.now c.args.ctx.now.shelf.now in
    let two = popped P _ _ _ c.in-Some-pop.ensures.items m.2 in
    let x = two.1 in
    let fed = c.settled-other.ensures.fed _ _ _
    (IsStarted-done _ _ _ _ _ _ _ x.started
    (c.join-joined.ensures x.started.promise x.started.is_call)) in (
      c.absorb.ensures.same_lock ∙ m.0,
      c.absorb.ensures.same_shelf_lock ∙ m.1,
      two.0,
      c.absorb.ensures.started ∙ m.3,
      (λ own parts so.
          let prev = m.4 own parts so in (
            prev.0 ++ fed.own ∷ fed.others,
            subst
                (λ l. Joins told faults own (promises c.pop.new.self.items) l c.absorb.new.done)
                (append_assoc parts prev.0 (fed.own ∷ fed.others))
                (c.absorb.ensures.joins own (promises c.pop.new.self.items) (parts ++ prev.0)
                c.in-Some-pop._promise x.is_new fed (inr c.settled-other.ensures.started)
                (subst (λ l. Joins told faults own l (parts ++ prev.0) c.loop.done)
                (ap promises c.in-Some-pop.ensures.items
                ∙ map-append _ c.pop.new.self.items _)
                prev.1)),
          )),
    )

pub returns-in-None-pop-clause-joins : goal.returns-in-None-pop-clause-joins
returns-in-None-pop-clause-joins g c own parts so =
    let prev = c.loop.invariant.4 own parts so in (
      prev.0,
      subst
          (λ l. Joins g.F.Feeder.told g.W.Spawner.faults own l (parts ++ prev.0) c.loop.done)
          (ap promises
          (c.in-None-pop.ensures.items
          ∙ append-nil c.pop.new.self.items
          ∙ c.in-None-pop.ensures.rest
          ∙ ap (λ n. take (n - 1) c.loop.running.items) c.in-None-pop.ensures.cases.0))
          prev.1,
    )

use Rattle.std.proofs.Common.{◌++◌, ◌∷◌, [], ◌∙◌, refl, sym, ap, subst, All, append_assoc, arith}
use Rattle.std.specs.Vec.{vec_len}
use Rattle.std.proofs.lemmas.Bool.{eqb-true}
use Rattle.std.proofs.lemmas.List.{nil_from_length}
use Rattle.std.proofs.lemmas.List.Elements.{All-nil, All-tail}
use Rattle.session_feeds.specs.Marks.{IsNew}
use Rattle.session_delivery.specs.Answers.{marks_of}
use Rattle.session_delivery.specs.Starts.{all, fails, lacks}
use Rattle.session_delivery.proofs.ListLemmas.{first_out}
use Rattle.session_delivery.proofs.StartLemmas.{CameBack-then, Started-none, Started-room, Started-then, refused_cause}
use Rattle.session_delivery.proofs.start_all.start_all.Goals as goal

pub loop-crew-init : goal.loop-crew-init
loop-crew-init g c = (
  c.requires.lock,
  c.requires.shelf_lock,
  c.requires.fresh,
  [],
  refl,
  Started-none g.F.Feeder.told g.W.Spawner.faults _ _ _ _ _,
)

pub returns-in_default : goal.returns-in_default
returns-in_default g c =
    let m = c.loop-crew.invariant in
    let told = g.F.Feeder.told in (
      lacks m.3 (marks_of told c.loop-crew.feeders.items),
      record {
        marks = m.4;
        ended = refl;
        left = refl;
        fresh = m.2;
        crew =
            Started-room told g.W.Spawner.faults _ _ _ _ _ _ _ _ _ m.3 m.5
            c.make_room.ensures.items;
        cause = λ is. absurd (cc);
      },
    )

pub loop-crew-preserved : goal.loop-crew-preserved
loop-crew-preserved g c =
    let m = c.loop-crew.invariant in
    let told = g.F.Feeder.told in
    let feeder = c.remove-feeder.result in
    let rest = c.remove-feeder.new.self.items in
    let front = first_out c.loop-crew.feeders.items rest feeder
    (omega (arith, c.remove-feeder.ensures.len, c.loop-crew.feeders.ok.0))
    c.remove-feeder.ensures.value c.remove-feeder.ensures.by_index.2 in (
      c.in-Ok.ensures.same_lock ∙ m.0,
      c.in-Ok.ensures.same_shelf_lock ∙ m.1,
      All-tail (λ f. IsNew (told f)) feeder rest
          (subst (All (λ f. IsNew (told f))) front m.2),
      m.3 ++ (told feeder).mark ∷ [],
      m.4
          ∙ ap (λ l. m.3 ++ marks_of told l) front
          ∙ sym (append_assoc m.3 ((told feeder).mark ∷ []) (marks_of told rest)),
      Started-then told g.W.Spawner.faults _ _ _ _ _ _ _ _ _ _ _ m.3
          (Started-room told g.W.Spawner.faults _ _ _ _ _ _ _ _ _ m.3 m.5
          c.make_room.ensures.items)
          ((told feeder).mark ∷ []) c.in-Ok.ensures.starts,
    )

pub returns-in-Err : goal.returns-in-Err
returns-in-Err g c =
    let m = c.loop-crew.invariant in
    let told = g.F.Feeder.told in
    let feeder = c.remove-feeder.result in
    let rest = c.remove-feeder.new.self.items in
    let front = first_out c.loop-crew.feeders.items rest feeder
    (omega (arith, c.remove-feeder.ensures.len, c.loop-crew.feeders.ok.0))
    c.remove-feeder.ensures.value c.remove-feeder.ensures.by_index.2 in (
      fails m.3 (told feeder).mark c.in-Err.starved (marks_of told rest),
      record {
        marks =
            m.4
            ∙ ap (λ l. m.3 ++ marks_of told l) front
            ∙ sym (append_assoc m.3 ((told feeder).mark ∷ []) (marks_of told rest));
        ended = refl;
        left = refl;
        fresh =
            All-tail (λ f. IsNew (told f)) feeder rest
            (subst (All (λ f. IsNew (told f))) front m.2);
        crew =
            CameBack-then told g.W.Spawner.faults _ _ _ _ _ _ _ _ _ _ _ m.3
            (Started-room told g.W.Spawner.faults _ _ _ _ _ _ _ _ _ m.3 m.5
            c.make_room.ensures.items)
            ((told feeder).mark ∷ []) c.in-Err.back c.in-Err.ensures.starts;
        cause = λ is. refused_cause c.in-Err.starved _ _ c.in-Err.ensures.failed is;
      },
    )

pub returns : goal.returns
returns g c =
    let m = c.loop-crew.invariant in
    let told = g.F.Feeder.told in
    let zero = eqb-true (vec_len c.loop-crew.feeders) 0
    (sym c.is_empty.ensures ∙ c.loop-crew-test.false) in
    let none = nil_from_length c.loop-crew.feeders.items
    (omega (arith, zero, c.loop-crew.feeders.ok.0)) in (
      all m.3,
      record {
        marks = m.4 ∙ ap (λ l. m.3 ++ marks_of told l) none;
        ended = refl;
        left = refl;
        fresh = All-nil (λ f. IsNew (told f));
        crew = m.5;
        cause = λ is. absurd (cc);
      },
    )

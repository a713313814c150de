use Rattle.std.proofs.Common.{Some, [], ◌∷◌, ◌++◌, if◌then◌else◌, refl, sym, ap, ◌∙◌}
use Rattle.session_run.proofs.AddsLemmas.{AddsCalls-none}
use Rattle.session_crews.specs.declared.feed_end.FeedEnd.{FeedEnd}
use Rattle.session_crews.specs.FeedTurns.{comes, end_of_look, end_of_put, fails, gives, starves, waits}
use Rattle.session_crews.proofs.FeedLemmas.{Makes-from}
use Rattle.session_crews.proofs.feed_step.feed_step.Goals as goal

pub returns-in-Some : goal.returns-in-Some
returns-in-Some g c =
    let n = c.in-Piece.ensures in
    let t = c.put_item-put.ensures in
    Makes-from _ _ _ _ _ _ _ _ (gives t.0) n.mark n.children
    (n.pieces ∙ ap (λ i. (g.F.Feeder.told c.args.feeder.now).pieces ++ i ∷ []) (sym t.1.item))
    n.came record { counted = n.counted; failed = λ is. absurd (cc) } (t.1.is_last, t.1.as_last)
    refl t.1.calls (AddsCalls-none _)
    (ap end_of_put t.1.answer ∙ sym c.end_of_put.ensures ∙ c.in-Some.is)

pub returns-in-Piece : goal.returns-in-Piece
returns-in-Piece g c =
    let n = c.in-Piece.ensures in
    let t = c.put_item-put.ensures in
    Makes-from _ _ _ _ _ _ _ _ (gives t.0) n.mark n.children
    (n.pieces ∙ ap (λ i. (g.F.Feeder.told c.args.feeder.now).pieces ++ i ∷ []) (sym t.1.item))
    n.came record { counted = n.counted; failed = λ is. absurd (cc) } (t.1.is_last, t.1.as_last)
    refl t.1.calls (AddsCalls-none _)
    (ap end_of_put t.1.answer ∙ sym c.end_of_put.ensures ∙ c.in-None.is)

pub returns-then-seen : goal.returns-then-seen
returns-then-seen g c =
    let n = c.in-Quiet.ensures in
    Makes-from _ _ _ _ _ _ _ _ (waits c.look-seen.result) n.mark n.children n.pieces n.came
    record { counted = n.counted; failed = λ is. absurd (cc) } tt refl c.look-seen.ensures
    (AddsCalls-none _) (ap end_of_look c.if-seen.true)

pub returns-in-Quiet : goal.returns-in-Quiet
returns-in-Quiet g c =
    let n = c.in-Quiet.ensures in
    Makes-from _ _ _ _ _ _ _ _ (waits c.look-seen.result) n.mark n.children n.pieces n.came
    record { counted = n.counted; failed = λ is. absurd (cc) } tt refl c.look-seen.ensures
    (AddsCalls-none _) (ap end_of_look c.if-seen.false)

pub returns-then-add : goal.returns-then-add
returns-then-add g c =
    let n = c.in-Over.ensures in
    Makes-from _ _ _ _ _ _ _ _ (comes c.add.result) n.mark n.children n.pieces n.came
    record { counted = n.counted; failed = λ is. absurd (cc) } tt refl (AddsCalls-none _)
    c.add.ensures
    (ap (λ b. if b then Some FeedEnd.Over else Some FeedEnd.NoMemory) c.if-add.true)

pub returns-in-Over : goal.returns-in-Over
returns-in-Over g c =
    let n = c.in-Over.ensures in
    Makes-from _ _ _ _ _ _ _ _ (comes c.add.result) n.mark n.children n.pieces n.came
    record { counted = n.counted; failed = λ is. absurd (cc) } tt refl (AddsCalls-none _)
    c.add.ensures
    (ap (λ b. if b then Some FeedEnd.Over else Some FeedEnd.NoMemory) c.if-add.false)

pub returns-in-Failed : goal.returns-in-Failed
returns-in-Failed g c =
    let n = c.in-Failed.ensures in
    Makes-from _ _ _ _ _ _ _ _ fails n.mark n.children n.pieces n.came
    record { counted = n.counted; failed = λ is. n.failed } tt refl (AddsCalls-none _)
    c.note_finish.ensures refl

pub returns : goal.returns
returns g c =
    let n = c.in-NoMemory.ensures in
    Makes-from _ _ _ _ _ _ _ _ starves n.mark n.children n.pieces n.came
    record { counted = n.counted; failed = λ is. absurd (cc) } tt refl (AddsCalls-none _)
    (AddsCalls-none _) refl

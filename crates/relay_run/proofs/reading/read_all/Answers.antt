use Rattle.std.proofs.Common.{[], ◌∷◌, ◌++◌, ◌∙◌}
use Rattle.relay_run.proofs.ReadingLemmas.{ReadAll-last, ReadAll-left, ReadSome-more, ReadSome-none}
use Rattle.relay_run.proofs.reading.read_all.Goals as goal

pub loop-init : goal.loop-init
loop-init g c = ([], ReadSome-none _ _ c.requires.over)

pub turn-heard-requires-clause-over : goal.turn-heard-requires-clause-over
turn-heard-requires-clause-over g c = c.loop.invariant.1.over

pub turn-heard-requires-clause-switch : goal.turn-heard-requires-clause-switch
turn-heard-requires-clause-switch g c =
    c.loop.invariant.1.seat.same_seat.same_lock ∙ c.requires.switch

pub turn-heard-requires-clause-desk : goal.turn-heard-requires-clause-desk
turn-heard-requires-clause-desk g c =
    c.loop.invariant.1.desk.same_seat.same_lock ∙ c.requires.desk

pub loop-preserved : goal.loop-preserved
loop-preserved g c =
    let m = c.loop.invariant in
    let t = c.turn-heard.ensures in (
      m.0 ++ t.0 ∷ [],
      ReadSome-more _ _ _ _ _ _ _ _ m.0 t.0 _ m.1 t.1.reads t.1.desk c.if-inlet.false,
    )

pub returns-then-inlet : goal.returns-then-inlet
returns-then-inlet g c =
    let m = c.loop.invariant in
    let t = c.turn-heard.ensures in
    ReadAll-last _ _ _ _ _ _ _ _ m.0 t.0 _ m.1 t.1.reads t.1.desk c.if-inlet.true

pub returns-then-is_due : goal.returns-then-is_due
returns-then-is_due g c =
    let m = c.loop.invariant in
    let t = c.turn-heard.ensures in
    ReadAll-left _ _ _ _ _ _ _ _ m.0 t.0 _ m.1 t.1.reads t.1.desk _ _ c.leave.ensures.0 _
    c.leave.ensures.1.steps c.leave.ensures.1.desk

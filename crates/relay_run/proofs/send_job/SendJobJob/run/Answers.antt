use Rattle.std.proofs.Common.{[], ◌∷◌, ◌++◌}
use Rattle.relay_run.proofs.SendingLemmas.{SentAll-last, SentAll-stopped, SentSome-more, SentSome-none}
use Rattle.relay_run.proofs.send_job.SendJobJob.run.Goals as goal

pub loop-init : goal.loop-init
loop-init g c = (c.args.self.new, [], SentSome-none _)

pub loop-preserved : goal.loop-preserved
loop-preserved g c =
    let m = c.loop.invariant in
    let t = c.turn-turned.ensures in (
      c.if-outlet.false,
      m.1 ++ t.0 ∷ [],
      SentSome-more _ _ _ m.1 t.0 _ m.2 t.1 c.if-outlet.false,
    )

pub returns-then-outlet : goal.returns-then-outlet
returns-then-outlet g c =
    let m = c.loop.invariant in
    let t = c.turn-turned.ensures in
    SentAll-last _ _ _ m.1 t.0 _ _ m.2 t.1 c.if-outlet.true c.end_of.ensures

pub returns-then-is_set : goal.returns-then-is_set
returns-then-is_set g c =
    let m = c.loop.invariant in
    let s = c.stop.ensures in
    SentAll-stopped _ _ _ m.1 m.2 s.conn s.seat s.over s.steady

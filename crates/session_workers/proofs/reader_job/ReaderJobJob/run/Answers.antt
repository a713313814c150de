use Rattle.std.proofs.Common.{◌∙◌, sym, ◌++◌, []}
use Rattle.session_workers.proofs.ReaderLemmas.{None-from_is_some}
use Rattle.session_workers.proofs.ReaderRunLemmas.{Reads-closing, Reads-none, Reads-then}
use Rattle.session_workers.proofs.reader_job.ReaderJobJob.run.Goals as goal

pub loop-init : goal.loop-init
loop-init g c = (c.args.self.new, [], Reads-none _ _ _ _ _)

pub loop-preserved : goal.loop-preserved
loop-preserved g c =
    let m = c.loop.invariant in
    let t = c.turn.ensures in
    let steps = Reads-then _ _ _ _ _ _ _ _ _ m.2 t.2 in
    (None-from_is_some _ c.if-is_some.ensures, m.1 ++ t.0, steps)

pub returns-then-is_some : goal.returns-then-is_some
returns-then-is_some g c =
    let m = c.loop.invariant in
    let t = c.turn.ensures in
    let steps = Reads-then _ _ _ _ _ _ _ _ _ m.2 t.2 in
    record {
      steps = m.1 ++ t.0;
      reads = Reads-closing _ _ _ _ _ _ _ _ _ steps c.close_unless_closed.ensures;
      over = sym c.is_some.ensures ∙ c.if-is_some.true;
    }

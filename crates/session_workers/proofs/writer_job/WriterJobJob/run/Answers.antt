use Rattle.std.proofs.Common.{◌∙◌, sym, ◌++◌, ◌∷◌, []}
use Rattle.session_workers.proofs.WriterRunLemmas.{Wrote-closing, Wrote-more, Wrote-none, starved-last}
use Rattle.session_workers.proofs.writer_job.WriterJobJob.run.Goals as goal

pub loop-init : goal.loop-init
loop-init g c = (c.args.self.new, [], Wrote-none _ _ _ c.args.self.new)

pub loop-preserved : goal.loop-preserved
loop-preserved g c =
    let m = c.loop.invariant in
    let w = c.turn.ensures in
    let had_memory = sym c.is_err.ensures.value ∙ c.if-is_err.false in
    let more = Wrote-more _ _ _ _ _ _ _ _ _ had_memory m.0 m.2 w.1 in
    (c.if-writer.false, m.1 ++ w.0 ∷ [], more)

pub returns-then-writer : goal.returns-then-writer
returns-then-writer g c =
    let m = c.loop.invariant in
    let w = c.turn.ensures in
    let had_memory = sym c.is_err.ensures.value ∙ c.if-is_err.false in
    record {
      turns = m.1 ++ w.0 ∷ [];
      wrote = Wrote-more _ _ _ _ _ _ _ _ _ had_memory m.0 m.2 w.1;
      over = c.if-writer.true;
    }

pub returns-then-is_err : goal.returns-then-is_err
returns-then-is_err g c =
    let m = c.loop.invariant in
    let w = c.turn.ensures in
    let wanted = sym c.is_err.ensures.value ∙ c.if-is_err.true in
    let more = Wrote-more _ _ _ _ _ _ _ _ _ wanted m.0 m.2 w.1 in
    record {
      turns = m.1 ++ w.0 ∷ [];
      wrote = Wrote-closing _ _ _ _ _ _ _ _ more c.close.ensures.calls;
      over = w.1.over ∙ starved-last w.0 (sym w.1.starved ∙ wanted);
    }

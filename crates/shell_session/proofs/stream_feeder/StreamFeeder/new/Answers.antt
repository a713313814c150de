use Rattle.std.proofs.Common.{arith}
use Rattle.shell_session.proofs.ReadingLemmas.{new_reads}
use Rattle.shell_session.proofs.stream_feeder.StreamFeeder.new.Goals as goal

pub invariant_of-result : goal.invariant_of-result
invariant_of-result g c =
    rw (c.of-first.ensures, c.new.ensures)
    (new_reads c.args.ptype (g.S.Source.input c.args.source) (g.S.Source.faults c.args.source)
    (omega (arith, c.ranges.ptype)))

use Rattle.std.proofs.Common.{Option, refl, subst, sym, rules}
use Rattle.chan_io.specs.Sources.{Input, Reads}
use Rattle.lab_cmd.specs.Inputs.{GivesAtMost}
use Rattle.lab_cmd.proofs.Reading.{ReadSome-none, same_at_end, GivesAtMost-read}
use Rattle.lab_cmd.proofs.input.read_input.Goals as goal

pub reading-init : goal.reading-init
reading-init g c =
    record {
      read = rw c.new-input.ensures.items (ReadSome-none (g.S.Source.input c.args.source.now));
      short = search rules;
      steady = refl;
    }

pub returns-then-count-eq0-clause-bounded : goal.returns-then-count-eq0-clause-bounded
returns-then-count-eq0-clause-bounded g c =
    let input = g.S.Source.input in
    let Bounded : Option Input → Type 0 = GivesAtMost 67108865 (input c.args.source.now) in
    let read : Reads 0 c.read.new.into (input c.reading.source) (input c.read.new.self) =
    rw c.if-count-eq0.true at c.in_ok-count.ensures.reads in
    subst Bounded (sym (same_at_end c.read.new.into (input c.reading.source) (input c.read.new.self)
    read))
    (GivesAtMost-read 67108865 c.reading.input.items (input c.args.source.now)
    (input c.reading.source) c.reading.invariant.read c.reading.invariant.short)

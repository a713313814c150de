use Rattle.lab_cmd.specs.declared.words.Mode.{Mode}
use Rattle.lab_cmd.specs.Meanings.{ReadsInput, outside}
use Rattle.lab_cmd.proofs.MeaningLemmas.{Means-read}
use Rattle.lab_cmd.proofs.program.run_mode.Goals as goal

pub returns-in_ok-input-in-Windowed-clause-means : goal.returns-in_ok-input-in-Windowed-clause-means
returns-in_ok-input-in-Windowed-clause-means g c =
    let at = outside g.S.Source.input g.S.Source.faults g.K.Sink.output g.K.Sink.faults in
    let read = c.in_ok-input-in-Windowed in
    let reads : ReadsInput read.input.items (g.S.Source.input c.args.source.now)
    (g.S.Source.input c.read_input.new.source) =
    record { read = read.ensures.whole; short = read.ensures.short } in
    rw c.in-Windowed.is
    (Means-read (Mode.Windowed c.in-Windowed.task c.in-Windowed.window) read.input.items _ _
    (at c.args.source.now c.args.sink.now) (at c.read_input.new.source c.report.new.sink) reads
    (read.ensures.steady (λ is. cc))
    (rw c.deref.ensures.value at c.report.ensures.means))

pub returns-in_ok-input-in-Show-clause-means : goal.returns-in_ok-input-in-Show-clause-means
returns-in_ok-input-in-Show-clause-means g c =
    let at = outside g.S.Source.input g.S.Source.faults g.K.Sink.output g.K.Sink.faults in
    let read = c.in_ok-input-in-Show in
    let reads : ReadsInput read.input.items (g.S.Source.input c.args.source.now)
    (g.S.Source.input c.read_input-in-Show.new.source) =
    record { read = read.ensures.whole; short = read.ensures.short } in
    rw c.in-Show.is
    (Means-read Mode.Show read.input.items _ _
    (at c.args.source.now c.args.sink.now) (at c.read_input-in-Show.new.source c.list.new.sink)
    reads
    (read.ensures.steady (λ is. cc))
    (rw c.deref-in-Show.ensures.value at c.list.ensures.means))

pub returns-in-Gen-clause-means : goal.returns-in-Gen-clause-means
returns-in-Gen-clause-means g c =
    rw c.in-Gen.is
    (c.generate.ensures.means (g.S.Source.input c.args.source.now)
    (g.S.Source.faults c.args.source.now))

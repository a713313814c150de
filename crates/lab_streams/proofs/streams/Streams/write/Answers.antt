use Rattle.std.proofs.Common.{refl}
use Rattle.lab_streams.specs.Steps.{write_step}
use Rattle.lab_streams.proofs.StepLemmas.{IsStreams-called, report-called}
use Rattle.lab_streams.proofs.streams.Streams.write.Goals as goal

pub returns-clause-made : goal.returns-clause-made
returns-clause-made g c w past is =
    let line = c.args.context.now.line in
    IsStreams-called w past (write_step past line c.args.side c.args.sid c.args.bytes.now)
    c.args.self.now _ c.line.result refl is (c.in_ok-outcome.ensures past line is.link).made

pub returns-clause-printed : goal.returns-clause-printed
returns-clause-printed g c w past is =
    let line = c.args.context.now.line in
    rw (report-called past (write_step past line c.args.side c.args.sid c.args.bytes.now) line
    _ _ _ _ refl (c.in_ok-outcome.ensures past line is.link))
    c.line.ensures

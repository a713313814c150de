use Rattle.std.proofs.Common.{refl}
use Rattle.lab_streams.specs.Steps.{feed_step}
use Rattle.lab_streams.proofs.ReportLemmas.{report-events}
use Rattle.lab_streams.proofs.StepLemmas.{IsStreams-called}
use Rattle.lab_streams.proofs.streams.Streams.feed.Goals as goal

pub returns-clause-made : goal.returns-clause-made
returns-clause-made g c w past is =
    let line = c.args.context.now.line in
    IsStreams-called w past (feed_step past line c.args.side) c.args.self.now _
    c.tell_events.result refl is
    (c.in_ok-events.ensures past line is.link).made

pub returns-clause-printed : goal.returns-clause-printed
returns-clause-printed g c w past is =
    let line = c.args.context.now.line in
    let told = (c.in_ok-events.ensures past line is.link).told in
    rw (
      report-events (feed_step past line c.args.side) c.args.side c.in_ok-events.events told,
      ← c.as_slice.ensures,
    )
    c.tell_events.ensures

use Rattle.std.proofs.Common.{◌∙◌}
use Rattle.session_delivery.specs.declared.deliver_end.DeliverEnd.{DeliverEnd}
use Rattle.session_end.proofs.DeliveredLemmas.{end_tells}
use Rattle.session_end.proofs.threads.run_crew.Goals as goal

pub serve_left-refused-requires-clause-begun : goal.serve_left-refused-requires-clause-begun
serve_left-refused-requires-clause-begun g c κs within is =
    let served = c.start_crew-writer.ensures.served in
    served.was_begun
    ∙ (end_tells served.part served.fits DeliverEnd.Closed tt (served.ended ∙ is)).0

pub serve_left-refused-requires-clause-on : goal.serve_left-refused-requires-clause-on
serve_left-refused-requires-clause-on g c κs within is =
    let served = c.start_crew-writer.ensures.served in
    let told = end_tells served.part served.fits DeliverEnd.Closed tt (served.ended ∙ is) in
    served.was_refused told.0 ∙ told.1

-- The refusals with which the deliverer and the workers of feeders ended.
use Rattle.session_crews.specs.FeedTurns.{either, refusals_in}
use Rattle.session_crews.specs.declared.feed_end.Refusals.{Refusals}
use Rattle.session_delivery.specs.Deliveries.{DelivererPart, refusals_of}

-- those of memory, of threads and of feeders
abbrev pub refusals_by : DelivererPart → Refusals
refusals_by p = either (refusals_of p.ended) (refusals_in p.feeders)

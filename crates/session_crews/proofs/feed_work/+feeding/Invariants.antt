use Rattle.std.proofs.Common.{◌+◌, ◌*◌, None, List}
use Rattle.turn_lock.specs.Seats.{IsSeatOf}
use Rattle.session_crews.specs.FeedRuns.{Working}
use Rattle.session_crews.specs.FeedTurns.{FeedTurn}
use Rattle.session_crews.proofs.feed_work.+feeding.Given as goal

abbrev pub decreases-start_feeder : goal.decreases-start_feeder
decreases-start_feeder g l = 6 * l.start.depth + 1

abbrev pub decreases-start_in_crew : goal.decreases-start_in_crew
decreases-start_in_crew g l = 6 * l.depth + 2

abbrev pub decreases-feed_turn : goal.decreases-feed_turn
decreases-feed_turn g l = 6 * l.depth + 3

abbrev pub decreases-run_feeder : goal.decreases-run_feeder
decreases-run_feeder g l = 6 * l.start.depth + 4

abbrev pub decreases-run_started : goal.decreases-run_started
decreases-run_started g l = 6 * l.start.depth + 5

abbrev pub decreases-start_feeder-work : goal.decreases-start_feeder-work
decreases-start_feeder-work g l = 6 * l.start.depth + 6

abbrev pub invariant-run_feeder-loop : goal.invariant-run_feeder-loop
invariant-run_feeder-loop g l =
    IsSeatOf l.ctx.ends.now l.crew.end
    × IsSeatOf l.ctx.shelf.now l.crew.shelf
    × (turns : List FeedTurn)
    × Working g.F.Feeder.told g.W.Spawner.faults l.ctx.ends.now l.ctx.shelf.now l.fn.start.end
    l.fn.start.shelf l.fn.start.feeder turns None l.crew.end l.crew.shelf l.crew.running.items
    l.feeder

use Rattle.std.proofs.Common.{◌≡◌, ◌++◌, All, List}
use Rattle.turn_lock.specs.Seats.{IsSeatOf}
use Rattle.session_crews.specs.Crews.{IsOut, Joins, Own, promises}
use Rattle.session_crews.specs.FeedTurns.{FeedPart}
use Rattle.session_crews.proofs.crew.gather.Given as goal

abbrev pub invariant-loop : goal.invariant-loop
invariant-loop g l =
    let told = g.F.Feeder.told in
    let faults = g.W.Spawner.faults in
    IsSeatOf l.fn.ctx.ends.now l.done.end
    × IsSeatOf l.fn.ctx.shelf.now l.done.shelf
    × All (IsOut told faults l.fn.ctx.ends.now l.fn.ctx.shelf.now) l.running.items
    × (l.done.started ≡ l.initial.done.started)
    × ((own : Own) (parts : List FeedPart)
    → Joins told faults own (promises l.initial.running.items) parts l.initial.done
    → (more : List FeedPart)
    × Joins told faults own (promises l.running.items) (parts ++ more) l.done)

use Rattle.std.proofs.Common.{◌≡◌, ◌++◌, ℕ, All, List}
use Rattle.std.specs.Vec.{vec_len}
use Rattle.turn_lock.specs.Seats.{IsSeatOf}
use Rattle.session_feeds.specs.Marks.{IsNew}
use Rattle.session_delivery.specs.Answers.{marks_of}
use Rattle.session_delivery.proofs.StartLemmas.{Started}
use Rattle.session_delivery.proofs.start_all.start_all.Given as goal

abbrev pub invariant-loop-crew : goal.invariant-loop-crew
invariant-loop-crew g l =
    let told = g.F.Feeder.told in
    IsSeatOf l.fn.ctx.ends.now l.crew.end
    × IsSeatOf l.fn.ctx.shelf.now l.crew.shelf
    × All (λ f. IsNew (told f)) l.feeders.items
    × (begun : List ℕ)
    × (marks_of told l.initial.feeders.items ≡ begun ++ marks_of told l.feeders.items)
    × Started told g.W.Spawner.faults l.fn.ctx.ends.now l.fn.ctx.shelf.now l.initial.crew.end
    l.initial.crew.shelf l.initial.crew.running.items begun l.crew.end l.crew.shelf
    l.crew.running.items

abbrev pub decreases-loop-crew : goal.decreases-loop-crew
decreases-loop-crew g l = vec_len l.feeders

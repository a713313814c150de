use Rattle.std.proofs.Common.{None, [], refl}
use Rattle.session_run.proofs.AddsLemmas.{AddsCalls-none}
use Rattle.session_crews.proofs.FeedLemmas.{Turned-first}
use Rattle.session_crews.proofs.GathersLemmas.{Gathers-none}
use Rattle.session_crews.proofs.WorkLemmas.{Fed-of, Joins-part}
use Rattle.session_crews.proofs.feed_start.FeedStart.not_started.Goals as goal

pub returns-clause-fed : goal.returns-clause-fed
returns-clause-fed g c =
    let told = g.F.Feeder.told in
    let faults = g.W.Spawner.faults in
    let s = c.args.self in
    Fed-of told faults s.end s.shelf s.feeder s.feeder [] None [] _
    (Joins-part told faults s.end s.shelf s.feeder [] [] None s.end s.shelf s.feeder _
    (Turned-first told s.feeder c.requires) (Gathers-none s.end) (Gathers-none s.shelf) refl
    (AddsCalls-none s.end) refl c.fill.ensures refl (λ is. absurd (cc)) (λ never. absurd (cc)))
    (λ is. (refl, refl, refl))

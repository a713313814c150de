use Rattle.std.proofs.Common.{◌≡◌, ◌++◌, ℕ, List, map}
use Rattle.session_feeds.specs.Marks.{ComesBack, Told, times}
use Rattle.session_feeds.specs.Sessions.{AllCameBack}
use Rattle.session_crews.specs.Places.{feeders_in}
use Rattle.session_delivery.proofs.giving_back.give_back.Given as goal

abbrev pub invariant-loop : goal.invariant-loop
invariant-loop g l =
    let told = g.S.F.Feeder.told in
    (done : List Told)
    × (map told (feeders_in l.initial.feeders.list)
    ≡ done ++ map told (feeders_in l.feeders.list))
    × AllCameBack (g.S.Session.stands l.initial.session) done (g.S.Session.stands l.session)
    × ((left : ℕ → ℕ)
    → ComesBack (times (g.S.Session.out l.initial.session))
    (map told (feeders_in l.initial.feeders.list)) left
    → ComesBack (times (g.S.Session.out l.session)) (map told (feeders_in l.feeders.list)) left)
    × (g.S.Session.begun l.session ≡ g.S.Session.begun l.initial.session)
    × (g.S.Session.refused l.session ≡ g.S.Session.refused l.initial.session)

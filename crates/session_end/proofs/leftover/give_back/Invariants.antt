use Rattle.std.proofs.Common.{◌≡◌, ◌++◌, ℕ, List, map}
use Rattle.session_feeds.specs.Marks.{ComesBack, Told, times}
use Rattle.session_feeds.specs.Sessions.{AllCameBack}
use Rattle.session_end.proofs.leftover.give_back.Given as goal

abbrev pub invariant-loop-session : goal.invariant-loop-session
invariant-loop-session g l =
    let told = g.S.F.Feeder.told in
    (done : List Told)
    × (map told l.initial.feeders.items ≡ done ++ map told l.feeders.items)
    × AllCameBack (g.S.Session.stands l.initial.session) done (g.S.Session.stands l.session)
    × ((after : ℕ → ℕ)
    → ComesBack (times (g.S.Session.out l.initial.session)) (map told l.initial.feeders.items)
    after
    → ComesBack (times (g.S.Session.out l.session)) (map told l.feeders.items) after)
    × (g.S.Session.begun l.session ≡ g.S.Session.begun l.initial.session)
    × (g.S.Session.refused l.session ≡ g.S.Session.refused l.initial.session)

abbrev pub decreases-loop-session : goal.decreases-loop-session
decreases-loop-session g l = goal.left-loop-session g l

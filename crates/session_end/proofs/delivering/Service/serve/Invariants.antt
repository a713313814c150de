use Rattle.std.proofs.Common.{◌≡◌, List, None, false}
use Rattle.session_end.specs.Leftovers.{LeftStep}
use Rattle.session_end.specs.Services.{Serving}
use Rattle.session_end.proofs.delivering.Service.serve.Given as goal

abbrev pub invariant-loop : goal.invariant-loop
invariant-loop g l =
    (steps : List LeftStep)
    × Serving g.S.Session.stands g.S.Session.out g.S.Session.begun g.S.Session.refused l.fn.self
    steps l.self l.progress
    × (l.progress.refused ≡ None)
    × (l.progress.over ≡ false)

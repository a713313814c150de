use Rattle.std.proofs.Common.{refl}
use Rattle.session_crews.proofs.JoinLemmas.{Joins-absorb}
use Rattle.session_crews.proofs.crew.absorb.Goals as goal

pub returns-clause-joins : goal.returns-clause-joins
returns-clause-joins g c own out parts p is_new its may so =
    Joins-absorb _ _ own out parts p _ _ _ is_new its may so c.join.ensures.joined
    c.join-2.ensures.joined c.append.ensures c.with-done.ensures refl c.merge.ensures.merges
    c.merge.ensures.counted

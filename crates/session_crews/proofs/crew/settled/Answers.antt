use Rattle.std.proofs.Common.{refl}
use Rattle.session_crews.proofs.SettleLemmas.{Fed-settled}
use Rattle.session_crews.proofs.crew.settled.Goals as goal

pub returns-clause-fed : goal.returns-clause-fed
returns-clause-fed g c end0 shelf0 feeder0 its =
    Fed-settled _ _ end0 shelf0 feeder0 _ _ its c.if-done.false c.close.ensures.calls refl refl
    c.of-done.ensures refl

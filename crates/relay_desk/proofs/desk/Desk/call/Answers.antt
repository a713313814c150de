use Rattle.relay_desk.proofs.DeskLemmas.{follows-as}
use Rattle.relay_desk.proofs.desk.Desk.call.Goals as goal

pub returns-in-Create : goal.returns-in-Create
returns-in-Create g c = follows-as _ _ _ _ _ _ _ _ _ c.in-Create.is c.create.ensures

pub returns-in-Open : goal.returns-in-Open
returns-in-Open g c = follows-as _ _ _ _ _ _ _ _ _ c.in-Open.is c.open.ensures

pub returns-in-End : goal.returns-in-End
returns-in-End g c = follows-as _ _ _ _ _ _ _ _ _ c.in-End.is c.end.ensures

pub returns-in-Ended : goal.returns-in-Ended
returns-in-Ended g c = follows-as _ _ _ _ _ _ _ _ _ c.in-Ended.is c.ended.ensures

pub returns-in-Draw : goal.returns-in-Draw
returns-in-Draw g c = follows-as _ _ _ _ _ _ _ _ _ c.in-Draw.is c.draw.ensures

use denote.Param.Send.{sendable}
use Rattle.session_workers.proofs.Crossing.{WriterDone-send, WriterJob-send}
use Rattle.session_end.proofs.RanLemmas.{WriterRan-all}
use Rattle.session_end.proofs.writing.run_workers.Goals as goal

pub start_or_close-started-requires-send-J : goal.start_or_close-started-requires-send-J
start_or_close-started-requires-send-J g c κs within =
    search (sendable, WriterJob-send) depth 20

pub start_or_close-started-requires-send-J-Done : goal.start_or_close-started-requires-send-J-Done
start_or_close-started-requires-send-J-Done g c κs within =
    search (sendable, WriterDone-send) depth 20

pub join-done-requires-send-J : goal.join-done-requires-send-J
join-done-requires-send-J g c κs within = search (sendable, WriterJob-send) depth 20

pub join-done-requires-send-J-Done : goal.join-done-requires-send-J-Done
join-done-requires-send-J-Done g c κs within = search (sendable, WriterDone-send) depth 20

pub returns-in-Ok-clause-wrote : goal.returns-in-Ok-clause-wrote
returns-in-Ok-clause-wrote g c =
    WriterRan-all _ _ _ _ _ _ _ (c.join-done.ensures c.args.writer c.in-Ok.ensures.start)

use denote.Param.Send.{sendable}
use Rattle.session_workers.proofs.Crossing.{ReaderDone-send, ReaderJob-send}
use Rattle.std.proofs.Common.{◌∙◌, ap}
use Rattle.std.proofs.Math.Nat.{le_refl}
use Rattle.session_run.proofs.AddsLemmas.{AddsCalls-then}
use Rattle.session_end.proofs.RanLemmas.{ReaderRan-all, ReaderRan-not, Rises-wide, closing_started}
use Rattle.session_end.proofs.reading.run_reader.Goals as goal

pub start_or_close-started-requires-send-J : goal.start_or_close-started-requires-send-J
start_or_close-started-requires-send-J g c κs within =
    search (sendable, ReaderJob-send) depth 20

pub start_or_close-started-requires-send-J-Done : goal.start_or_close-started-requires-send-J-Done
start_or_close-started-requires-send-J-Done g c κs within =
    search (sendable, ReaderDone-send) depth 20

pub join-done-requires-send-J : goal.join-done-requires-send-J
join-done-requires-send-J g c κs within = search (sendable, ReaderJob-send) depth 20

pub join-done-requires-send-J-Done : goal.join-done-requires-send-J-Done
join-done-requires-send-J-Done g c κs within = search (sendable, ReaderDone-send) depth 20

pub returns-in-Ok-clause-read : goal.returns-in-Ok-clause-read
returns-in-Ok-clause-read g c =
    ReaderRan-all _ _ _ _ _ _ _ _ (c.join-done.ensures c.args.reader c.in-Ok.ensures.start)

pub returns-in-Ok-clause-calls : goal.returns-in-Ok-clause-calls
returns-in-Ok-clause-calls g c =
    let all = c.join-done.ensures c.args.reader c.in-Ok.ensures.start in
    AddsCalls-then _ _ _ _ _ (closing_started _ _ _ all.over c.in-Ok.ensures.calls)
    c.run_deliverer-rest.ensures.calls

pub returns-in-Err-clause-read : goal.returns-in-Err-clause-read
returns-in-Err-clause-read g c =
    ReaderRan-not _ _ _ _ _ _ _ _ c.args.reader.new
    (c.reader_of.ensures ∙ ap (λ j. j.reader) c.in-Err.ensures.start)
    (Rises-wide _ _ _ _ (le_refl _) c.in-Err.ensures.failed c.run_deliverer-rest.ensures.counted)

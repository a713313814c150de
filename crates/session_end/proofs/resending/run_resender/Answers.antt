use denote.Param.Send.{sendable}
use Rattle.session_workers.proofs.Crossing.{ResendDone-send, ResendJob-send}
use Rattle.std.proofs.Common.{◌∙◌, ap, refl}
use Rattle.std.proofs.Math.Nat.{le_refl}
use Rattle.session_run.proofs.AddsLemmas.{AddsCalls-then}
use Rattle.session_end.proofs.RanLemmas.{ResenderRan-all, ResenderRan-not, Rises-wide, closing_started}
use Rattle.session_end.proofs.resending.run_resender.Goals as goal

pub start_or_close-started-requires-send-J : goal.start_or_close-started-requires-send-J
start_or_close-started-requires-send-J g c κs within =
    search (sendable, ResendJob-send) depth 20

pub start_or_close-started-requires-send-J-Done : goal.start_or_close-started-requires-send-J-Done
start_or_close-started-requires-send-J-Done g c κs within =
    search (sendable, ResendDone-send) depth 20

pub join-done-requires-send-J : goal.join-done-requires-send-J
join-done-requires-send-J g c κs within = search (sendable, ResendJob-send) depth 20

pub join-done-requires-send-J-Done : goal.join-done-requires-send-J-Done
join-done-requires-send-J-Done g c κs within = search (sendable, ResendDone-send) depth 20

pub returns-in-Ok-clause-resent : goal.returns-in-Ok-clause-resent
returns-in-Ok-clause-resent g c =
    ResenderRan-all _ _ _ _ _ (c.join-done.ensures c.args.resender c.in-Ok.ensures.start)

pub returns-in-Ok-clause-calls : goal.returns-in-Ok-clause-calls
returns-in-Ok-clause-calls g c =
    let all = c.join-done.ensures c.args.resender c.in-Ok.ensures.start in
    AddsCalls-then _ _ _ _ _ (closing_started _ _ _ all.over c.in-Ok.ensures.calls)
    c.run_reader-rest.ensures.calls

pub returns-in-Err-clause-resent : goal.returns-in-Err-clause-resent
returns-in-Err-clause-resent g c =
    ResenderRan-not _ _ _ _ _ c.args.resender.new
    (c.resender_of.ensures ∙ ap (λ j. j.resender) c.in-Err.ensures.start) refl
    (Rises-wide _ _ _ _ (le_refl _) c.in-Err.ensures.failed c.run_reader-rest.ensures.counted)

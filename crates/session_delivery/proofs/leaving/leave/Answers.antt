use Rattle.std.proofs.Common.{◌∷◌, [], ◌∙◌, ap, inl, subst}
use Rattle.session_crews.specs.Crews.{has_stopped, promises}
use Rattle.session_delivery.specs.Answers.{HasCrew, ended_by}
use Rattle.session_delivery.specs.Deliveries.{refusals_of}
use Rattle.session_delivery.proofs.LeaveLemmas.{HasCrew-on, HasCrew-out, Joins-own}
use Rattle.session_delivery.proofs.StartLemmas.{refusal_stops}
use Rattle.session_delivery.proofs.leaving.leave.Goals as goal

pub returns-in-On-clause-out : goal.returns-in-On-clause-out
returns-in-On-clause-out g c =
    HasCrew-out _ _ _ _ _ _ _ _ _ c.args.crew c.args.last c.requires.5

pub returns-in-On-clause-joins : goal.returns-in-On-clause-joins
returns-in-On-clause-joins g c end0 shelf0 calls shelf_calls marks so cause =
    let is = HasCrew-on _ _ _ _ _ _ _ _ _ c.args.crew c.args.last c.in-On.is so in (
      [],
      Joins-own _ _ end0 shelf0 _ calls shelf_calls marks _ _ _ _ _ c.ended-ended.ensures
          is.end_made is.shelf_made is.started c.close_unless_closed.ensures
          c.note_fault.ensures c.none.ensures c.refusals_of.ensures cause,
    )

pub returns-in-NoRoom-clause-joins : goal.returns-in-NoRoom-clause-joins
returns-in-NoRoom-clause-joins g c end0 shelf0 calls shelf_calls marks so cause =
    let is = subst
    (HasCrew g.F.Feeder.told g.W.Spawner.faults c.args.ctx.now.ends.now
    c.args.ctx.now.shelf.now end0 shelf0 calls shelf_calls marks c.args.crew) c.in-NoRoom.is
    so in (
      [],
      Joins-own _ _ end0 shelf0 _ calls shelf_calls marks _ _ _ _ _ c.ended-ended.ensures
          is.end_made is.shelf_made is.started c.close_unless_closed.ensures
          c.note_fault.ensures c.none.ensures c.refusals_of.ensures cause,
    )

pub returns-in-Refused-clause-joins : goal.returns-in-Refused-clause-joins
returns-in-Refused-clause-joins g c end0 shelf0 calls shelf_calls marks so cause =
    let is = subst
    (HasCrew g.F.Feeder.told g.W.Spawner.faults c.args.ctx.now.ends.now
    c.args.ctx.now.shelf.now end0 shelf0 calls shelf_calls marks c.args.crew) c.in-Refused.is
    so in (
      is.fed.own ∷ is.fed.others,
      c.absorb.ensures.joins _ (promises c.args.crew.running.items) [] is.promise is.is_new is.fed
          (inl
          (ap has_stopped
          (c.refusals_of.ensures
          ∙ ap refusals_of (c.ended-ended.ensures ∙ ap ended_by c.in-Refused.is))
          ∙ refusal_stops c.in-Refused.field-1))
          (Joins-own _ _ end0 shelf0 _ calls shelf_calls marks _ _ _ _ _ c.ended-ended.ensures
          is.end_made is.shelf_made is.started c.close_unless_closed.ensures
          c.note_fault.ensures c.none.ensures c.refusals_of.ensures cause),
    )

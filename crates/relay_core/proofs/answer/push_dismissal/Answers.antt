use Rattle.std.proofs.Common.{ap, sym, ◌∙◌, ◌∷◌, [], ◌++◌, append_assoc}
use Rattle.relay_core.specs.declared.action.Action.{Action}
use Rattle.relay_core.specs.Rooms.{at, dismissal}
use Rattle.relay_core.proofs.answer.push_dismissal.Goals as goal

pub returns-in_ok-push-2 : goal.returns-in_ok-push-2
returns-in_ok-push-2 c =
    let conn = c.in-Some.conn in
    let old = c.args.actions.now.items in
    let id = c.args.stamp.now.id in
    let moment = c.args.stamp.now.moment in
    c.in_ok-push-2.ensures.items
    ∙ ap (λ xs. xs ++ Action.Drop conn ∷ []) c.in_ok-push.ensures.items
    ∙ append_assoc old (Action.Send conn c.in_ok-closing.field-0 ∷ []) (Action.Drop conn ∷ [])
    ∙ ap (λ bytes. old ++ Action.Send conn bytes ∷ Action.Drop conn ∷ []) c.in_ok-closing.ensures
    ∙ ap (λ o. old ++ at o (dismissal c.args.session.now id moment)) (sym c.in-Some.is)

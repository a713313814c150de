use Rattle.json_bodies.specs.Action.{action_fields, IsTypedAction}
use Rattle.json_members.specs.Object.{object_with}
use Rattle.json_members.proofs.ArrayLemmas.{all_of_them, made_in_list, one_more, view-made}
use Rattle.json_bodies.proofs.action.Action.to_array.Goals as goal

pub loop-action-preserved : goal.loop-action-preserved
loop-action-preserved c =
    let actions = c.args.actions.now in
    let i = c.loop-action.action-index in
    let action = c.action-item.result in
    let made = made_in_list (λ a. object_with (action_fields a)) actions i action c.loop-action-test.true c.action-item.is
    c.loop-action.list.items c.in_ok-to_object.field-0 c.loop-action.invariant.made c.in_ok-to_object.ensures.object in
    record {
      made = rw c.in_ok-push.ensures.items made;
      typed = one_more (λ a. object_with (action_fields a)) actions i action c.loop-action-test.true c.action-item.is
          IsTypedAction c.loop-action.invariant.typed c.in_ok-to_object.ensures.typed;
    }

pub returns-clause-array : goal.returns-clause-array
returns-clause-array c =
    view-made (λ a. object_with (action_fields a)) c.args.actions.now c.loop-action.action-index _ c.loop-action-test.false c.loop-action.invariant.made

pub returns-clause-typed : goal.returns-clause-typed
returns-clause-typed c = all_of_them IsTypedAction c.args.actions.now c.loop-action.action-index c.loop-action-test.false c.loop-action.invariant.typed

use Rattle.std.proofs.Common.{◌≡◌, All, map, take}
use Rattle.serde_json.specs.View.{view}
use Rattle.json_bodies.specs.Action.{action_fields, IsTypedAction}
use Rattle.json_members.specs.Object.{object_with}
use Rattle.json_bodies.proofs.action.Action.to_array.Given as goal

abbrev pub invariant-loop-action : goal.invariant-loop-action
invariant-loop-action l = record {
  made : map view l.list.items
      ≡ map (λ action. object_with (action_fields action)) (take l.action-index l.actions);
  typed : All IsTypedAction (take l.action-index l.actions);
}
